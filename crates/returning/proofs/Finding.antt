-- Programs that were on the tape are still those, wherever a run goes on; and what a run goes on with stays as it is: how far the tape is read, the entries of the table of places, the run behind
-- the block.
-- Assumes nothing.
use mathlib.Core.Path.{◌≡◌, refl, sym, ap, subst, ◌∙◌}
use mathlib.Core.Bool.{Bool, true, false}
use mathlib.Core.List.{List, ◌∷◌}
use Prim.Native.Nat.{ℕ, zero, suc, ◌+◌, ◌-◌, ◌≤◌}
use native.Mathlib.Omega.{arith}
use lib.Dec.{eqb}
use lib.ListN.{length, get_or, set, take, length-set}
use borrow.Author.Tests.{eqb-true, eqb-false}
use Rattle.finding.specs.Finds.{Finds}
use Rattle.ahead.specs.Ahead.{most_calls, FoundAt}
use Rattle.ahead.specs.declared.ProgramAt.{ProgramAt}
use Rattle.ahead.specs.declared.Onward.{Onward}
use Rattle.ahead.specs.declared.Onward.TheVariants.{On, Call, Jump, Return, End, Stop}
use Rattle.ahead.proofs.Places.{found_within}
use Rattle.paused.specs.of_taking.Hands.{Leads}
use Rattle.paused.specs.of_taking.declared.Run.{Run}
use Rattle.paused.specs.of_resuming.declared.Waiting.{Waiting}
use Rattle.paused.specs.of_resuming.Remains.{waiting}
use Rattle.paused.specs.Kept.{nobody}
use Rattle.paused.specs.declared.Phase.{Phase}
use Rattle.paused.specs.declared.Phase.TheVariants.{Running}
use Rattle.paused.specs.declared.Going.{Going}
use Rattle.returning.specs.Standing.{stack_of, depth_of, AllFound, Placed, PlacedOn}
use Rattle.returning.specs.Moving.{moved_to, last_of, top_of, popped_to, repeated_to, came_back, pushed_to, called_to, program_within, gone_on}
use Rattle.returning.proofs.Moving.{came_main, came_popped, came_repeated, called_deep, called_in}
use Rattle.returning.proofs.Going.{within_is, stack_push}

-- ---- what stays
pub record Same (g : Going) (r : Run) (x : Going) : Type 0 where
  pub end : x.end ≡ g.end
  pub filled : x.filled ≡ g.filled
  pub run : x.run ≡ r

module _ (tape : List ℕ) where
  back_stays : (g : Going) → Same g g.run (came_back tape g)
  back_stays g = go (eqb g.frame.calls_left most_calls) refl
    where
      by : (h : g.frame.calls_left ≡ most_calls → ⊥) (t : Bool) → eqb (top_of g).times 0 ≡ t → Same g g.run (came_back tape g)
      by h true z = subst (Same g g.run) (came_popped tape g h refl (eqb-true (top_of g).times 0 z)) (record { end = refl; filled = refl; run = refl })
      by h false z = subst (Same g g.run) (came_repeated tape g h refl (eqb-false (top_of g).times 0 z)) (record { end = refl; filled = refl; run = refl })

      go : (t : Bool) → eqb g.frame.calls_left most_calls ≡ t → Same g g.run (came_back tape g)
      go true e = subst (Same g g.run) (came_main tape g (eqb-true g.frame.calls_left most_calls e)) (record { end = refl; filled = refl; run = refl })
      go false e = by (eqb-false g.frame.calls_left most_calls e) (eqb (top_of g).times 0) refl

  call_stays : (g : Going) (r : Run) (p : ProgramAt) (n after : ℕ) → Same g r (called_to tape g r p n after)
  call_stays g r p n after = go (eqb g.frame.calls_left 0) refl
    where
      go : (t : Bool) → eqb g.frame.calls_left 0 ≡ t → Same g r (called_to tape g r p n after)
      go true e = subst (Same g r) (called_deep tape g r p n after (eqb-true g.frame.calls_left 0 e)) (record { end = refl; filled = refl; run = refl })
      go false e =
          let b = back_stays (pushed_to g r p n after) in
          subst (Same g r) (called_in tape g r p n after (eqb-false g.frame.calls_left 0 e)) (record { end = b.end; filled = b.filled; run = b.run })

  pub gone_stays : (g : Going) (w : Onward) (r : Run) (after : ℕ) → Same g r (gone_on tape g w r after)
  unfolding gone_on
  gone_stays g On r after = record { end = refl; filled = refl; run = refl }
  gone_stays g (Jump p) r after = record { end = refl; filled = refl; run = refl }
  gone_stays g (Call p n) r after = call_stays g r (program_within (length tape) p) n after
  gone_stays g Return r after = let b = back_stays (moved_to g g.frame r) in record { end = b.end; filled = b.filled; run = b.run }
  gone_stays g End r after = record { end = refl; filled = refl; run = refl }
  gone_stays g (Stop alarm place) r after = record { end = refl; filled = refl; run = refl }

-- ---- programs on the tape
module _ (tape places : List ℕ) (first : ℕ) where
  abbrev Still : Going → Type 0
  Still x = PlacedOn x.phase tape places first x

  still : (x : Going) → x.phase ≡ Running → Placed tape places first x → Still x
  still x on p = subst (λ (y : Phase). PlacedOn y tape places first x) (sym on) p

  all_found : (w : Waiting) (ws : List Waiting) → FoundAt tape first w.program → AllFound tape first ws → AllFound tape first (w ∷ ws)
  unfolding AllFound
  all_found w ws a b = (a, b)

  -- a return
  module _ (g : Going) (on : g.phase ≡ Running) (size : length g.waiting ≡ most_calls) (few : g.frame.calls_left ≤ most_calls) (finds : Finds (take g.filled places) tape first)
      (there : FoundAt tape first g.frame.program) where
    module _ (d : ℕ) (e : depth_of g ≡ suc d) (waits : AllFound tape first (stack_of g.waiting (suc d))) where
      abbrev last : Waiting
      last = get_or g.waiting d nobody

      place : last_of g ≡ d
      place = omega arith

      is_top : last ≡ top_of g
      is_top = ap (λ (n : ℕ). get_or g.waiting n nobody) (sym place)

      both : FoundAt tape first last.program × AllFound tape first (stack_of g.waiting d)
      unfolding stack_of AllFound
      both = waits

      under : g.frame.calls_left ≡ most_calls → ⊥
      under h = omega (arith, h)

      popped : Still (popped_to g last)
      popped =
          let q : most_calls - (g.frame.calls_left + 1) ≡ d = omega arith in
          still (popped_to g last) on (record { finds = finds; there = both.0; waits = subst (λ (n : ℕ). AllFound tape first (stack_of g.waiting n)) (sym q) both.1 })

      repeated : Still (repeated_to tape g last)
      repeated =
          let w : Waiting = waiting last.program last.after (last.times - 1) in
          let f : stack_of (set g.waiting (last_of g) w) (depth_of g) ≡ w ∷ stack_of g.waiting d =
          (λ i. stack_of (set g.waiting (place i) w) (e i)) ∙ stack_push g.waiting d w (omega (arith, size)) in
          still (repeated_to tape g last) on (record { finds = finds; there = there; waits = subst (AllFound tape first) (sym f) (all_found w (stack_of g.waiting d) both.0 both.1) })

      came : (t : Bool) → eqb last.times 0 ≡ t → Still (came_back tape g)
      came true z = subst Still (came_popped tape g under is_top (eqb-true last.times 0 z)) popped
      came false z = subst Still (came_repeated tape g under is_top (eqb-false last.times 0 z)) repeated

    back_placed : AllFound tape first (stack_of g.waiting (depth_of g)) → Still (came_back tape g)
    back_placed waits = go (depth_of g) refl
      where
        go : (d : ℕ) → depth_of g ≡ d → Still (came_back tape g)
        go zero e = subst Still (came_main tape g (omega arith)) tt
        go (suc d) e = came d e (subst (λ (n : ℕ). AllFound tape first (stack_of g.waiting n)) e waits) (eqb (get_or g.waiting d nobody).times 0) refl

  -- a call
  module _ (g : Going) (on : g.phase ≡ Running) (size : length g.waiting ≡ most_calls) (few : g.frame.calls_left ≤ most_calls) (p : Placed tape places first g) where
    call_placed : (r : Run) (called : ProgramAt) (n after : ℕ) → FoundAt tape first called → Still (called_to tape g r called n after)
    call_placed r called n after there = go (eqb g.frame.calls_left 0) refl
      where
        w : Waiting
        w = waiting g.frame.program after n

        left : ℕ
        left = g.frame.calls_left

        pushed : (left ≡ 0 → ⊥) → stack_of (set g.waiting (most_calls - 1 - (left - 1)) w) (most_calls - (left - 1)) ≡ w ∷ stack_of g.waiting (depth_of g)
        pushed some =
            let at : most_calls - 1 - (left - 1) ≡ depth_of g = omega arith in
            let deep : most_calls - (left - 1) ≡ suc (depth_of g) = omega arith in
            (λ i. stack_of (set g.waiting (at i) w) (deep i)) ∙ stack_push g.waiting (depth_of g) w (omega (arith, size))

        go : (t : Bool) → eqb left 0 ≡ t → Still (called_to tape g r called n after)
        go true e = subst Still (called_deep tape g r called n after (eqb-true left 0 e)) tt
        go false e =
            let some = eqb-false left 0 e in
            subst Still (called_in tape g r called n after some)
            (back_placed (pushed_to g r called n after) on (length-set g.waiting (most_calls - 1 - (left - 1)) w ∙ size) (omega arith) p.finds there
            (subst (AllFound tape first) (sym (pushed some)) (all_found w (stack_of g.waiting (depth_of g)) p.there p.waits)))

    -- behind a step
    pub gone_placed : (w : Onward) (r : Run) (after : ℕ) → Leads tape first w → Still (gone_on tape g w r after)
    unfolding gone_on
    gone_placed On r after k = still _ on (record { finds = p.finds; there = p.there; waits = p.waits })
    gone_placed (Jump q) r after k = still _ on (record { finds = p.finds; there = p.there; waits = p.waits })
    gone_placed (Call q n) r after k =
        let e = within_is (length tape) q.line (found_within tape first q k) in
        call_placed r (program_within (length tape) q) n after (subst (λ (x : ℕ). FoundAt tape first (record { number = q.number; line = x })) (sym e) k)
    gone_placed Return r after k = back_placed (moved_to g g.frame r) on size few p.finds p.there p.waits
    gone_placed End r after k = tt
    gone_placed (Stop alarm place) r after k = tt
