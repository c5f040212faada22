-- The clauses of a run that no run reaches.
-- Assumes nothing.
use mathlib.Core.Path.{◌≡◌, refl, sym, ap, subst}
use mathlib.Core.Bool.{Bool, true, false, cond, ◌||◌}
use mathlib.Core.List.{[], ◌∷◌}
use Prim.Native.Nat.{ℕ, zero, suc, ◌<◌, ◌≤◌}
use native.Mathlib.Omega.{arith}
use lib.Dec.{ltb, eqb}
use borrow.Author.Tests.{eq-eqb}
use Rattle.alarms.specs.Numbers.{too_many_begun, too_deep, program_missing, wrong_end}
use Rattle.tape.specs.Lines.{lines}
use Rattle.settings.specs.Wrong.{highest_subroutine}
use Rattle.finding.specs.Finding.{find_program, block_of_program}
use Rattle.places.specs.declared.Found.{Found}
use Rattle.places.specs.declared.Found.TheVariants.{At, Nowhere}
use Rattle.requests.specs.Request.{request_of}
use Rattle.requests.specs.declared.Request.{Request}
use Rattle.requests.specs.declared.Request.TheVariants as asks
use Rattle.ahead.specs.Ahead.{most_calls, onto, called_at, jumped_to, looked_by, looked_up}
use Rattle.ahead.specs.declared.Frame.{Frame}
use Rattle.ahead.specs.declared.ProgramAt.{ProgramAt}
use Rattle.ahead.specs.declared.Onward.{Onward}
use Rattle.ahead.specs.declared.Onward.TheVariants.{On, Call, Jump, Return, End, Stop}
use Rattle.demands.specs.of_taking.Steps.{Task, Step, block_on, onward_by, onward_of, run_after}
use Rattle.demands.specs.of_taking.declared.Run.{Run}
use Rattle.demands.specs.of_runners.Runs.{Ran, pre, go_back, and_then, go_on, onward, blocks, enough, called, entry}
use Rattle.demands.specs.of_runners.declared.Ending.{Ending}
use Rattle.demands.specs.of_runners.declared.Ending.TheVariants.{Returned, Ended, Stopped}
use Rattle.alarmed.specs.Never.{NeverReturns, NeverCalls, FuelLasts}
use Rattle.alarmed.proofs.Taking.{by_taken, one_fewer, called_few}

-- ---- with no call left no call is asked for
abbrev IsCall : Onward → Type 0
IsCall On = ⊥
IsCall (Call p times) = Unit {0}
IsCall (Jump p) = ⊥
IsCall Return = ⊥
IsCall End = ⊥
IsCall (Stop alarm place) = ⊥

not_both : (P : Onward → Type 0) (c : Bool) (x y : Onward) → (P x → ⊥) → (P y → ⊥) → P (cond c x y) → ⊥
not_both P true x y h k = h
not_both P false x y h k = k

module _ (t : Task) (f : Frame) where
  found_uncalled : eqb f.calls_left 0 ≡ true → (g : Found) (n times : ℕ) → IsCall (called_at g n f times) → ⊥
  unfolding called_at
  found_uncalled e Nowhere n times h = h
  found_uncalled e (At p) n times h = subst (λ (b : Bool). IsCall (cond b (Stop too_deep f.at) (Call (record { number = n; line = p }) times))) e h

  jump_uncalled : (g : Found) → IsCall (jumped_to g f) → ⊥
  unfolding jumped_to
  jump_uncalled Nowhere h = h
  jump_uncalled (At p) h = h

  looked_uncalled : eqb f.calls_left 0 ≡ true → (q : Request) → IsCall (looked_up t.tape t.settings t.first f q) → ⊥
  unfolding looked_up looked_by
  looked_uncalled e asks.On h = h
  looked_uncalled e (asks.Call n times) h =
      not_both IsCall (ltb n t.settings.lowest_subroutine || ltb highest_subroutine n) (Stop program_missing f.at) (called_at (find_program n (lines t.tape t.first)) n f times) (λ x. x)
      (found_uncalled e (find_program n (lines t.tape t.first)) n times) h
  looked_uncalled e (asks.Jump n) h = jump_uncalled (block_of_program n t.tape f.program.line) h
  looked_uncalled e asks.Return h = not_both IsCall (eqb f.calls_left most_calls) (Stop wrong_end f.at) Return (λ x. x) (λ x. x) h
  looked_uncalled e asks.End h = not_both IsCall (eqb f.calls_left most_calls) End (Stop wrong_end f.at) (λ x. x) (λ x. x) h

pub never_calls : NeverCalls
unfolding onward_by
never_calls t f r none program times e =
    let q = request_of (block_on t.tape f.at) in
    not_both IsCall (eqb r.blocks_left 0) (Stop too_many_begun f.at) (looked_up t.tape t.settings t.first f q) (λ x. x)
    (looked_uncalled t f (eq-eqb f.calls_left 0 none) q) (subst IsCall (sym e) tt)

-- ---- a program with ten calls left never comes back
abbrev IsReturn : Onward → Type 0
IsReturn On = ⊥
IsReturn (Call p times) = ⊥
IsReturn (Jump p) = ⊥
IsReturn Return = Unit {0}
IsReturn End = ⊥
IsReturn (Stop alarm place) = ⊥

abbrev IsReturned : Ending → Type 0
IsReturned Returned = Unit {0}
IsReturned Ended = ⊥
IsReturned (Stopped alarm place) = ⊥

module _ (t : Task) (f : Frame) (main : eqb f.calls_left most_calls ≡ true) where
  found_stays : (g : Found) (n times : ℕ) → IsReturn (called_at g n f times) → ⊥
  unfolding called_at
  found_stays Nowhere n times h = h
  found_stays (At p) n times h = not_both IsReturn (eqb f.calls_left 0) (Stop too_deep f.at) (Call (record { number = n; line = p }) times) (λ x. x) (λ x. x) h

  jump_stays : (g : Found) → IsReturn (jumped_to g f) → ⊥
  unfolding jumped_to
  jump_stays Nowhere h = h
  jump_stays (At p) h = h

  looked_stays : (q : Request) → IsReturn (looked_up t.tape t.settings t.first f q) → ⊥
  unfolding looked_up looked_by
  looked_stays asks.On h = h
  looked_stays (asks.Call n times) h =
      not_both IsReturn (ltb n t.settings.lowest_subroutine || ltb highest_subroutine n) (Stop program_missing f.at) (called_at (find_program n (lines t.tape t.first)) n f times) (λ x. x)
      (found_stays (find_program n (lines t.tape t.first)) n times) h
  looked_stays (asks.Jump n) h = jump_stays (block_of_program n t.tape f.program.line) h
  looked_stays asks.Return h = subst (λ (b : Bool). IsReturn (cond b (Stop wrong_end f.at) Return)) main h
  looked_stays asks.End h = not_both IsReturn (eqb f.calls_left most_calls) End (Stop wrong_end f.at) (λ x. x) (λ x. x) h

  onward_stays : (r : Run) → IsReturn (onward_of t f r) → ⊥
  unfolding onward_by
  onward_stays r h =
      let q = request_of (block_on t.tape f.at) in
      not_both IsReturn (eqb r.blocks_left 0) (Stop too_many_begun f.at) (looked_up t.tape t.settings t.first f q) (λ x. x) (looked_stays q) h

abbrev Back : Ran → Type 0
Back x = IsReturned x.outcome.ending

back_stays : (h : Ending) (x : Ran) (k : Run → Ran) → x.outcome.ending ≡ h → ((q : Run) → Back (k q) → ⊥) → Back (go_back h x k) → ⊥
unfolding go_back pre
back_stays Returned x k e f b = f x.outcome.run b
back_stays Ended x k e f b = subst IsReturned e b
back_stays (Stopped alarm place) x k e f b = subst IsReturned e b

on_stays : (call : ProgramAt → ℕ → Run → Ran) (k : ℕ → Run → Ran) → ((p : ℕ) (q : Run) → Back (k p q) → ⊥) → (w : Onward) → (IsReturn w → ⊥) → (q : Run) (after : ℕ) (st : Step)
    → Back (go_on call k w q after st) → ⊥
unfolding go_on pre and_then
on_stays call k f On h q after st b = f after q b
on_stays call k f (Jump p) h q after st b = f p q b
on_stays call k f (Call p times) h q after st b = back_stays (call p times q).outcome.ending (call p times q) (k after) refl (f after) b
on_stays call k f Return h q after st b = h tt
on_stays call k f End h q after st b = b
on_stays call k f (Stop alarm place) h q after st b = b

blocks_stay : (call : ProgramAt → ℕ → Run → Ran) (t : Task) (fuel : ℕ) (f : Frame) → eqb f.calls_left most_calls ≡ true → (r : Run) → Back (blocks call t fuel f r) → ⊥
unfolding blocks onward
blocks_stay call t zero f main r = λ b. b
blocks_stay call t (suc fuel) f main r =
    let k : ℕ → Run → Ran = λ p s. blocks call t fuel (onto f p) s in
    let go : (w : Onward) → (IsReturn w → ⊥) → (q : Run) (after : ℕ) (st : Step) → Back (go_on call k w q after st) → ⊥ =
    on_stays call k (λ p q. blocks_stay call t fuel (onto f p) main q) in
    by_taken t f r (λ x. Back (onward call k x) → ⊥) (λ _. go _ (λ x. x) _ _ _) (λ p _ _. go _ (λ x. x) _ _ _) (λ p _ e. go _ (onward_stays t (onto f p) main r) _ _ _)

pub never_returns : NeverReturns
never_returns t program r e = blocks_stay (called t most_calls) t enough (entry t program most_calls) (eq-eqb most_calls most_calls refl) r (subst IsReturned (sym e) tt)

-- ---- the fuel is never used up
module _ (t : Task) (calls : ℕ) where
  abbrev call : ProgramAt → ℕ → Run → Ran
  call p times r = called t calls p times r

  -- two ways on that agree on runs with few blocks left
  module _ (left : ℕ) (k l : ℕ → Run → Ran) (same : (p : ℕ) (q : Run) → q.blocks_left ≤ left → k p q ≡ l p q) where
    back_same : (h : Ending) (x : Ran) (after : ℕ) → x.outcome.run.blocks_left ≤ left → go_back h x (k after) ≡ go_back h x (l after)
    unfolding go_back
    back_same Returned x after a = ap (pre x.steps) (same after x.outcome.run a)
    back_same Ended x after a = refl
    back_same (Stopped alarm place) x after a = refl

    on_same : (w : Onward) (q : Run) (after : ℕ) (st : Step) → q.blocks_left ≤ left → go_on call k w q after st ≡ go_on call l w q after st
    unfolding go_on and_then
    on_same On q after st a = ap (pre (st ∷ [])) (same after q a)
    on_same (Jump p) q after st a = ap (pre (st ∷ [])) (same p q a)
    on_same (Call p times) q after st a =
        ap (pre (st ∷ [])) (back_same (call p times q).outcome.ending (call p times q) after (called_few t calls p times left q a))
    on_same Return q after st a = refl
    on_same End q after st a = refl
    on_same (Stop alarm place) q after st a = refl

  stop_same : (k l : ℕ → Run → Ran) (alarm place : ℕ) (q : Run) (after : ℕ) (st : Step) → go_on call k (Stop alarm place) q after st ≡ go_on call l (Stop alarm place) q after st
  unfolding go_on
  stop_same k l alarm place q after st = refl

  blocks_same : (n m : ℕ) (f : Frame) (r : Run) → r.blocks_left < n → r.blocks_left < m → blocks call t n f r ≡ blocks call t m f r
  unfolding blocks onward
  blocks_same zero m f r a b = absurd (omega (arith, a))
  blocks_same (suc n) zero f r a b = absurd (omega (arith, b))
  blocks_same (suc n) (suc m) f r a b =
      let k : ℕ → Run → Ran = λ p s. blocks call t n (onto f p) s in
      let l : ℕ → Run → Ran = λ p s. blocks call t m (onto f p) s in
      by_taken t f r (λ x. onward call k x ≡ onward call l x) (λ _. stop_same k l _ _ r _ _) (λ p _ _. stop_same k l _ _ r _ _)
      (λ p _ e.
      let fewer = one_fewer t (onto f p) r e in
      let q = run_after t p r in
      on_same q.blocks_left k l (λ at s h. blocks_same n m (onto f at) s (omega (arith, a, fewer, h)) (omega (arith, b, fewer, h))) (onward_of t (onto f p) r) q _ _ (omega arith))

pub fuel_lasts : FuelLasts
fuel_lasts t calls n m f r a b = blocks_same t calls n m f r a b
