-- The records of a threading cycle keep its promise, with or without a block's other records around them.
-- Assumes nothing.
use mathlib.Core.Path.{◌≡◌, refl, sym, ap, ◌∙◌, subst}
use mathlib.Core.Bool.{Bool, true, false, cond, not, ◌&&◌}
use mathlib.Core.List.{List, [], ◌∷◌, ◌++◌, map, append-nil}
use Prim.Native.Nat.{ℕ, ◌+◌, ◌-◌, ◌*◌}
use native.Mathlib.Omega.{arith}
use lib.Dec.{ltb}
use lib.IntN.{ℤ}
use lib.ListN.{length, take, drop, replicate, length-append, length-replicate}
use lib.Seq.{take-append_seam, drop-append_seam}
use borrow.Author.Tests.{ltb-false}
use Rattle.moves.specs.declared.Record.{Record}
use Rattle.axes.specs.Axis.{distance}
use Rattle.axes.specs.Goes.{rapid_to, thread_to}
use Rattle.depths.specs.Depths.{depths}
use Rattle.depths.specs.Promised.{Rises, Promised}
use Rattle.depths.proofs.Kept.{row_rises, promised}
use Rattle.threading.specs.declared.Thread.{Thread}
use Rattle.threading.specs.Threading.{wide, line_at, crest_beyond, wrong, pass_for, pass_on, passes, repeated, pass_depths, threading}
use Rattle.threading.specs.Threaded.{is_beside, from_first, before, up_to_last, motion, Goes, RapidTo, ThreadTo, AtDepth, PassesAt, none, pass, cuts_of, empties_of, Threaded}
use Rattle.threading.proofs.Asked.{right}
use Rattle.threading.proofs.Lines.{gap_of, gap, line_from_lem}

-- ---- reading the records that the cycle makes
module _ (t : Thread) where
  rapid_goes : (i a : ℤ) → RapidTo t i a (rapid_to t.facing i a)
  unfolding rapid_to
  rapid_goes i a = go t.facing
    where
      go : (f : Bool) → Goes f 1 0 i a (rapid_to f i a)
      go true = record { is = refl; plain = refl; worth = refl; inward = refl; across = refl }
      go false = record { is = refl; plain = refl; worth = refl; inward = refl; across = refl }

  pub thread_goes : (i a : ℤ) → ThreadTo t i a (thread_to t.facing t.pitch i a)
  unfolding thread_to
  thread_goes i a = go t.facing
    where
      go : (f : Bool) → Goes f 3 t.pitch i a (thread_to f t.pitch i a)
      go true = record { is = refl; plain = refl; worth = refl; inward = refl; across = refl }
      go false = record { is = refl; plain = refl; worth = refl; inward = refl; across = refl }

-- a rapid and a thread move are motion
rapid_moves : (facing : Bool) (i a : ℤ) → is_beside (rapid_to facing i a) ≡ false
unfolding rapid_to
rapid_moves true i a = refl
rapid_moves false i a = refl

thread_moves : (facing : Bool) (pitch : ℕ) (i a : ℤ) → is_beside (thread_to facing pitch i a) ≡ false
unfolding thread_to
thread_moves true pitch i a = refl
thread_moves false pitch i a = refl

kept_before : (r : Record) (rs : List Record) → is_beside r ≡ false → before r rs ≡ r ∷ rs
kept_before r [] h = ap (λ (b : Bool). cond b [] (r ∷ [])) h
kept_before r (s ∷ ss) h = refl

kept : (r : Record) {rs : List Record} → is_beside r ≡ false → up_to_last rs ≡ rs → up_to_last (r ∷ rs) ≡ r ∷ rs
unfolding up_to_last
kept r {rs} h e = ap (before r) e ∙ kept_before r rs h

module _ (t : Thread) where
  -- so that passes are all motion
  up_to_last_lem : (ls : List ℤ) → up_to_last (passes (pass_for t) ls) ≡ passes (pass_for t) ls
  unfolding passes pass_on up_to_last
  up_to_last_lem [] = refl
  up_to_last_lem (l ∷ ls) =
      let f = t.facing in
      kept (rapid_to f l t.path.start) (rapid_moves f l t.path.start)
      (kept (thread_to f t.pitch l t.path.target) (thread_moves f t.pitch l t.path.target)
      (kept (rapid_to f t.infeed.start t.path.target) (rapid_moves f t.infeed.start t.path.target)
      (kept (rapid_to f t.infeed.start t.path.start) (rapid_moves f t.infeed.start t.path.start) (up_to_last_lem ls))))

  from_first_lem : (ls : List ℤ) → from_first (passes (pass_for t) ls) ≡ passes (pass_for t) ls
  unfolding passes pass_on from_first
  from_first_lem [] = refl
  from_first_lem (l ∷ ls) =
      let p : List Record = pass_on (pass_for t) l ++ passes (pass_for t) ls in
      ap (λ (b : Bool). cond b (from_first (thread_to t.facing t.pitch l t.path.target ∷ rapid_to t.facing t.infeed.start t.path.target ∷ rapid_to t.facing t.infeed.start t.path.start ∷ passes (pass_for t) ls)) p) (rapid_moves t.facing l t.path.start)

  pub all_moves : (ls : List ℤ) → motion (passes (pass_for t) ls) ≡ passes (pass_for t) ls
  all_moves ls = ap up_to_last (from_first_lem ls) ∙ up_to_last_lem ls

-- ---- the line of a depth lies at it
short_by : (f m : Bool) (n x e : ℕ) → (not m && ltb n (wide f e)) ≡ false → (gap_of m n (wide f e) + wide f x) + cond f 1 2 * e ≡ n + cond f 1 2 * (x + cond m e 0)
unfolding wide
short_by true true n x e h = omega arith
short_by false true n x e h = omega arith
short_by true false n x e h = let k = ltb-false n e h in omega arith
short_by false false n x e h = let k = ltb-false n (2 * e) h in omega arith

module _ (t : Thread) (r : crest_beyond t ≡ false) where
  pub at_depth : (x : ℕ) → AtDepth t x (line_at t x)
  unfolding crest_beyond
  at_depth x = record {
    way = gap t + wide t.facing x;
    on = line_from_lem t r x;
    short = short_by t.facing t.nominal (distance t.infeed) x t.d6 r;
  }

  passes_at : (xs : List ℕ) → PassesAt t xs (passes (pass_for t) (map (line_at t) xs))
  unfolding passes pass_on
  passes_at [] = none
  passes_at (x ∷ xs) =
      pass (at_depth x) (record {
        in_to = rapid_goes t (line_at t x) t.path.start;
        cut_to = thread_goes t (line_at t x) t.path.target;
        out_to = rapid_goes t t.infeed.start t.path.target;
        back_to = rapid_goes t t.infeed.start t.path.start;
      }) (passes_at xs)

-- ---- the depths of the cuts, and of the empty ones behind them
repeated_is : (e x : ℕ) (ys : List ℕ) (n : ℕ) → Rises e x ys → repeated x ys n ≡ ys ++ replicate n e
unfolding repeated Rises
repeated_is e x [] n r = ap (replicate n) r
repeated_is e x (y ∷ ys) n r = ap (λ (v : List ℕ). y ∷ v) (repeated_is e y ys n r.1)

-- ---- THE PROMISE
pub threaded : (t : Thread) → wrong t ≡ false → Threaded t (threading t)
unfolding threading
threaded t w = record {
  depths = pass_depths t;
  passes = subst (PassesAt t (pass_depths t)) (sym (all_moves t (map (line_at t) (pass_depths t)))) (passes_at t (right t w).crest (pass_depths t));
  cuts = subst (Promised t.rule t.d3 t.d6) (sym cuts) (promised t.rule t.d3 t.d6 (right t w).proper);
  empties = empties;
}
  where
    row : List ℕ
    row = depths t.rule t.d3 t.d6

    tail : List ℕ
    tail = replicate t.empty t.d6

    is : pass_depths t ≡ row ++ tail
    is = repeated_is t.d6 0 row t.empty (row_rises t.rule t.d3 t.d6 (right t w).proper)

    behind : length (row ++ tail) - t.empty ≡ length row
    behind = omega (arith, length-append row tail, length-replicate t.empty t.d6)

    cuts : cuts_of t (pass_depths t) ≡ row
    cuts = ap (cuts_of t) is ∙ ap (λ (n : ℕ). take n (row ++ tail)) behind ∙ take-append_seam row tail

    empties : empties_of t (pass_depths t) ≡ tail
    empties = ap (empties_of t) is ∙ ap (λ (n : ℕ). drop n (row ++ tail)) behind ∙ drop-append_seam row tail

-- ---- with other records around them
abbrev pub AllBeside : List Record → Type 0
AllBeside [] = Unit {0}
AllBeside (r ∷ rs) = (is_beside r ≡ true) × AllBeside rs

beside_before : (v w : List Record) → AllBeside v → from_first (v ++ w) ≡ from_first w
unfolding from_first
beside_before [] w h = refl
beside_before (r ∷ v) w h = ap (λ (b : Bool). cond b (from_first (v ++ w)) (r ∷ (v ++ w))) h.0 ∙ beside_before v w h.1

beside_none : (w : List Record) → AllBeside w → up_to_last w ≡ []
unfolding up_to_last
beside_none [] h = refl
beside_none (r ∷ w) h = ap (before r) (beside_none w h.1) ∙ ap (λ (b : Bool). cond b [] (r ∷ [])) h.0

beside_last : (v w : List Record) → AllBeside w → up_to_last (v ++ w) ≡ up_to_last v
unfolding up_to_last
beside_last [] w h = beside_none w h
beside_last (r ∷ v) w h = ap (before r) (beside_last v w h)

beside_behind : (v w : List Record) → AllBeside w → motion (v ++ w) ≡ motion v
unfolding from_first up_to_last
beside_behind [] w h = none_left w h
  where
    none_left : (w : List Record) → AllBeside w → motion w ≡ []
    none_left w h = ap up_to_last (ap from_first (sym (append-nil w)) ∙ beside_before w [] h)
beside_behind (r ∷ v) w h = go (is_beside r) refl (beside_behind v w h)
  where
    go : (b : Bool) → is_beside r ≡ b → motion (v ++ w) ≡ motion v → motion ((r ∷ v) ++ w) ≡ motion (r ∷ v)
    go true e rest =
        ap (λ (b : Bool). up_to_last (cond b (from_first (v ++ w)) (r ∷ (v ++ w)))) e ∙ rest
        ∙ sym (ap (λ (b : Bool). up_to_last (cond b (from_first v) (r ∷ v))) e)
    go false e rest =
        ap (λ (b : Bool). up_to_last (cond b (from_first (v ++ w)) (r ∷ (v ++ w)))) e ∙ beside_last (r ∷ v) w h
        ∙ sym (ap (λ (b : Bool). up_to_last (cond b (from_first v) (r ∷ v))) e)

pub threaded_between : (t : Thread) (v rs w : List Record) → AllBeside v → AllBeside w → Threaded t rs → Threaded t (v ++ (rs ++ w))
threaded_between t v rs w h k p = record {
  depths = p.depths;
  passes = subst (PassesAt t p.depths) (sym (ap up_to_last (beside_before v (rs ++ w) h) ∙ beside_behind rs w k)) p.passes;
  cuts = p.cuts;
  empties = p.empties;
}
