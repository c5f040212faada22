-- Reading lines and depths off records: one record, rows joined, and the lines of a row of depths.
-- Assumes nothing.
use mathlib.Core.Path.{◌≡◌, refl, sym, ap, ◌∙◌}
use mathlib.Core.Bool.{Bool, true, false, cond, ◌&&◌, and-false}
use mathlib.Core.List.{List, [], ◌∷◌, ◌++◌, map}
use Prim.Native.Nat.{ℕ, zero, suc, ◌+◌, ◌-◌, ◌/◌, ◌%◌, ◌<◌, ◌≤◌}
use native.Mathlib.Nat.{le-div_iff_mul-le}
use native.Mathlib.Omega.{arith}
use lib.Dec.{ltb, eqb}
use lib.IntN.{ℤ, pos, ◌+ℤ◌, ◌-ℤ◌, nat_abs, neg_ℤ}
use lib.ListN.{replicate}
use borrow.Author.Tests.{lt-ltb}
use Rattle.whole.specs.declared.Side.{Side}
use Rattle.whole.specs.declared.Side.TheVariants.{Minus, Zero, Plus}
use Rattle.whole.specs.Signed.{along}
use Rattle.whole.proofs.Integers.{whole, add_in, sub_in, up_neg, down_neg, abs}
use Rattle.whole.proofs.Sides.{along_add, along_zero}
use Rattle.division.specs.Division.{pieces, sum}
use Rattle.moves.specs.declared.Record.{Record}
use Rattle.axes.specs.Goes.{dwell_at, inward_of}
use Rattle.axes.proofs.Axes.{Sided}
use Rattle.turning.specs.Turned.{feed_kind, beyond, each_depth}
use Rattle.turning.proofs.Turned.{Reads, beyond_along}
use Rattle.strokes.specs.Strokes.{Inward, cuts_at, lines_at, depths_at, Above, AddUp, Cut, untouched}

-- ---- a record that a cycle makes
pub dwell_reads : (facing : Bool) (t : ℕ) (i a : ℤ) → Reads facing (dwell_at facing t i a) 4 i a
unfolding dwell_at
dwell_reads true t i a = record { kind = refl; inward = refl; across = refl }
dwell_reads false t i a = record { kind = refl; inward = refl; across = refl }

module _ (w : Inward) (a : ℤ) {r : Record} {k : ℕ} {j q : ℤ} (reads : Reads w.facing r k j q) (rs : List Record) where
  lines_cons : lines_at w a (r ∷ rs) ≡ cond (eqb k feed_kind && (eqb (nat_abs (q -ℤ a)) 0 && ltb 0 (nat_abs (j -ℤ w.start)))) (j ∷ lines_at w a rs) (lines_at w a rs)
  unfolding lines_at cuts_at
  lines_cons =
      λ x. cond (eqb (reads.kind x) feed_kind && (eqb (nat_abs (reads.across x -ℤ a)) 0 && ltb 0 (nat_abs (reads.inward x -ℤ w.start)))) (reads.inward x ∷ lines_at w a rs) (lines_at w a rs)

  -- no feed
  pub passed_over : eqb k feed_kind ≡ false → lines_at w a (r ∷ rs) ≡ lines_at w a rs
  passed_over e = lines_cons ∙ ap (λ (t : Bool). cond (t && (eqb (nat_abs (q -ℤ a)) 0 && ltb 0 (nat_abs (j -ℤ w.start)))) (j ∷ lines_at w a rs) (lines_at w a rs)) e

  -- a feed that ends elsewhere across
  pub elsewhere : eqb (nat_abs (q -ℤ a)) 0 ≡ false → lines_at w a (r ∷ rs) ≡ lines_at w a rs
  elsewhere e =
      lines_cons ∙ ap (λ (t : Bool). cond (eqb k feed_kind && (t && ltb 0 (nat_abs (j -ℤ w.start)))) (j ∷ lines_at w a rs) (lines_at w a rs)) e
      ∙ ap (λ (t : Bool). cond t (j ∷ lines_at w a rs) (lines_at w a rs)) (and-false (eqb k feed_kind))

  -- a feed back to the start
  pub back_home : nat_abs (j -ℤ w.start) ≡ 0 → lines_at w a (r ∷ rs) ≡ lines_at w a rs
  back_home e =
      lines_cons ∙ ap (λ (n : ℕ). cond (eqb k feed_kind && (eqb (nat_abs (q -ℤ a)) 0 && ltb 0 n)) (j ∷ lines_at w a rs) (lines_at w a rs)) e
      ∙ ap (λ (t : Bool). cond (eqb k feed_kind && t) (j ∷ lines_at w a rs) (lines_at w a rs)) (and-false (eqb (nat_abs (q -ℤ a)) 0))
      ∙ ap (λ (t : Bool). cond t (j ∷ lines_at w a rs) (lines_at w a rs)) (and-false (eqb k feed_kind))

  -- a cut
  pub one_line : k ≡ feed_kind → nat_abs (q -ℤ a) ≡ 0 → 0 < nat_abs (j -ℤ w.start) → lines_at w a (r ∷ rs) ≡ j ∷ lines_at w a rs
  one_line e f g =
      lines_cons ∙ (λ x. cond (eqb (e x) feed_kind && (eqb (f x) 0 && lt-ltb 0 (nat_abs (j -ℤ w.start)) g x)) (j ∷ lines_at w a rs) (lines_at w a rs))

-- ---- rows joined
pub lines_append : (w : Inward) (a : ℤ) (rs qs : List Record) → lines_at w a (rs ++ qs) ≡ lines_at w a rs ++ lines_at w a qs
unfolding lines_at
lines_append w a [] qs = refl
lines_append w a (r ∷ rs) qs = go (cuts_at w a r) (lines_append w a rs qs)
  where
    i : ℤ
    i = inward_of w.facing r

    go : (t : Bool) → lines_at w a (rs ++ qs) ≡ lines_at w a rs ++ lines_at w a qs
        → cond t (i ∷ lines_at w a (rs ++ qs)) (lines_at w a (rs ++ qs)) ≡ cond t (i ∷ lines_at w a rs) (lines_at w a rs) ++ lines_at w a qs
    go true e = ap (λ (l : List ℤ). i ∷ l) e
    go false e = e

-- ---- the lines of a row of depths, from the depth t on
unfoldable pub lines_of : Inward → ℕ → List ℕ → List ℤ
lines_of w t [] = []
lines_of w t (d ∷ ds) = (w.start +ℤ along w.side (t + d)) ∷ lines_of w (t + d) ds

depths_from : (w : Inward) → Sided w.side → (t : ℕ) (ds : List ℕ) → each_depth w.side (w.start +ℤ along w.side t) (lines_of w t ds) ≡ map pos ds
unfolding each_depth lines_of
depths_from w s t [] = refl
depths_from w s t (d ∷ ds) =
    λ i. (ap (beyond w.side (w.start +ℤ along w.side t)) (sym (along_add w.start w.side t d)) ∙ beyond_along w.side (w.start +ℤ along w.side t) d s) i
    ∷ depths_from w s (t + d) ds i

-- ---- THE DEPTHS of such lines are the row
pub depths_row : (w : Inward) → Sided w.side → (ds : List ℕ) → each_depth w.side w.start (lines_of w 0 ds) ≡ map pos ds
depths_row w s ds = ap (λ (z : ℤ). each_depth w.side z (lines_of w 0 ds)) (sym (along_zero w.start w.side)) ∙ depths_from w s 0 ds

pub adds_up : (w : Inward) → Sided w.side → (a : ℤ) (rs : List Record) (ds : List ℕ) → lines_at w a rs ≡ lines_of w 0 ds → Above ds → sum ds ≡ w.stroke → AddUp w.stroke (depths_at w a rs)
adds_up w s a rs ds e h k = record { row = ds; is = ap (each_depth w.side w.start) e ∙ depths_row w s ds; above = h; whole = k }

-- ---- places
-- a place on the way that is not the start
pub on_way : (w : Inward) → Sided w.side → (m : ℕ) → 0 < m → 0 < nat_abs ((w.start +ℤ along w.side m) -ℤ w.start)
on_way w s m h = go w.side s
  where
    z : ℤ
    z = w.start

    go : (s : Side) → Sided s → 0 < nat_abs ((z +ℤ along s m) -ℤ z)
    go Minus t = omega (whole, abs ((z +ℤ neg_ℤ (pos m)) -ℤ z), sub_in (z +ℤ neg_ℤ (pos m)) z, add_in z (neg_ℤ (pos m)), up_neg (pos m), down_neg (pos m))
    go Zero t = absurd t
    go Plus t = omega (whole, abs ((z +ℤ pos m) -ℤ z), sub_in (z +ℤ pos m) z, add_in z (pos m))

pub same_place : (z : ℤ) → nat_abs (z -ℤ z) ≡ 0
same_place z = omega (whole, abs (z -ℤ z), sub_in z z)

pub no_distance : (z a : ℤ) → nat_abs (z -ℤ a) ≡ 0 → z ≡ a
no_distance z a e = omega (whole, abs (z -ℤ a), sub_in z a)

-- ---- the pieces of a division that has no more of them than units are above 0
above_append : (a b : List ℕ) → Above a → Above b → Above (a ++ b)
above_append [] b h k = k
above_append (x ∷ a) b h k = (h.0, above_append a b h.1 k)

above_replicate : (n x : ℕ) → 0 < x → Above (replicate n x)
above_replicate zero x h = tt
above_replicate (suc n) x h = (h, above_replicate n x h)

pub pieces_above : (e n : ℕ) → 0 < n → n ≤ e → Above (pieces e n)
unfolding pieces
pieces_above e n h k =
    let q : 1 ≤ e / n = (le-div_iff_mul-le {k = n} {x = 1} {y = e} h).1 (omega arith) in
    above_append (replicate (e % n) (e / n + 1)) (replicate (n - e % n) (e / n)) (above_replicate (e % n) (e / n + 1) (omega arith)) (above_replicate (n - e % n) (e / n) (omega arith))

-- nothing is cut where there is no line
pub untouched_at : (w : Inward) (a : ℤ) (rs : List Record) → lines_at w a rs ≡ [] → Cut w.stroke (depths_at w a rs)
unfolding each_depth
untouched_at w a rs e = untouched (ap (each_depth w.side w.start) e)
