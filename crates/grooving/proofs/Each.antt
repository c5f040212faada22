-- Every record of a groove that is not wrong: each is a feed, a rapid or a dwell at a depth no deeper than the groove and at a width place no farther than the last plunge.
-- And two of them: the rapid to the start, and the feed to the bottom of the last plunge.
-- Assumes nothing.
use mathlib.Core.Path.{◌≡◌, sym, ap, ◌∙◌, subst}
use mathlib.Core.Bool.{Bool, true, false, cond}
use mathlib.Core.List.{List, [], ◌∷◌, ◌++◌}
use Prim.Native.Nat.{ℕ, ◌+◌, ◌-◌, ◌<◌, ◌≤◌}
use native.Mathlib.Nat.{add-zero}
use native.Mathlib.Omega.{arith}
use lib.Dec.{eqb}
use lib.IntN.{ℤ, ◌+ℤ◌}
use lib.ListN.{length}
use Rattle.whole.specs.declared.Side.TheVariants.{Minus}
use Rattle.whole.specs.Signed.{along}
use Rattle.division.specs.Division.{sum}
use Rattle.whole.proofs.Sides.{along_add, along_zero, arrives}
use Rattle.moves.specs.declared.Record.{Record}
use Rattle.axes.specs.Goes.{dwell_at}
use Rattle.axes.proofs.Every.{Every, joined, front, behind}
use Rattle.grooving.specs.declared.Groove.{Groove}
use Rattle.grooving.specs.Grooving.{length_of, way_of, wrong, rest, steps, last_width, cuts, cut_to, out_to, deep_at, cutting, dwelling, plunge, plunges, after_first, grooving}
use Rattle.grooving.proofs.Rows.{some_cuts, cuts_length, cuts_sum, steps_sum}

-- ---- places
-- the width place n below the start
abbrev pub width_at : Groove → ℕ → ℤ
width_at g n = g.width.start +ℤ along Minus n

pub deep_start : (g : Groove) → deep_at g 0 ≡ g.depth.start
deep_start g = along_zero g.depth.start (way_of g.depth)

pub deep_target : (g : Groove) → deep_at g (length_of g.depth) ≡ g.depth.target
deep_target g = arrives g.depth.start g.depth.target

pub width_start : (g : Groove) → width_at g 0 ≡ g.width.start
width_start g = along_zero g.width.start Minus

-- ---- THE LAW: what holds of the three kinds of records at all such places holds of every record
pub record Kinds (g : Groove) (P : Record → Type 0) : Type 0 where
  pub cut : (m n : ℕ) → m ≤ length_of g.depth → n ≤ rest g → P (cut_to g (width_at g n) (deep_at g m))
  pub out : (m n : ℕ) → m ≤ length_of g.depth → n ≤ rest g → P (out_to g (width_at g n) (deep_at g m))
  pub dwell : (m n : ℕ) → m ≤ length_of g.depth → n ≤ rest g → P (dwell_at g.facing g.dwell (deep_at g m) (width_at g n))

module _ (g : Groove) (P : Record → Type 0) (k : Kinds g P) where
  out_every : (n : ℕ) → n ≤ rest g → P (out_to g (width_at g n) g.depth.start)
  out_every n h = subst (λ (d : ℤ). P (out_to g (width_at g n) d)) (deep_start g) (k.out 0 n (omega arith) h)

  cutting_every : (n : ℕ) → n ≤ rest g → (t : ℕ) (ds : List ℕ) → t + sum ds ≤ length_of g.depth → Every P (cutting g (width_at g n) t ds)
  unfolding cutting
  cutting_every n h t [] e = tt
  cutting_every n h t (d ∷ []) e = (k.cut (t + d) n (omega arith) h, tt)
  cutting_every n h t (d ∷ (d' ∷ ds)) e =
      (k.cut (t + d) n (omega arith) h, (k.out (t + d - g.back) n (omega arith) h, cutting_every n h (t + d) (d' ∷ ds) (omega arith)))

  dwelling_every : (n : ℕ) → n ≤ rest g → Every P (dwelling g (width_at g n))
  unfolding dwelling
  dwelling_every n h = go (eqb g.dwell 0)
    where
      go : (t : Bool) → Every P (cond t [] (dwell_at g.facing g.dwell g.depth.target (width_at g n) ∷ []))
      go true = tt
      go false = (subst (λ (d : ℤ). P (dwell_at g.facing g.dwell d (width_at g n))) (deep_target g) (k.dwell (length_of g.depth) n (omega arith) h), tt)

  plunge_every : wrong g ≡ false → (n : ℕ) → n ≤ rest g → Every P (plunge g (width_at g n))
  unfolding plunge
  plunge_every q n h =
      joined P (cutting g (width_at g n) 0 (cuts g)) (dwelling g (width_at g n) ++ (out_to g (width_at g n) g.depth.start ∷ []))
      (cutting_every n h 0 (cuts g) (omega (arith, cuts_sum g q)))
      (joined P (dwelling g (width_at g n)) (out_to g (width_at g n) g.depth.start ∷ []) (dwelling_every n h) (out_every n h, tt))

  plunges_every : wrong g ≡ false → (n : ℕ) (ss : List ℕ) → n + sum ss ≤ rest g → Every P (plunges g (width_at g n) ss)
  unfolding plunges
  plunges_every q n [] h = (subst (λ (w : ℤ). P (out_to g w g.depth.start)) (width_start g) (out_every 0 (omega arith)), tt)
  plunges_every q n (s ∷ ss) h =
      subst (λ (w : ℤ). Every P (out_to g w g.depth.start ∷ (plunge g w ++ plunges g w ss))) (sym (along_add g.width.start Minus n s)) (
        out_every (n + s) (omega arith),
        joined P (plunge g (width_at g (n + s))) (plunges g (width_at g (n + s)) ss) (plunge_every q (n + s) (omega arith)) (plunges_every q (n + s) ss (omega arith)),
      )

  pub grooving_every : wrong g ≡ false → Every P (grooving g)
  unfolding grooving
  grooving_every q =
      joined P (plunge g g.width.start) (after_first g (steps g))
      (subst (λ (w : ℤ). Every P (plunge g w)) (width_start g) (plunge_every q 0 (omega arith)))
      (go (steps g) (omega (arith, steps_sum g q)))
    where
      go : (ss : List ℕ) → sum ss ≤ rest g → Every P (after_first g ss)
      go [] h = tt
      go (s ∷ ss) h = subst (λ (w : ℤ). Every P (plunges g w (s ∷ ss))) (width_start g) (plunges_every q 0 (s ∷ ss) (omega arith))

-- ---- two records of a groove
module _ (g : Groove) (P : Record → Type 0) where
  cutting_bottom : (w : ℤ) (t : ℕ) (ds : List ℕ) → 0 < length ds → Every P (cutting g w t ds) → P (cut_to g w (deep_at g (t + sum ds)))
  unfolding cutting
  cutting_bottom w t [] h e = absurd (omega arith)
  cutting_bottom w t (d ∷ []) h e = subst (λ (m : ℕ). P (cut_to g w (deep_at g m))) (omega arith) e.0
  cutting_bottom w t (d ∷ (d' ∷ ds)) h e =
      subst (λ (m : ℕ). P (cut_to g w (deep_at g m))) (omega arith) (cutting_bottom w (t + d) (d' ∷ ds) (omega arith) e.1.1)

  -- the bottom of a plunge, and the rapid out of it
  plunge_bottom : wrong g ≡ false → (w : ℤ) → Every P (plunge g w) → P (cut_to g w g.depth.target)
  unfolding plunge
  plunge_bottom q w e =
      subst (λ (d : ℤ). P (cut_to g w d)) (ap (deep_at g) bottom ∙ deep_target g)
      (cutting_bottom w 0 (cuts g) (omega (arith, cuts_length g q, some_cuts g q))
      (front P (cutting g w 0 (cuts g)) (dwelling g w ++ (out_to g w g.depth.start ∷ [])) e))
    where
      bottom : 0 + sum (cuts g) ≡ length_of g.depth
      bottom = omega (arith, cuts_sum g q)

  plunge_out : (w : ℤ) → Every P (plunge g w) → P (out_to g w g.depth.start)
  unfolding plunge
  plunge_out w e =
      (behind P (dwelling g w) (out_to g w g.depth.start ∷ []) (behind P (cutting g w 0 (cuts g)) (dwelling g w ++ (out_to g w g.depth.start ∷ [])) e)).0

  plunges_bottom : wrong g ≡ false → (w : ℤ) (ss : List ℕ) → 0 < length ss → Every P (plunges g w ss) → P (cut_to g (w +ℤ along Minus (sum ss)) g.depth.target)
  unfolding plunges
  plunges_bottom q w [] h e = absurd (omega arith)
  plunges_bottom q w (s ∷ []) h e =
      let v = w +ℤ along Minus s in
      subst (λ (n : ℕ). P (cut_to g (w +ℤ along Minus n) g.depth.target)) (sym (add-zero s))
      (plunge_bottom q v (front P (plunge g v) (plunges g v []) e.1))
  plunges_bottom q w (s ∷ (s' ∷ ss)) h e =
      let v = w +ℤ along Minus s in
      subst (λ (v : ℤ). P (cut_to g v g.depth.target)) (along_add w Minus s (sum (s' ∷ ss)))
      (plunges_bottom q v (s' ∷ ss) (omega arith) (behind P (plunge g v) (plunges g v (s' ∷ ss)) e.1))

  pub first_out : Every P (grooving g) → P (out_to g g.width.start g.depth.start)
  unfolding grooving
  first_out e = plunge_out g.width.start (front P (plunge g g.width.start) (after_first g (steps g)) e)

  pub last_bottom : wrong g ≡ false → Every P (grooving g) → P (cut_to g (last_width g) g.depth.target)
  unfolding grooving
  last_bottom q e =
      subst (λ (n : ℕ). P (cut_to g (width_at g n) g.depth.target)) (steps_sum g q)
      (go (steps g) (front P (plunge g g.width.start) (after_first g (steps g)) e) (behind P (plunge g g.width.start) (after_first g (steps g)) e))
    where
      go : (ss : List ℕ) → Every P (plunge g g.width.start) → Every P (after_first g ss) → P (cut_to g (width_at g (sum ss)) g.depth.target)
      go [] a b = subst (λ (w : ℤ). P (cut_to g w g.depth.target)) (sym (width_start g)) (plunge_bottom q g.width.start a)
      go (s ∷ ss) a b = plunges_bottom q g.width.start (s ∷ ss) (omega arith) b
