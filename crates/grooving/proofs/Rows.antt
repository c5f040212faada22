-- The two rows of a groove that is not wrong: the cuts of a plunge make its depth, and the steps from plunge to plunge what the tool leaves of its width.
-- Assumes nothing.
use mathlib.Core.Path.{◌≡◌, refl, sym, ap, ◌∙◌, subst}
use mathlib.Core.Bool.{Bool, true, false, cond}
use mathlib.Core.List.{[]}
use Prim.Native.Nat.{ℕ, zero, suc, ◌+◌, ◌-◌, ◌*◌, ◌<◌, ◌≤◌}
use native.Mathlib.Omega.{arith}
use lib.Dec.{eqb}
use lib.ListN.{length}
use borrow.Author.Tests.{eq-eqb, ne_eqb}
use Rattle.division.specs.Division.{count, pieces, sum}
use Rattle.division.proofs.Divisions.{count_above, few_pieces, pieces_length, pieces_sum}
use Rattle.grooving.specs.declared.Groove.{Groove}
use Rattle.grooving.specs.Grooving.{length_of, wrong, rest, step_count, steps, cut_count, cuts, plunge_count}
use Rattle.grooving.proofs.Asked.{asked}

-- ---- cuts
some_pieces : (e d : ℕ) → 0 < e → 0 < cond (eqb d 0) 1 (count e d)
some_pieces e zero h = omega arith
some_pieces e (suc d) h = rw (ne_eqb (suc d) 0 (λ z. absurd (omega arith))) (count_above e (suc d) h (omega arith))

pub some_cuts : (g : Groove) → wrong g ≡ false → 0 < cut_count g
unfolding cut_count
some_cuts g e = some_pieces (length_of g.depth) g.piece (asked g e).deep

pub few_cuts : (g : Groove) → wrong g ≡ false → cut_count g ≤ length_of g.depth
unfolding cut_count
few_cuts g e = go g.piece
  where
    go : (d : ℕ) → cond (eqb d 0) 1 (count (length_of g.depth) d) ≤ length_of g.depth
    go zero = (asked g e).deep
    go (suc d) = rw (ne_eqb (suc d) 0 (λ z. absurd (omega arith))) (few_pieces (length_of g.depth) (suc d) (asked g e).deep (omega arith))

pub cuts_length : (g : Groove) → wrong g ≡ false → length (cuts g) ≡ cut_count g
cuts_length g e = pieces_length (length_of g.depth) (cut_count g) (some_cuts g e)

pub cuts_sum : (g : Groove) → wrong g ≡ false → sum (cuts g) ≡ length_of g.depth
cuts_sum g e = pieces_sum (length_of g.depth) (cut_count g) (some_cuts g e)

-- ---- steps
-- a tool that fills the groove leaves no steps
pub no_steps : (g : Groove) → rest g ≡ 0 → (step_count g ≡ 0) × (steps g ≡ [])
unfolding step_count steps
no_steps g h = (rw (eq-eqb (rest g) 0 h) refl, rw (eq-eqb (rest g) 0 h) refl)

-- and one that does not leaves some: the pieces of what is left
pub step_count_is : (g : Groove) → 0 < rest g → step_count g ≡ count (rest g) (g.tool - g.overlap)
unfolding step_count
step_count_is g h = rw (ne_eqb (rest g) 0 (λ z. absurd (omega arith))) refl

pub steps_are : (g : Groove) → 0 < rest g → steps g ≡ pieces (rest g) (step_count g)
unfolding steps
steps_are g h = rw (ne_eqb (rest g) 0 (λ z. absurd (omega arith))) refl

pub some_steps : (g : Groove) → wrong g ≡ false → 0 < rest g → 0 < step_count g
some_steps g e h =
    subst (λ (n : ℕ). 0 < n) (sym (step_count_is g h))
    (count_above (rest g) (g.tool - g.overlap) h (omega (arith, (asked g e).thick (omega arith))))

pub few_steps : (g : Groove) → wrong g ≡ false → step_count g ≤ rest g
few_steps g e = go (rest g) refl
  where
    go : (n : ℕ) → rest g ≡ n → step_count g ≤ rest g
    go zero h = omega (arith, (no_steps g h).0)
    go (suc n) h =
        omega (arith, step_count_is g (omega arith), few_pieces (rest g) (g.tool - g.overlap) (omega arith) (omega (arith, (asked g e).thick (omega arith))))

pub steps_length : (g : Groove) → wrong g ≡ false → length (steps g) ≡ step_count g
steps_length g e = go (rest g) refl
  where
    go : (n : ℕ) → rest g ≡ n → length (steps g) ≡ step_count g
    go zero h = ap length (no_steps g h).1 ∙ sym (no_steps g h).0
    go (suc n) h = ap length (steps_are g (omega arith)) ∙ pieces_length (rest g) (step_count g) (some_steps g e (omega arith))

pub steps_sum : (g : Groove) → wrong g ≡ false → sum (steps g) ≡ rest g
steps_sum g e = go (rest g) refl
  where
    go : (n : ℕ) → rest g ≡ n → sum (steps g) ≡ rest g
    go zero h = ap sum (no_steps g h).1 ∙ sym h
    go (suc n) h = ap sum (steps_are g (omega arith)) ∙ pieces_sum (rest g) (step_count g) (some_steps g e (omega arith))

-- ---- counts
tail_few : (t : Bool) → cond t 0 1 ≤ 1
tail_few true = omega arith
tail_few false = omega arith

pub few_plunge : (g : Groove) → wrong g ≡ false → plunge_count g ≤ 2 * length_of g.depth + 1
unfolding plunge_count
few_plunge g e = omega (arith, few_cuts g e, tail_few (eqb g.dwell 0))
