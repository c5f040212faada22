-- A cycle that is due and has a loop of its own.
-- Assumes nothing.
use mathlib.Core.Path.{◌≡◌, refl, sym, ap, subst, ◌∙◌}
use mathlib.Core.Bool.{Bool, true, false, false≢true}
use mathlib.Core.List.{List, [], ◌∷◌, ◌++◌}
use Prim.Native.Nat.{ℕ, ◌+◌, ◌*◌}
use native.Mathlib.Omega.{arith}
use lib.ListN.{length}
use Rattle.octets.specs.Bytes.{laid}
use Rattle.octets.proofs.Laying.{laid_nil}
use Rattle.moves.specs.Form.{record_size, row_from}
use Rattle.moves.specs.declared.Record.{Record}
use Rattle.moves.specs.declared.Origin.{Origin}
use Rattle.moves.proofs.Rows.{from_none}
use Rattle.writing.specs.Writes.{one_if}
use Rattle.stages.specs.Cursor.{behind_deed, rest_from, rest_of, single_of}
use Rattle.stages.specs.declared.Stage.TheVariants.{Stop}
use Rattle.stages.specs.declared.Due.{Due}
use Rattle.stages.specs.declared.Due.TheVariants.{Turning, Threading, Grooving, Drilling, Single}
use Rattle.stages.specs.declared.Plan.{Plan}
use Rattle.putting.specs.Cycles.{has_own_loop, cycle_row}

-- ---- what was written, of the cycle that was told
abbrev Laid : Origin → List ℕ → ℕ → List Record → ℕ → List ℕ → Type 0
Laid o b first row r v = (r ≡ first + record_size * length row) × (v ≡ laid b first (row_from o row))

module _ (o : Origin) (b : List ℕ) (first : ℕ) (due : Due) where
  pub told_laid : {d : Due} {v : List ℕ} {r : ℕ} → due ≡ d → Laid o b first (cycle_row d) r v → Laid o b first (cycle_row due) r v
  told_laid {v = v} {r} e h = subst (λ (d : Due). Laid o b first (cycle_row d) r v) (sym e) h

  pub none_laid : cycle_row due ≡ [] → Laid o b first (cycle_row due) first b
  none_laid e = (
    omega (arith, ap length e),
    sym (ap (λ (l : List Record). laid b first (row_from o l)) e ∙ ap (laid b first) (from_none o) ∙ laid_nil b first),
  )

-- ---- what is left of the block behind it
never : {A : Type 0} → false ≡ true → A
never e = absurd (false≢true e)

pub cycle_first : (p : Plan) (d : Due) → has_own_loop d ≡ true → rest_of p d ≡ cycle_row d ++ behind_deed p
unfolding rest_of rest_from
cycle_first p (Turning c) e = refl
cycle_first p (Threading c) e = never e
cycle_first p (Grooving c) e = refl
cycle_first p (Drilling c) e = never e
cycle_first p (Single k) e = never e

-- behind the cycle: M00 or M30, or nothing
pub stop_behind : (p : Plan) → p.stops ≡ true → behind_deed p ≡ single_of p Stop ∷ []
unfolding behind_deed one_if
stop_behind p e = ap (λ (b : Bool). one_if b (single_of p Stop)) e

pub none_behind : (p : Plan) → p.stops ≡ false → behind_deed p ≡ []
unfolding behind_deed one_if
none_behind p e = ap (λ (b : Bool). one_if b (single_of p Stop)) e
