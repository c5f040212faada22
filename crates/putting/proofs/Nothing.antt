-- A block that has no record: nothing is written.
-- Assumes nothing.
use mathlib.Core.Path.{◌≡◌, refl, sym, ap, ◌∙◌}
use mathlib.Core.List.{List, [], ◌∷◌}
use Prim.Native.Nat.{ℕ, ◌+◌}
use native.Mathlib.Omega.{arith}
use lib.ListN.{length}
use Rattle.octets.specs.Bytes.{laid}
use Rattle.octets.proofs.Laying.{laid_nil}
use Rattle.moves.specs.Form.{record_start, row_from}
use Rattle.moves.specs.declared.Record.{Record}
use Rattle.moves.specs.declared.Origin.{Origin}
use Rattle.moves.proofs.Rows.{from_none}
use Rattle.block.specs.declared.Block.{Block}
use Rattle.state.specs.declared.State.{State}
use Rattle.asking.specs.Judge.{doing}
use Rattle.deeds.specs.declared.Deed.{Deed}
use Rattle.writing.specs.Writes.{writes, other_count}
use Rattle.writing.proofs.Chain.{writes_length}

-- a row of no records
length_zero : (v : List Record) → length v ≡ 0 → v ≡ []
length_zero [] e = refl
length_zero (r ∷ v) e = absurd (omega (arith, e))

module _ (s : State) (b : Block) (d : Deed) where
  pub nothing_written : (o : Origin) (l : List ℕ) (k : ℕ) → length (doing d) + other_count b ≡ 0
      → (k ≡ k + length (writes s b d)) × (l ≡ laid l (record_start k) (row_from o (writes s b d)))
  nothing_written o l k e =
      let none : length (writes s b d) ≡ 0 = writes_length s b d ∙ e in (
        omega (arith, none),
        sym (ap (laid l (record_start k)) (from_none o) ∙ laid_nil l (record_start k)) ∙ ap (λ (v : List Record). laid l (record_start k) (row_from o v)) (sym (length_zero (writes s b d) none)),
      )
