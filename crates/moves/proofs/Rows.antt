-- Rows of records laid into a buffer, one after the other.
-- Assumes nothing.
use mathlib.Core.Path.{◌≡◌, refl, sym, ap, ◌∙◌}
use mathlib.Core.List.{List, [], ◌∷◌, ◌++◌, append-nil}
use Prim.Native.Nat.{ℕ, ◌+◌, ◌*◌, ◌≤◌}
use native.Mathlib.Omega.{arith}
use lib.ListN.{length}
use Rattle.octets.specs.Bytes.{laid}
use Rattle.octets.proofs.Laying.{laid_on}
use Rattle.moves.specs.declared.Record.{Record}
use Rattle.moves.specs.declared.Origin.{Origin}
use Rattle.moves.specs.declared.Listed.{Listed}
use Rattle.moves.specs.Form.{record_size, record_start, record_bytes, row_bytes, listed, stamped, row_from}
use Rattle.moves.proofs.OneReading.{length_row, row_append, length_stamped, stamped_append}

-- ---- records laid where others end are laid with them
pub row_on : (b : List ℕ) (k : ℕ) (v w : List Listed) (n : ℕ) → k + length v ≡ n → record_start n ≤ length b
    → laid (laid b (record_start k) (row_bytes v)) (record_start n) (row_bytes w) ≡ laid b (record_start k) (row_bytes (v ++ w))
row_on b k v w n e h =
    laid_on b (record_start k) (row_bytes v) (row_bytes w) (record_start n) (omega (arith, e, length_row v)) h ∙ ap (laid b (record_start k)) (sym (row_append v w))

pub row_one : (l : Listed) → record_bytes l ≡ row_bytes (l ∷ [])
unfolding row_bytes
row_one l = sym (append-nil (record_bytes l))

-- ---- the same of a block's records, which came from o
module _ (o : Origin) where
  pub length_from : (rs : List Record) → length (row_from o rs) ≡ record_size * length rs
  length_from rs = omega (arith, length_row (stamped o rs), length_stamped o rs)

  pub from_none : row_from o [] ≡ []
  unfolding stamped row_bytes
  from_none = refl

  pub from_one : (r : Record) → record_bytes (listed o r) ≡ row_from o (r ∷ [])
  unfolding stamped
  from_one r = row_one (listed o r)

  pub from_append : (v w : List Record) → row_from o (v ++ w) ≡ row_from o v ++ row_from o w
  from_append v w = ap row_bytes (stamped_append o v w) ∙ row_append (stamped o v) (stamped o w)
