-- The tape can be cut where its reading ended.
-- Assumes nothing.
use mathlib.Core.Path.{◌≡◌, sym, subst}
use mathlib.Core.List.{List}
use Prim.Native.Nat.{ℕ}
use lib.ListN.{length, take}
use lib.Seq.{length-take-le}
use Rattle.reading.specs.declared.Read.{Read}
use Rattle.reading.specs.declared.Read.TheVariants.{Whole}
use Rattle.interpreter.specs.Known.{Lent, ReadIn}

module _ (tape places : List ℕ) (count : ℕ) {r : Read} (h : ReadIn tape places count r) {first end : ℕ} (e : r ≡ Whole first end) where
  known : ReadIn tape places count (Whole first end)
  known = subst (ReadIn tape places count) e h

  pub cut_size : end ≡ length (take end tape)
  cut_size = sym (length-take-le end tape known.0)

  pub cut_lent : Lent places count (take end tape) first
  cut_lent = known.1
