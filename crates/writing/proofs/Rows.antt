-- Records where they are wanted, and how many they are.
-- Assumes nothing.
use mathlib.Core.Path.{◌≡◌, refl}
use mathlib.Core.Bool.{Bool, true, false}
use mathlib.Core.List.{◌++◌}
use Prim.Native.Nat.{◌+◌}
use native.Mathlib.Omega.{arith}
use lib.ListN.{length, length-append}
use Rattle.moves.specs.declared.Record.{Record}
use Rattle.writing.specs.Writes.{one_if, number_if}

-- how many records that is
pub one_length : (t : Bool) (r : Record) → length (one_if t r) ≡ number_if t
unfolding one_if
one_length true r = refl
one_length false r = refl

pub two_length : (t u : Bool) (q r : Record) → length (one_if t q ++ one_if u r) ≡ number_if t + number_if u
two_length t u q r = omega (arith, length-append (one_if t q) (one_if u r), one_length t q, one_length u r)
