-- How long the lines of a listing are.
-- Assumes nothing.
use Prim.Native.Nat.{ℕ, ◌^◌, ◌<◌, ◌≤◌}
use native.Mathlib.Omega.{arith}
use lib.IntN.{ℤ, pos, negsuc, nat_abs}
use lib.ListN.{length, length-append}
use mir.Syntax.{w32}
use mir.Val.{SFits}
use Rattle.moves.specs.Form.{version, Fitting, FittingOrigin}
use Rattle.moves.specs.declared.Listed.{Listed}
use Rattle.decimal.proofs.Digits.{few_decimal, few_signed}
use Rattle.listing.specs.Listing.{head_line, record_line, alarm_line, longest_head, longest_record_line, longest_alarm}

-- a signed number of 32 bits is no further from zero than this
size_of : (z : ℤ) → SFits w32 z → nat_abs z < 10 ^ 10
size_of (pos n) f = omega (arith, f.sfits)
size_of (negsuc n) f = omega (arith, f.sfits)

pub short_head : (count : ℕ) → count < 2 ^ 64 → length (head_line count) ≤ longest_head
unfolding head_line
short_head count h =
    simp length-append (omega (arith, few_decimal 0 version (omega arith), few_decimal 19 count (omega arith)))

pub short_line : (l : Listed) → Fitting l.what → FittingOrigin l.origin → length (record_line l) ≤ longest_record_line
unfolding record_line
short_line l f g =
    let r = l.what in
    simp length-append
    (omega (
      arith,
      few_decimal 2 r.kind (omega (arith, f.kind)),
      few_decimal 2 r.flags (omega (arith, f.flags)),
      few_signed 9 r.x (size_of r.x f.x),
      few_signed 9 r.z (size_of r.z f.z),
      few_decimal 9 r.value (omega (arith, f.value)),
      few_decimal 4 l.origin.program (omega (arith, g.program)),
      few_decimal 4 l.origin.block (omega (arith, g.block)),
    ))

pub short_alarm : (alarm place count : ℕ) → alarm < 2 ^ 8 → place < 2 ^ 64 → count < 2 ^ 64 → length (alarm_line alarm place count) ≤ longest_alarm
unfolding alarm_line
short_alarm alarm place count a p h =
    simp length-append (omega (arith, few_decimal 2 alarm (omega arith), few_decimal 19 place (omega arith), few_decimal 19 count (omega arith)))
