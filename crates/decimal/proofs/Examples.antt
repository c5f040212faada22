-- Numbers as they must be written, at the ends of their ranges, computed from the definitions.
-- Assumes nothing.
use mathlib.Core.Path.{◌≡◌, refl}
use Rattle.whole.specs.Signed.{minus}
use Rattle.letters.specs.Text.{bytes}
use Rattle.decimal.specs.Decimal.{digits_up, digits, decimal, signed}

pub zero_digit : decimal 0 ≡ bytes "0"
unfolding decimal
zero_digit = refl

pub longest_number : decimal 18_446_744_073_709_551_615 ≡ bytes "18446744073709551615"
unfolding decimal digits digits_up
longest_number = refl

pub lowest_number : signed (minus 2_147_483_648) ≡ bytes "-2147483648"
unfolding signed decimal digits digits_up
lowest_number = refl
