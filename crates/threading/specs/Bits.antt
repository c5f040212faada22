-- 02, request 1: "D7 counts as bits ..: 1 constant, 2 target is the nominal diameter and not the core, 4 D3 is a cut number; missing is 0."
use Rattle.std.specs.Prelude.{Bool, cond, ℕ, ◌/◌, ◌%◌, eqb}
use Rattle.depths.specs.declared.Rule.{Rule}
use Rattle.depths.specs.declared.Rule.TheVariants.{EvenDepth, EvenNumber, FallingDepth, FallingNumber}

-- whether the bit that counts b is set
abbrev pub bit : ℕ → ℕ → Bool
bit b d7 = eqb (d7 / b % 2) 1

abbrev pub is_constant : ℕ → Bool
is_constant = bit 1

abbrev pub is_nominal : ℕ → Bool
is_nominal = bit 2

abbrev pub is_number : ℕ → Bool
is_number = bit 4

unfoldable pub rule_of : ℕ → Rule
rule_of d7 = cond (is_number d7) (cond (is_constant d7) EvenNumber FallingNumber) (cond (is_constant d7) EvenDepth FallingDepth)
