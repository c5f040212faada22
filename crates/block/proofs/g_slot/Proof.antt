-- `block::g_slot` meets its contract.
use mathlib.Core.Path.{ap, sym, ◌∙◌, subst}
use Prim.Native.Nat.{◌<◌}
use Rattle.codes.proofs.Tables.{CodeIn, g_groups}
use Rattle.codes.specs.declared.Code.{Code}
use Rattle.block.specs.Words.{code_slot}
use Rattle.block.specs.Slots.{g_slot}
use native.Mathlib.Omega.{arith}
use borrow.Author.Rules.{rules}
use Rattle.block.proofs.g_slot.Statement.{statement}
use Rattle.block.proofs.g_slot.Tie as tie

g_code_requires : tie.Need-g_code-code-requires
g_code_requires c κs = search rules

enum_known_code : tie.Need-enum_known-code
enum_known_code c = search rules

-- the group is one of the table's
group : (c : tie.In-Of) → c.in-Of.group < 8
group c =
    let s = c in
    subst (λ (k : Code). CodeIn k 8) (sym s.g_code-code.ensures ∙ c.in-Of.is) (g_groups s.args.n)

add_t5 : tie.Need-overflow_add-result
add_t5 c = omega (arith, group c)

enum_told : tie.Need-enum_told-1
enum_told c = search rules

returns : tie.Need-returns-in-Of
returns c = let s = c in (ap (λ (k : Code). code_slot k g_slot) (sym c.in-Of.is ∙ s.g_code-code.ensures), omega (arith, group c))

returns_2 : tie.Need-returns-in-Unknown
returns_2 c = (ap (λ (k : Code). code_slot k g_slot) (sym c.in-Unknown.is ∙ c.g_code-code.ensures), tt)

pub g_slot_spec : {M : Type 1} → statement M
g_slot_spec =
    tie.close (tie.spec g_code_requires enum_known_code add_t5 enum_told returns returns_2)
