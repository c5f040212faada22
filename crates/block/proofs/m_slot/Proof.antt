-- `block::m_slot` meets its contract.
use mathlib.Core.Path.{ap, sym, ◌∙◌, subst}
use Prim.Native.Nat.{◌<◌}
use Rattle.codes.proofs.Tables.{CodeIn, m_groups}
use Rattle.codes.specs.declared.Code.{Code}
use Rattle.block.specs.Words.{code_slot}
use Rattle.block.specs.Slots.{m_slot}
use native.Mathlib.Omega.{arith}
use borrow.Author.Rules.{rules}
use Rattle.block.proofs.m_slot.Statement.{statement}
use Rattle.block.proofs.m_slot.Tie as tie

m_code_requires : tie.Need-m_code-code-requires
m_code_requires c κs = search rules

enum_known_code : tie.Need-enum_known-code
enum_known_code c = search rules

-- the group is one of the table's
group : (c : tie.In-Of) → c.in-Of.group < 4
group c =
    let s = c in
    subst (λ (k : Code). CodeIn k 4) (sym s.m_code-code.ensures ∙ c.in-Of.is) (m_groups s.args.n)

add_t5 : tie.Need-overflow_add-result
add_t5 c = omega (arith, group c)

enum_told : tie.Need-enum_told-1
enum_told c = search rules

returns : tie.Need-returns-in-Of
returns c = let s = c in (ap (λ (k : Code). code_slot k m_slot) (sym c.in-Of.is ∙ s.m_code-code.ensures), omega (arith, group c))

returns_2 : tie.Need-returns-in-Unknown
returns_2 c = (ap (λ (k : Code). code_slot k m_slot) (sym c.in-Unknown.is ∙ c.m_code-code.ensures), tt)

pub m_slot_spec : {M : Type 1} → statement M
m_slot_spec =
    tie.close (tie.spec m_code_requires enum_known_code add_t5 enum_told returns returns_2)
