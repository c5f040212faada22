-- `block::m_in` meets its contract.
use mathlib.Core.Path.{sym, ap, ◌∙◌}
use Rattle.codes.specs.Codes.{m_code}
use Rattle.block.specs.Slots.{m_in}
use borrow.Author.Rules.{rules}
use Rattle.block.proofs.m_in.Statement.{statement}
use Rattle.block.proofs.m_in.Tie as tie

has_requires : tie.Need-has-requires
has_requires c κs = search rules

code_in_requires : tie.Need-code_in-n-requires
code_in_requires c κs = search rules

m_code_requires : tie.Need-m_code-requires
m_code_requires c κs = search rules

returns : tie.Need-returns-then-has
unfolding m_in
returns c =
    let h = c in
    rw (sym h.has.ensures ∙ h.if-has.true) (c.m_code.ensures ∙ ap m_code c.code_in-n.ensures)

returns_2 : tie.Need-returns
unfolding m_in
returns_2 c = rw (sym c.has.ensures ∙ c.if-has.false)

pub m_in_spec : {M : Type 1} → statement M
m_in_spec =
    tie.close (tie.spec has_requires code_in_requires m_code_requires returns returns_2)
