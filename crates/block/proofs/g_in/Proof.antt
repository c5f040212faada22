-- `block::g_in` meets its contract.
use mathlib.Core.Path.{sym, ap, ◌∙◌}
use Rattle.codes.specs.Codes.{g_code}
use Rattle.block.specs.Slots.{g_in}
use borrow.Author.Rules.{rules}
use Rattle.block.proofs.g_in.Statement.{statement}
use Rattle.block.proofs.g_in.Tie as tie

has_requires : tie.Need-has-requires
has_requires c κs = search rules

code_in_requires : tie.Need-code_in-n-requires
code_in_requires c κs = search rules

g_code_requires : tie.Need-g_code-requires
g_code_requires c κs = search rules

returns : tie.Need-returns-then-has
unfolding g_in
returns c =
    let h = c in
    rw (sym h.has.ensures ∙ h.if-has.true) (c.g_code.ensures ∙ ap g_code c.code_in-n.ensures)

returns_2 : tie.Need-returns
unfolding g_in
returns_2 c = rw (sym c.has.ensures ∙ c.if-has.false)

pub g_in_spec : {M : Type 1} → statement M
g_in_spec =
    tie.close (tie.spec has_requires code_in_requires g_code_requires returns returns_2)
