-- `rules::bits_wrong` meets its contract.
use mathlib.Core.Path.{ap, ◌∙◌}
use lib.Dec.{ltb}
use borrow.Author.Tests.{eq-eqb, ne_eqb}
use Rattle.stands.specs.Stands.{none, greatest_bits}
use Rattle.block.specs.Slots.{code_in}
use Rattle.rules.specs.Rules.{bits_wrong}
use borrow.Author.Rules.{rules}
use Rattle.rules.proofs.bits_wrong.Statement.{statement}
use Rattle.rules.proofs.bits_wrong.Tie as tie

returns : tie.Need-returns-then-bits-eq-NONE
unfolding bits_wrong
returns c = rw (eq-eqb c.args.bits none c.if-bits-eq-NONE.true)

d_slot_requires : tie.Need-d_slot-requires
d_slot_requires c κs = search rules

code_in_requires : tie.Need-code_in-requires
code_in_requires c κs = search rules

returns_2 : tie.Need-returns
unfolding bits_wrong
returns_2 c =
    let d = c in
    let a = d.args in
    rw (ne_eqb a.bits none d.if-bits-eq-NONE.false) (ap (ltb greatest_bits) (c.code_in.ensures ∙ ap (code_in a.b) d.d_slot.ensures))

pub bits_wrong_spec : {M : Type 1} → statement M
bits_wrong_spec = tie.close (tie.spec returns d_slot_requires code_in_requires returns_2)
