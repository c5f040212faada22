-- `rules::d_word_missing` meets its contract.
use mathlib.Core.Path.{ap, ◌∙◌}
use mathlib.Core.Bool.{not}
use Prim.Native.Nat.{ℕ}
use borrow.Author.Tests.{eq-eqb, ne_eqb}
use Rattle.stands.specs.Stands.{none}
use Rattle.block.specs.Slots.{has}
use Rattle.rules.specs.Rules.{d_word_missing}
use borrow.Author.Rules.{rules}
use Rattle.rules.proofs.d_word_missing.Statement.{statement}
use Rattle.rules.proofs.d_word_missing.Tie as tie

returns : tie.Need-returns-then-needs-eq-NONE
unfolding d_word_missing
returns c = rw (eq-eqb c.args.needs none c.if-needs-eq-NONE.true)

d_slot_requires : tie.Need-d_slot-requires
d_slot_requires c κs = search rules

has_requires : tie.Need-has-requires
has_requires c κs = search rules

returns_2 : tie.Need-returns
unfolding d_word_missing
returns_2 c =
    let d = c in
    let a = d.args in
    rw (ne_eqb a.needs none d.if-needs-eq-NONE.false) (ap not (c.has.ensures ∙ ap (λ (k : ℕ). has a.b k) d.d_slot.ensures))

pub d_word_missing_spec : {M : Type 1} → statement M
d_word_missing_spec = tie.close (tie.spec returns d_slot_requires has_requires returns_2)
