-- `lawful::right::place_right` meets its contract.
use mathlib.Core.Path.{ap, ◌∙◌}
use mir.Facts.{to_z-of_z}
use borrow.Author.Rules.{rules}
use borrow.Author.Tests.{eq-eqb, ne_eqb}
use Rattle.whole.specs.Position.{in_table}
use Rattle.moves.specs.Kinds.{centre_kind}
use Rattle.lawful.specs.Right.{in_three_tables, place_right}
use Rattle.lawful.proofs.right.place_right.Statement.{statement}
use Rattle.lawful.proofs.right.place_right.Tie as tie

returns : tie.Need-returns-then-kind-eq-CENTRE
unfolding place_right
returns c = rw (eq-eqb c.args.kind centre_kind c.if-kind-eq-CENTRE.true) (ap in_three_tables (to_z-of_z c.ranges.place))

returns_2 : tie.Need-returns
unfolding place_right
returns_2 c =
    let s = c in
    rw (ne_eqb s.args.kind centre_kind c.if-kind-eq-CENTRE.false) (c.in_table.ensures ∙ ap in_table (to_z-of_z s.ranges.place))

pub place_right_spec : {M : Type 1} → statement M
place_right_spec = tie.close (tie.spec returns (λ c κs. search rules) returns_2)
