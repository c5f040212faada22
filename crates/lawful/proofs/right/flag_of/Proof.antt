-- `lawful::right::flag_of` meets its contract.
use mathlib.Core.Path.{◌≡◌, ap}
use mathlib.Core.Bool.{Bool, ◌||◌}
use lib.Dec.{eqb}
use borrow.Author.Rules.{rules}
use Rattle.moves.specs.Kinds.{feed_kind, is_arc}
use Rattle.lawful.proofs.Flags.{flag_first, flag_second, no_flag}
use Rattle.lawful.proofs.right.flag_of.Statement.{statement}
use Rattle.lawful.proofs.right.flag_of.Tie as tie

-- what the first test asks
asked : (c : tie.After-is_arc) → (eqb c.args.kind feed_kind || c.is_arc.result) ≡ (eqb c.args.kind feed_kind || is_arc c.args.kind)
asked c = ap (λ (t : Bool). eqb c.args.kind feed_kind || t) c.is_arc.ensures

returns : tie.Need-returns-then-kind-is_arc
returns c = flag_first c.args.kind (asked c.before) c.if-kind-is_arc.true

returns_2 : tie.Need-returns-then-kind-eq-SPEED
returns_2 c = flag_second c.args.kind (asked c.before.before) c.if-kind-is_arc.false c.if-kind-eq-SPEED.true

returns_3 : tie.Need-returns
returns_3 c = no_flag c.args.kind (asked c.before.before) c.if-kind-is_arc.false c.if-kind-eq-SPEED.false

pub flag_of_spec : {M : Type 1} → statement M
flag_of_spec = tie.close (tie.spec (λ c κs. search rules) returns returns_2 returns_3)
