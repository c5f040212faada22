-- `arcs::end_record` meets its contract.
use borrow.Author.Rules.{rules}
use mathlib.Core.Path.{◌∙◌}
use Rattle.arcs.specs.Arcs.{end_record}
use Rattle.arcs.proofs.end_record.Statement.{statement}
use Rattle.arcs.proofs.end_record.Tie as tie

arc_requires : tie.Need-arc-requires
arc_requires c κs = search rules

returns : tie.Need-returns
unfolding end_record
returns c = c.arc.ensures ∙ search rules

pub end_record_spec : {M : Type 1} → statement M
end_record_spec = tie.close (tie.spec arc_requires returns)
