-- `arcs::centre_record` meets its contract.
use borrow.Author.Rules.{rules}
use mathlib.Core.Path.{◌∙◌}
use Rattle.arcs.specs.Arcs.{centre_record}
use Rattle.arcs.proofs.centre_record.Statement.{statement}
use Rattle.arcs.proofs.centre_record.Tie as tie

centre_requires : tie.Need-centre-requires
centre_requires c κs = search rules

returns : tie.Need-returns
unfolding centre_record
returns c = c.centre.ensures ∙ search rules

pub centre_record_spec : {M : Type 1} → statement M
centre_record_spec = tie.close (tie.spec centre_requires returns)
