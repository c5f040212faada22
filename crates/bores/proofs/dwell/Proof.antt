-- `bores::dwell` meets its contract.
use Rattle.bores.proofs.Cursors.{made, dwells}
use borrow.Author.Rules.{rules}
use Rattle.bores.proofs.dwell.Statement.{statement}
use Rattle.bores.proofs.dwell.Tie as tie

dwell_of_requires : tie.Need-dwell_of-record-requires
dwell_of_requires c κs = search rules

at_stage_requires : tie.Need-at_stage-rest-requires
at_stage_requires c κs = search rules

returns : tie.Need-returns
returns c = let s = c in made (dwells s.args.c s.requires.0 s.requires.1) c.dwell_of-record.ensures c.at_stage-rest.ensures

pub dwell_spec : {M : Type 1} → statement M
dwell_spec = tie.close (tie.spec dwell_of_requires at_stage_requires returns)
