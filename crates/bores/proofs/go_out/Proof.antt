-- `bores::go_out` meets its contract.
use Rattle.bores.proofs.Cursors.{made, goes_out}
use borrow.Author.Rules.{rules}
use Rattle.bores.proofs.go_out.Statement.{statement}
use Rattle.bores.proofs.go_out.Tie as tie

rapid_home_requires : tie.Need-rapid_home-record-requires
rapid_home_requires c κs = search rules

at_stage_requires : tie.Need-at_stage-rest-requires
at_stage_requires c κs = search rules

returns : tie.Need-returns
returns c = let s = c in made (goes_out s.args.c s.requires.0 s.requires.1) c.rapid_home-record.ensures c.at_stage-rest.ensures

pub go_out_spec : {M : Type 1} → statement M
go_out_spec = tie.close (tie.spec rapid_home_requires at_stage_requires returns)
