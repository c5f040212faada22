-- `threading::crest_beyond` meets its contract.
use mathlib.Core.Bool.{not, ◌&&◌}
use lib.Dec.{ltb}
use borrow.Author.Rules.{rules}
use Rattle.threading.specs.Threading.{crest_beyond}
use Rattle.threading.proofs.crest_beyond.Statement.{statement}
use Rattle.threading.proofs.crest_beyond.Tie as tie

returns : tie.Need-returns
unfolding crest_beyond
returns c =
    let w = c in
    let d = w in
    λ i. not d.args.t.nominal && ltb (d.distance_of-way.ensures i) (w.wide_of-deep.ensures i)

pub crest_beyond_spec : {M : Type 1} → statement M
crest_beyond_spec = tie.close (tie.spec (λ c κs. search rules) (λ c. search rules) (λ c κs. search rules) returns)
