-- `threading::is_wrong` meets its contract.
use mathlib.Core.Bool.{◌||◌}
use lib.Dec.{eqb}
use borrow.Author.Rules.{rules}
use Rattle.threading.specs.Threading.{wrong}
use Rattle.threading.proofs.is_wrong.Statement.{statement}
use Rattle.threading.proofs.is_wrong.Tie as tie

returns : tie.Need-returns
unfolding wrong
returns c =
    let second = c in
    let first = second in
    let many = first in
    let s = many in
    λ i. (eqb s.args.t.d3 0 || eqb s.args.t.d6 0) || (many.many_cuts-many.ensures i || ((eqb (first.distance_of.ensures i) 0 || eqb (second.distance_of-2.ensures i) 0) || c.crest_beyond-beyond.ensures i))

pub is_wrong_spec : {M : Type 1} → statement M
is_wrong_spec =
    tie.close
    (tie.spec
    (λ c κs. search rules)
    (λ c κs. search rules)
    (λ c κs. search rules)
    (λ c κs. search rules)
    returns)
