-- `plunges::cuts_of` meets its contract.
use mathlib.Core.Path.{◌∙◌}
use native.Mathlib.Omega.{arith}
use borrow.Author.Rules.{rules}
use Rattle.division.specs.Division.{pieces}
use Rattle.grooving.proofs.Rows.{some_cuts}
use Rattle.plunges.proofs.cuts_of.Statement.{statement}
use Rattle.plunges.proofs.cuts_of.Tie as tie

divide_requires : tie.Need-divide-requires
divide_requires c κs = let s = c in omega (arith, c.cut_count-n.ensures, some_cuts s.args.g s.requires)

returns : tie.Need-returns
returns c = c.divide.ensures ∙ λ i. pieces (c.length_of-deep.ensures i) (c.cut_count-n.ensures i)

pub cuts_of_spec : {M : Type 1} → statement M
cuts_of_spec = tie.close (tie.spec (λ c κs. search rules) (λ c κs. search rules) divide_requires returns)
