-- `showing::lacks_by` meets its contract.
use mathlib.Core.Path.{◌≡◌, ap, sym}
use mathlib.Core.Bool.{Bool}
use Rattle.block.specs.declared.Head.{Head}
use Rattle.showing.specs.Showing.{lacks_by}
use borrow.Author.Rules.{rules}
use Rattle.showing.proofs.lacks_by.Statement.{statement}
use Rattle.showing.proofs.lacks_by.Tie as tie

-- a head that was tested for
by : {h k : Head} (behind : Bool) → h ≡ k → lacks_by k behind ≡ lacks_by h behind
by behind e = ap (λ (h : Head). lacks_by h behind) (sym e)

returns : tie.Need-returns-in-Other
unfolding lacks_by
returns c = by c.args.behind c.in-Other.is

returns_2 : tie.Need-returns-in-ProgramLine
unfolding lacks_by
returns_2 c = by c.args.behind c.in-ProgramLine.is

returns_3 : tie.Need-returns-in-BlockLine
unfolding lacks_by
returns_3 c = by c.args.behind c.in-BlockLine.is

returns_4 : tie.Need-returns-in-Blank
unfolding lacks_by
returns_4 c = by c.args.behind c.in-Blank.is

pub lacks_by_spec : {M : Type 1} → statement M
lacks_by_spec =
    tie.close
    (tie.spec
    (λ c. search rules)
    (λ c. search rules)
    (λ c. search rules)
    (λ c. search rules)
    returns
    returns_2
    returns_3
    returns_4)
