-- `showing::breaks_behind` meets its contract.
use mathlib.Core.Path.{◌≡◌, ap, sym, ◌∙◌}
use Rattle.block.specs.declared.Block.{Block}
use Rattle.block.specs.declared.Head.{Head}
use Rattle.rules.specs.Rules.{after_program}
use Rattle.showing.specs.Showing.{broken_by}
use borrow.Author.Rules.{rules}
use Rattle.showing.proofs.breaks_behind.Statement.{statement}
use Rattle.showing.proofs.breaks_behind.Tie as tie

-- a head that was tested for
by : {h k : Head} (b : Block) → h ≡ k → broken_by k b ≡ broken_by h b
by b e = ap (λ (h : Head). broken_by h b) (sym e)

returns : tie.Need-returns-in-ProgramLine
unfolding broken_by after_program
returns c = by c.args.b c.in-ProgramLine.is

returns_2 : tie.Need-returns-in-BlockLine
unfolding broken_by
returns_2 c = c.breaks_rules.ensures ∙ by c.args.b c.in-BlockLine.is

returns_3 : tie.Need-returns-in-Blank
unfolding broken_by
returns_3 c = by c.args.b c.in-Blank.is

returns_4 : tie.Need-returns-in-Other
unfolding broken_by
returns_4 c = by c.args.b c.in-Other.is

pub breaks_behind_spec : {M : Type 1} → statement M
breaks_behind_spec =
    tie.close
    (tie.spec
    (λ c. search rules)
    (λ c. search rules)
    (λ c κs. search rules)
    (λ c. search rules)
    (λ c. search rules)
    returns
    returns_2
    returns_3
    returns_4)
