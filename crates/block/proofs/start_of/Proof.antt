-- `block::start_of` meets its contract.
use mathlib.Core.Path.{sym, ap, ◌∙◌, subst}
use lib.ListN.{length}
use Rattle.addresses.specs.declared.NextWord.{NextWord}
use Rattle.addresses.specs.Words.{NextIn}
use Rattle.block.specs.declared.Head.{Head}
use Rattle.block.specs.declared.LineStart.TheVariants.{With}
use Rattle.block.specs.Words.{start_by, start_of}
use borrow.Author.Rules.{rules}
use Rattle.block.proofs.start_of.Statement.{statement}
use Rattle.block.proofs.start_of.Tie as tie

returns : tie.Need-returns-in-Fault
unfolding start_of
returns c = (ap start_by (sym c.in-Fault.is ∙ c.next_word-next.ensures.0), tt)

returns_2 : tie.Need-returns-in-End
unfolding start_of
returns_2 c = (ap start_by (sym c.in-End.is ∙ c.next_word-next.ensures.0), tt)

returns_3 : tie.Need-returns-in-Word
unfolding start_of
returns_3 c =
    let x = c in
    let n = x in (
      ap (λ (h : Head). With h x.in-Word.end) c.head_by.ensures ∙ ap start_by (sym x.in-Word.is ∙ n.next_word-next.ensures.0),
      (subst (λ (t : NextWord). NextIn t 0 (length n.args.line.now)) x.in-Word.is n.next_word-next.ensures.1).1,
    )

pub start_of_spec : {M : Type 1} → statement M
start_of_spec =
    tie.close
    (tie.spec
    (λ c κs. search rules)
    (λ c. search rules)
    (λ c. search rules)
    (λ c. search rules)
    (λ c κs. search rules)
    returns
    returns_2
    returns_3)
