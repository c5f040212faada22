-- `showing::judge_line` meets its contract.
use mathlib.Core.Path.{sym, ◌∙◌, subst}
use lib.ListN.{length}
use borrow.Author.Rules.{rules}
use Rattle.block.specs.declared.LineStart.{LineStart}
use Rattle.block.specs.Words.{faulty_rest, StartIn}
use Rattle.showing.proofs.Bare.{judged_none, judged_short, judged_long}
use Rattle.showing.proofs.judge_line.Statement.{statement}
use Rattle.showing.proofs.judge_line.Tie as tie

returns : tie.Need-returns-then-line-gt-LONGEST_LINE
returns c = let s = c in c.judged_alone.ensures ∙ sym (judged_long s.args.line.now c.if-line-gt-LONGEST_LINE.true)

judge_words_requires : tie.Need-judge_words-requires
judge_words_requires c κs =
    let x = c in
    let k = x in
    let e = k in
    (subst (λ (y : LineStart). StartIn y (length e.args.line.now)) x.in-With.is k.start_of-start.ensures.1, e.if-line-gt-LONGEST_LINE.false)

returns_2 : tie.Need-returns-in-Blank
returns_2 c =
    let k = c in
    let e = k in
    c.judged_alone-in-Blank.ensures ∙ sym (judged_none _) ∙ judged_short e.args.line.now e.if-line-gt-LONGEST_LINE.false (sym c.in-Blank.is ∙ k.start_of-start.ensures.0)

returns_3 : tie.Need-returns-in-Fault
unfolding faulty_rest
returns_3 c =
    let k = c in
    let e = k in
    c.judged_alone-in-Fault.ensures ∙ judged_short e.args.line.now e.if-line-gt-LONGEST_LINE.false (sym c.in-Fault.is ∙ k.start_of-start.ensures.0)

returns_4 : tie.Need-returns-in-With
returns_4 c =
    let x = c in
    let k = x in
    let e = k in
    c.judge_words.ensures ∙ judged_short e.args.line.now e.if-line-gt-LONGEST_LINE.false (sym x.in-With.is ∙ k.start_of-start.ensures.0)

pub judge_line_spec : {M : Type 1} → statement M
judge_line_spec =
    tie.close
    (tie.spec
    (λ c κs. search rules)
    returns
    (λ c κs. search rules)
    (λ c. search rules)
    (λ c κs. search rules)
    (λ c. search rules)
    (λ c κs. search rules)
    (λ c. search rules)
    judge_words_requires
    returns_2
    returns_3
    returns_4)
