-- `showing::judge_words` meets its contract.
use mathlib.Core.Path.{sym, ap, ◌∙◌}
use borrow.Author.Rules.{rules}
use Rattle.addresses.specs.Words.{words_from}
use Rattle.block.specs.declared.Rest.{Rest}
use Rattle.block.specs.Words.{no_words, gather, reading}
use Rattle.showing.specs.Showing.{broken_by, lacks_by}
use Rattle.showing.proofs.Bare.{judged_bare, judged_faulty, judged_good}
use Rattle.showing.proofs.judge_words.Statement.{statement}
use Rattle.showing.proofs.judge_words.Tie as tie

returns : tie.Need-returns-then-behind-line
returns c =
    let s = c in
    c.judged_alone.ensures ∙ sym (judged_bare s.args.line.now s.args.head s.args.behind s.requires.0 c.if-behind-line.true)

read_rest_requires : tie.Need-read_rest-rest-requires
read_rest_requires c κs = search rules

returns_2 : tie.Need-returns-then-rest
returns_2 c =
    let r = c in
    let s = r in
    c.judged_alone-then-rest.ensures
    ∙ sym (judged_faulty (reading s.args.head (gather no_words (words_from s.args.line.now s.args.behind))) (ap (λ (x : Rest). x.faulty) (sym r.read_rest-rest.ensures) ∙ c.if-rest.true))

returns_3 : tie.Need-returns
returns_3 c =
    let l = c in
    let r = l in
    let s = r in
    (λ i. record { alarm = 0; head = s.args.head; pointless = (l.lacks_by.ensures ∙ (λ j. lacks_by s.args.head (r.read_rest-rest.ensures j).block.pointless)) i; broken = (c.breaks_behind.ensures ∙ (λ j. broken_by s.args.head (r.read_rest-rest.ensures j).block)) i; ends = (r.read_rest-rest.ensures i).block.ends })
    ∙ sym (judged_good (reading s.args.head (gather no_words (words_from s.args.line.now s.args.behind))) (ap (λ (x : Rest). x.faulty) (sym r.read_rest-rest.ensures) ∙ l.if-rest.false))

pub judge_words_spec : {M : Type 1} → statement M
judge_words_spec =
    tie.close
    (tie.spec (λ c κs. search rules) returns read_rest_requires (λ c κs. search rules) returns_2 (λ c κs. search rules) (λ c κs. search rules) returns_3)
