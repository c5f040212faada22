-- `addresses::next_word` meets its contract.
-- The word by the gap that was passed; its bounds are a law of `next_word`.
use mathlib.Core.Path.{sym, ◌∙◌}
use borrow.Author.Rules.{rules}
use borrow.Author.Tests.{lt-ltb, le-ltb}
use Rattle.addresses.specs.Words.{next_word}
use Rattle.addresses.proofs.Wording.{next_by}
use Rattle.addresses.proofs.next_word.Statement.{statement}
use Rattle.addresses.proofs.next_word.Tie as tie

returns : tie.Need-returns-then-p-line
unfolding next_word
returns c =
    let o = c in
    (rw (← o.skip_gap-gap.ensures.0, o.in-At.is, le-ltb _ _ c.if-p-line.true), tt)

returns_2 : tie.Need-returns-in-Fault
unfolding next_word
returns_2 c = (rw (← c.skip_gap-gap.ensures.0, c.in-Fault.is), tt)

returns_3 : tie.Need-returns-else-p-line
unfolding next_word
returns_3 c =
    let o = c in
    let a = o in
    next_by a.args.line.now a.args.from a.requires
    (c.word_at.ensures.0 ∙ sym (rw (← o.skip_gap-gap.ensures.0, o.in-At.is, lt-ltb _ _ c.if-p-line.false)))

pub next_word_spec : {M : Type 1} → statement M
next_word_spec =
    tie.close
    (tie.spec
    (λ c κs. search rules)
    (λ c. search rules)
    (λ c. search rules)
    returns
    (λ c κs. search rules)
    returns_2
    returns_3)
