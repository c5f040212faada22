-- `handwords::slot_words` meets its contract.
use mathlib.Core.Path.{sym, ◌∙◌}
use borrow.Author.Rules.{rules}
use Rattle.handwords.proofs.Slots.{slot_turning, slot_threading, slot_grooving, slot_drilling}
use Rattle.handwords.proofs.slot_words.Statement.{statement}
use Rattle.handwords.proofs.slot_words.Tie as tie

returns : tie.Need-returns-in-Turning
returns c = let e = c.words_of.ensures in (e.0, slot_turning c.words_of.result e.1 e.2 ∙ sym c.in-Turning.is)

returns_2 : tie.Need-returns-in-Threading
returns_2 c = let e = c.words_of-in-Threading.ensures in (e.0, slot_threading c.words_of-in-Threading.result e.1 e.2 ∙ sym c.in-Threading.is)

returns_3 : tie.Need-returns-in-Grooving
returns_3 c = let e = c.words_of-in-Grooving.ensures in (e.0, slot_grooving c.words_of-in-Grooving.result e.1 e.2 ∙ sym c.in-Grooving.is)

returns_4 : tie.Need-returns-in-Drilling
returns_4 c = let e = c.words_of-in-Drilling.ensures in (e.0, slot_drilling c.words_of-in-Drilling.result e.1 e.2 ∙ sym c.in-Drilling.is)

returns_5 : tie.Need-returns-in-Single
returns_5 c = let e = c.single_words.ensures in (e.0, e.1 ∙ sym c.in-Single.is)

pub slot_words_spec : {M : Type 1} → statement M
slot_words_spec =
    tie.close
    (tie.spec
    (λ c. search rules)
    (λ c κs. search rules)
    (λ c. search rules)
    (λ c κs. search rules)
    (λ c. search rules)
    (λ c κs. search rules)
    (λ c. search rules)
    (λ c κs. search rules)
    (λ c. search rules)
    (λ c κs. search rules)
    returns
    returns_2
    returns_3
    returns_4
    returns_5)
