-- `cyclewords::threaded::words_of` meets its contract.
use mathlib.Core.Path.{refl}
use borrow.Author.Rules.{rules}
use Rattle.cyclewords.specs.Threaded.{threading_of}
use Rattle.cyclewords.proofs.threaded.words_of.Statement.{statement}
use Rattle.cyclewords.proofs.threaded.words_of.Tie as tie

returns : tie.Need-returns
unfolding threading_of
returns c =
    let cuts = c in
    let front = cuts in
    let s = front in
    let v = s.args.c in
    let e = front.front_words-front.ensures in (
      refl,
      refl,
      λ i.
          record {
            pass = e.0 i;
            side = e.1 i;
            line = e.2 i;
            depth = e.3 i;
            cuts = cuts.words_of-cuts.ensures i;
            empty = v.empty;
            stage = c.stage_word-stage.ensures i;
          },
    )

pub words_of_spec : {M : Type 1} → statement M
words_of_spec =
    tie.close
    (tie.spec
    (λ c κs. search rules)
    (λ c κs. search rules)
    (λ c κs. search rules)
    (λ c. search rules)
    (λ c. search rules)
    (λ c. search rules)
    (λ c. search rules)
    (λ c. search rules)
    (λ c. search rules)
    (λ c. search rules)
    (λ c. search rules)
    (λ c. search rules)
    (λ c. search rules)
    (λ c. search rules)
    (λ c. search rules)
    (λ c. search rules)
    (λ c. search rules)
    (λ c. search rules)
    (λ c. search rules)
    returns)
