-- `cyclewords::grooved::words_of` meets its contract.
use mathlib.Core.Path.{refl, ◌∙◌}
use mir.Syntax.{w32}
use mir.Val.{SFits}
use mir.Facts.{to_z-of_z}
use borrow.Author.Rules.{rules}
use Rattle.plunges.specs.declared.Cursor.{Cursor}
use Rattle.cyclewords.specs.Grooved.{grooving_of}
use Rattle.cyclewords.proofs.grooved.words_of.Statement.{statement}
use Rattle.cyclewords.proofs.grooved.words_of.Tie as tie

-- asked at the function's entry, where `search` still reaches them
record Held (c : Cursor) : Type 0 where
  width : SFits w32 c.width

held : (s : tie.Start) → Held s.args.c
held s = record { width = search rules }

returns : tie.Need-returns
unfolding grooving_of
returns c =
    let width = c in
    let stage = width in
    let groove = stage in
    let s = groove in
    let v = s.args.c in
    let h = held s.before.before.before.before.before.before in (
      refl,
      refl,
      λ i.
          record {
            groove = groove.groove_words-groove.ensures i;
            stage = stage.stage_word-stage.ensures i;
            width = (width.word_of-width.ensures ∙ to_z-of_z h.width) i;
            deep = v.deep;
            cuts = v.cuts;
            plunge = v.plunge;
            steps = v.steps;
            several = c.flag_word-several.ensures i;
          },
    )

pub words_of_spec : {M : Type 1} → statement M
words_of_spec =
    tie.close
    (tie.spec
    (λ c κs. search rules)
    (λ c κs. search rules)
    (λ c κs. search rules)
    (λ c κs. search rules)
    (λ c. search rules)
    (λ c. search rules)
    (λ c. search rules)
    (λ c. search rules)
    (λ c. search rules)
    (λ c. search rules)
    (λ c. search rules)
    (λ c. search rules)
    (λ c. search rules)
    (λ c. search rules)
    (λ c. search rules)
    (λ c. search rules)
    returns)
