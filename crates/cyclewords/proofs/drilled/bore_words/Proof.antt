-- `cyclewords::drilled::bore_words` meets its contract.
use mathlib.Core.Path.{◌∙◌}
use mir.Syntax.{w32}
use mir.Val.{SFits}
use mir.Facts.{to_z-of_z}
use borrow.Author.Rules.{rules}
use Rattle.drilling.specs.declared.Bore.{Bore}
use Rattle.cyclewords.proofs.drilled.bore_words.Statement.{statement}
use Rattle.cyclewords.proofs.drilled.bore_words.Tie as tie

-- asked at the function's entry, where `search` still reaches them
record Held (b : Bore) : Type 0 where
  x : SFits w32 b.x
  start : SFits w32 b.start
  target : SFits w32 b.target

held : (s : tie.Start) → Held s.args.b
held s = record { x = search rules; start = search rules; target = search rules }

returns : tie.Need-returns
returns c =
    let target = c in
    let start = target in
    let x = start in
    let full = x in
    let s = full in
    let v = s.args.b in
    let h = held s.before.before.before.before.before.before.before.before in
    λ i.
    record {
      full = full.flag_word-full.ensures i;
      x = (x.word_of-x.ensures ∙ to_z-of_z h.x) i;
      start = (start.word_of-start.ensures ∙ to_z-of_z h.start) i;
      target = (target.word_of-target.ensures ∙ to_z-of_z h.target) i;
      first = v.first;
      less = v.less;
      least = v.least;
      dwell = v.dwell;
      back = v.back;
      f = v.f;
      g95 = c.flag_word-g95.ensures i;
    }

pub bore_words_spec : {M : Type 1} → statement M
bore_words_spec =
    tie.close
    (tie.spec
    (λ c κs. search rules)
    (λ c κs. search rules)
    (λ c κs. search rules)
    (λ c κs. search rules)
    (λ c κs. search rules)
    returns)
