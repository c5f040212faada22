-- `cyclewords::grooved::groove_words` meets its contract.
use mathlib.Core.Path.{◌∙◌}
use mir.Syntax.{w32}
use mir.Val.{SFits}
use mir.Facts.{to_z-of_z}
use borrow.Author.Rules.{rules}
use Rattle.grooving.specs.declared.Groove.{Groove}
use Rattle.cyclewords.proofs.grooved.groove_words.Statement.{statement}
use Rattle.cyclewords.proofs.grooved.groove_words.Tie as tie

-- asked at the function's entry, where `search` still reaches them
record Held (g : Groove) : Type 0 where
  top : SFits w32 g.depth.start
  bottom : SFits w32 g.depth.target
  first : SFits w32 g.width.start
  last : SFits w32 g.width.target

held : (s : tie.Start) → Held s.args.g
held s = record { top = search rules; bottom = search rules; first = search rules; last = search rules }

returns : tie.Need-returns
returns c =
    let last = c in
    let first = last in
    let bottom = first in
    let top = bottom in
    let facing = top in
    let s = facing in
    let v = s.args.g in
    let h = held s.before.before.before.before.before.before.before.before.before.before.before.before in
    λ i.
    record {
      facing = facing.flag_word-facing.ensures i;
      depth = record { start = (top.word_of-top.ensures ∙ to_z-of_z h.top) i; target = (bottom.word_of-bottom.ensures ∙ to_z-of_z h.bottom) i };
      width = record { start = (first.word_of-first.ensures ∙ to_z-of_z h.first) i; target = (last.word_of-last.ensures ∙ to_z-of_z h.last) i };
      tool = v.tool;
      overlap = v.overlap;
      piece = v.piece;
      back = v.back;
      dwell = v.dwell;
      f = v.f;
      g95 = c.flag_word-g95.ensures i;
    }

pub groove_words_spec : {M : Type 1} → statement M
groove_words_spec =
    tie.close
    (tie.spec
    (λ c κs. search rules)
    (λ c κs. search rules)
    (λ c κs. search rules)
    (λ c κs. search rules)
    (λ c κs. search rules)
    (λ c κs. search rules)
    returns)
