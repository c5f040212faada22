-- `cyclewords::turned::front_words` meets its contract.
use mathlib.Core.Path.{◌∙◌}
use mir.Syntax.{w32}
use mir.Val.{SFits}
use mir.Facts.{to_z-of_z}
use borrow.Author.Rules.{rules}
use Rattle.passes.specs.declared.Cursor.{Cursor}
use Rattle.cyclewords.proofs.turned.front_words.Statement.{statement}
use Rattle.cyclewords.proofs.turned.front_words.Tie as tie

-- asked at the function's entry, where `search` still reaches them
record Held (c : Cursor) : Type 0 where
  from : SFits w32 c.pass.from
  home : SFits w32 c.pass.home
  end : SFits w32 c.pass.end
  line : SFits w32 c.line

held : (s : tie.Start) → Held s.args.c
held s = record { from = search rules; home = search rules; end = search rules; line = search rules }

returns : tie.Need-returns
returns c =
    let side = c in
    let end = side in
    let home = end in
    let from = home in
    let g95 = from in
    let facing = g95 in
    let s = facing in
    let v = s.args.c in
    let h = held s.before.before.before.before.before.before.before.before.before.before.before.before in (
      λ i.
          record {
            facing = facing.flag_word-facing.ensures i;
            f = v.pass.f;
            g95 = g95.flag_word-g95.ensures i;
            from = (from.word_of-from.ensures ∙ to_z-of_z h.from) i;
            home = (home.word_of-home.ensures ∙ to_z-of_z h.home) i;
            end = (end.word_of-end.ensures ∙ to_z-of_z h.end) i;
          },
      side.side_word-side.ensures,
      c.word_of-line.ensures ∙ to_z-of_z h.line,
    )

pub front_words_spec : {M : Type 1} → statement M
front_words_spec =
    tie.close
    (tie.spec
    (λ c κs. search rules)
    (λ c κs. search rules)
    (λ c κs. search rules)
    (λ c κs. search rules)
    (λ c κs. search rules)
    (λ c κs. search rules)
    (λ c κs. search rules)
    returns)
