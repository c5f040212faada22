-- `planwords::record_words` meets its contract.
use mathlib.Core.Path.{◌∙◌}
use mir.Syntax.{w32}
use mir.Val.{SFits}
use mir.Facts.{to_z-of_z}
use borrow.Author.Rules.{rules}
use Rattle.moves.specs.declared.Record.{Record}
use Rattle.planwords.proofs.record_words.Statement.{statement}
use Rattle.planwords.proofs.record_words.Tie as tie

-- asked at the function's entry, where `search` still reaches them
record Held (r : Record) : Type 0 where
  x : SFits w32 r.x
  z : SFits w32 r.z

held : (s : tie.Start) → Held s.args.r
held s = record { x = search rules; z = search rules }

returns : tie.Need-returns
returns c =
    let x = c in
    let flags = x in
    let kind = flags in
    let s = kind in
    let v = s.args.r in
    let h = held s.before.before.before.before.before.before in
    λ i.
    record {
      kind = kind.byte_word-kind.ensures i;
      flags = flags.byte_word-flags.ensures i;
      x = (x.word_of-x.ensures ∙ to_z-of_z h.x) i;
      z = (c.word_of-z.ensures ∙ to_z-of_z h.z) i;
      value = v.value;
    }

pub record_words_spec : {M : Type 1} → statement M
record_words_spec =
    tie.close
    (tie.spec
    (λ c κs. search rules)
    (λ c κs. search rules)
    (λ c κs. search rules)
    (λ c κs. search rules)
    returns)
