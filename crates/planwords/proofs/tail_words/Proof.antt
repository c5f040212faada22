-- `planwords::tail_words` meets its contract.
use mathlib.Core.Path.{refl, ◌∙◌}
use mir.Syntax.{w32}
use mir.Val.{SFits}
use mir.Facts.{to_z-of_z}
use borrow.Author.Rules.{rules}
use Rattle.stages.specs.declared.Plan.{Plan}
use Rattle.planwords.proofs.tail_words.Statement.{statement}
use Rattle.planwords.proofs.tail_words.Tie as tie

-- asked at the function's entry, where `search` still reaches them
record Held (p : Plan) : Type 0 where
  x : SFits w32 p.x_behind
  z : SFits w32 p.z_behind

held : (s : tie.Start) → Held s.args.p
held s = record { x = search rules; z = search rules }

returns : tie.Need-returns
returns c =
    let stops = c in
    let coolant = stops in
    let spindle = coolant in
    let tool = spindle in
    let z = tool in
    let x = z in
    let s = x in
    let h = held s.before.before.before.before.before.before.before.before.before in
    record {
      x = x.word_of-x_behind.ensures ∙ to_z-of_z h.x;
      z = z.word_of-z_behind.ensures ∙ to_z-of_z h.z;
      stop = refl;
      tool = tool.flag_word-has_tool.ensures;
      spindle = spindle.flag_word-has_spindle.ensures;
      coolant = coolant.flag_word-has_coolant.ensures;
      stops = stops.flag_word-stops.ensures;
      g96 = c.flag_word-g96.ensures;
    }

pub tail_words_spec : {M : Type 1} → statement M
tail_words_spec =
    tie.close
    (tie.spec
    (λ c κs. search rules)
    (λ c κs. search rules)
    (λ c κs. search rules)
    (λ c κs. search rules)
    (λ c κs. search rules)
    (λ c κs. search rules)
    (λ c κs. search rules)
    returns)
