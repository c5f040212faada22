-- `planwords::plan_words` meets its contract.
use mathlib.Core.Path.{◌∙◌}
use mir.Syntax.{w32}
use mir.Val.{SFits}
use mir.Facts.{to_z-of_z}
use borrow.Author.Rules.{rules}
use Rattle.stages.specs.declared.Plan.{Plan}
use Rattle.planwords.specs.Plan.{plan_of, origin_of}
use Rattle.planwords.proofs.plan_words.Statement.{statement}
use Rattle.planwords.proofs.plan_words.Tie as tie

-- asked at the function's entry, where `search` still reaches them
record Held (p : Plan) : Type 0 where
  x : SFits w32 p.x
  z : SFits w32 p.z

held : (s : tie.Start) → Held s.args.p
held s = record { x = search rules; z = search rules }

returns : tie.Need-returns
unfolding plan_of origin_of
returns c =
    let own = c in
    let z = own in
    let x = z in
    let block = x in
    let program = block in
    let s = program in
    let v = s.args.p in
    let h = held s.before.before.before.before.before.before.before.before.before in
    let t = c.tail_words-tail.ensures in (
      λ d i.
          record {
            x = (x.word_of-x.ensures ∙ to_z-of_z h.x) i;
            z = (z.word_of-z.ensures ∙ to_z-of_z h.z) i;
            speed = v.speed;
            tool = v.tool;
            spindle = v.spindle;
            coolant = v.coolant;
            own = own.own_words-own.ensures i;
            x_behind = t.x i;
            z_behind = t.z i;
            stop = t.stop i;
            has_tool = t.tool i;
            has_spindle = t.spindle i;
            has_coolant = t.coolant i;
            stops = t.stops i;
            g96 = t.g96 i;
            deed = d;
          },
      λ i. record { program = program.short_word-program.ensures i; block = block.short_word-block.ensures i },
    )

pub plan_words_spec : {M : Type 1} → statement M
plan_words_spec =
    tie.close
    (tie.spec
    (λ c κs. search rules)
    (λ c κs. search rules)
    (λ c κs. search rules)
    (λ c κs. search rules)
    (λ c κs. search rules)
    (λ c κs. search rules)
    (λ c. search rules)
    (λ c. search rules)
    (λ c. search rules)
    (λ c. search rules)
    (λ c. search rules)
    (λ c. search rules)
    (λ c. search rules)
    (λ c. search rules)
    (λ c. search rules)
    (λ c. search rules)
    (λ c. search rules)
    (λ c. search rules)
    (λ c. search rules)
    (λ c. search rules)
    (λ c. search rules)
    (λ c. search rules)
    (λ c. search rules)
    (λ c. search rules)
    (λ c. search rules)
    returns)
