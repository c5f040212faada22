use Rattle.std.proofs.Common.{rules, ◌∙◌, refl, ap, w32, SFits, to_z-of_z}
use Rattle.std.specs.Int.{cast_unsigned}
use Rattle.runlaid.proofs.Putting.{yes_is, word_is, run_back, run_put}
use Rattle.runlaid.proofs.put_run.Goals as goal

pub returns : goal.returns
returns c =
    let r = c.args.run in
    let s = r.state in
    let f : SFits w32 s.x = search rules in
    let g : SFits w32 s.z = search rules in
    let x = c.cast_unsigned-x.ensures ∙ ap (cast_unsigned w32) (to_z-of_z f) ∙ word_is s.x f in
    let z = c.cast_unsigned-z.ensures ∙ ap (cast_unsigned w32) (to_z-of_z g) ∙ word_is s.z g in
    record {
      put = run_put r c.requires.0 c.put_four.ensures c.put_four-2.ensures c.put_four-3.ensures refl c.kept_tag-motion.ensures (c.from-g96.ensures ∙ yes_is s.g96) (c.from-g95.ensures ∙ yes_is s.g95) (c.from-due.ensures ∙ yes_is s.rapid_due) x z;
      back = run_back r f g;
    }
