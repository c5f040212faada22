-- `state::settle` meets its contract.
use mathlib.Core.Path.{◌≡◌, ap, ◌∙◌}
use mir.Syntax.{w32}
use mir.Val.{to_z, of_z}
use Rattle.acts.specs.declared.Kept.{Kept}
use Rattle.codes.specs.declared.Code.{Code}
use Rattle.acts.specs.Acting.{keep, shift_by, cutting_by, revolution_by}
use Rattle.state.specs.Modal.{settled}
use borrow.Author.Rules.{rules}
use Rattle.state.proofs.settle.Statement.{statement}
use Rattle.state.proofs.settle.Tie as tie

-- the axes, as the machine reads them back from their bits
x : (c : tie.Start) → to_z w32 (of_z w32 c.args.s.x) ≡ c.args.s.x
x c = search rules

z : (c : tie.Start) → to_z w32 (of_z w32 c.args.s.z) ≡ c.args.s.z
z c = search rules

returns : tie.Need-returns
unfolding settled
returns c =
    let f = c in
    let s5 = f in
    let s3 = s5 in
    let r = s3 in
    let u = r in
    let k = u in
    let g5 = k in
    let g3 = g5 in
    let gf = g3 in
    let gs = gf in
    let m = gs in
    let a = m.args.s in
    λ i. record {
      motion = (k.keep_of.ensures ∙ ap (λ (now : Kept). keep now a.motion) m.block_motion-now.ensures) i;
      g96 = (u.cutting_by.ensures ∙ ap (λ (n : Code). cutting_by n a.g96) gs.g_in-speed.ensures) i;
      g95 = (r.revolution_by.ensures ∙ ap (λ (n : Code). revolution_by n a.g95) gf.g_in-feed.ensures) i;
      shift_group3 = (s3.shift_by.ensures ∙ ap (λ (n : Code). shift_by n a.shift_group3) g3.g_in-shift3.ensures) i;
      shift_group5 = (s5.shift_by-2.ensures ∙ ap (λ (n : Code). shift_by n a.shift_group5) g5.g_in-shift5.ensures) i;
      correction = f.correction_after.ensures i;
      f = f.feed_after.ensures i;
      rapid_due = c.due_after.ensures i;
      x = x m.before.before.before.before.before.before.before.before.before.before.before.before.before.before i;
      z = z m.before.before.before.before.before.before.before.before.before.before.before.before.before.before i;
    }

pub settle_spec : {M : Type 1} → statement M
settle_spec =
    tie.close
    (tie.spec
    (λ c κs. search rules)
    (λ c κs. search rules)
    (λ c κs. search rules)
    (λ c κs. search rules)
    (λ c κs. search rules)
    (λ c κs. search rules)
    (λ c κs. search rules)
    (λ c κs. search rules)
    (λ c κs. search rules)
    (λ c κs. search rules)
    (λ c κs. search rules)
    (λ c κs. search rules)
    (λ c κs. search rules)
    returns)
