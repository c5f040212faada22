-- `sweeps::sweep_between` meets its contract.
use borrow.Author.Rules.{rules, sfits_of}
use mathlib.Core.Path.{◌≡◌, ◌∙◌, subst}
use mathlib.Core.Bool.{Bool}
use lib.IntN.{ℤ, pos}
use lib.Signed.{lt_z}
use mir.Syntax.{w64}
use mir.Val.{to_z, of_z}
use mir.Facts.{to_z-of_z}
use Rattle.arrows.specs.Arrows.{dot, ahead}
use Rattle.sweeps.specs.Sweeps.{sweep}
use Rattle.sweeps.proofs.sweep_between.Statement.{statement}
use Rattle.sweeps.proofs.sweep_between.Tie as tie

on : (c : tie.After-ahead_of-on) → to_z w64 (of_z w64 c.ahead_of-on.result) ≡ ahead c.args.clockwise c.args.from c.args.to
on c = to_z-of_z {w = w64} (sfits_of {w = w64} c.ahead_of-on.type_inv) ∙ c.ahead_of-on.ensures

dotted : (c : tie.After-dot_of) → to_z w64 (of_z w64 c.dot_of.result) ≡ dot c.args.from c.args.to
dotted c = to_z-of_z {w = w64} (sfits_of {w = w64} c.dot_of.type_inv) ∙ c.dot_of.ensures

below : {y z : ℤ} {t : Bool} → y ≡ z → lt_z y (pos 0) ≡ t → lt_z z (pos 0) ≡ t
below {t = t} e h = subst (λ (z : ℤ). lt_z z (pos 0) ≡ t) e h

above : {y z : ℤ} {t : Bool} → y ≡ z → lt_z (pos 0) y ≡ t → lt_z (pos 0) z ≡ t
above {t = t} e h = subst (λ (z : ℤ). lt_z (pos 0) z ≡ t) e h

ahead_of_requires : tie.Need-ahead_of-on-requires
ahead_of_requires c κs = search rules

returns : tie.Need-returns-then-on-lt0
unfolding sweep
returns c = simp (below (on c.before) c.if-on-lt0.true)

returns_2 : tie.Need-returns-then-on-gt0
unfolding sweep
returns_2 c = let d = on c.before.before in simp (below d c.if-on-lt0.false, above d c.if-on-gt0.true)

dot_of_requires : tie.Need-dot_of-requires
dot_of_requires c κs = search rules

returns_3 : tie.Need-returns-then-dot_of-gt0
unfolding sweep
returns_3 c =
    let d = on c.before.before.before.before in
    simp (below d c.if-on-lt0.false, above d c.if-on-gt0.false, above (dotted c.before) c.if-dot_of-gt0.true)

returns_4 : tie.Need-returns
unfolding sweep
returns_4 c =
    let d = on c.before.before.before.before in
    simp (below d c.if-on-lt0.false, above d c.if-on-gt0.false, above (dotted c.before) c.if-dot_of-gt0.false)

pub sweep_between_spec : {M : Type 1} → statement M
sweep_between_spec =
    tie.close (tie.spec ahead_of_requires returns returns_2 dot_of_requires returns_3 returns_4)
