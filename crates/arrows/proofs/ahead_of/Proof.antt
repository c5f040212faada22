-- `arrows::ahead_of` meets its contract.
use mir.Syntax.{w64}
use borrow.Author.Rules.{rules, sfits_of}
use mathlib.Core.Path.{◌≡◌, sym, ap, ◌∙◌}
use mathlib.Core.Bool.{Bool, cond}
use mir.Facts.{to_z-of_z}
use Rattle.arrows.specs.Arrows.{cross, ahead}
use Rattle.arrows.proofs.ahead_of.Statement.{statement}
use Rattle.arrows.proofs.ahead_of.Tie as tie

-- where the direction that was tested for goes into the contract
turned : (s : tie.Start) {t : Bool} → s.args.clockwise ≡ t → cond t (cross s.args.b s.args.a) (cross s.args.a s.args.b) ≡ ahead s.args.clockwise s.args.a s.args.b
unfolding ahead
turned s e = ap (λ (t : Bool). cond t (cross s.args.b s.args.a) (cross s.args.a s.args.b)) (sym e)

cross_of_requires : tie.Need-cross_of-requires
cross_of_requires c κs = search rules

returns : tie.Need-returns-then-clockwise
returns c = to_z-of_z {w = w64} (sfits_of {w = w64} c.cross_of.type_inv) ∙ c.cross_of.ensures ∙ turned c.before.before c.if-clockwise.true

cross_of_requires_2 : tie.Need-cross_of-requires-2
cross_of_requires_2 c κs = search rules

returns_2 : tie.Need-returns
returns_2 c = to_z-of_z {w = w64} (sfits_of {w = w64} c.cross_of-2.type_inv) ∙ c.cross_of-2.ensures ∙ turned c.before.before c.if-clockwise.false

pub ahead_of_spec : {M : Type 1} → statement M
ahead_of_spec = tie.close (tie.spec cross_of_requires returns cross_of_requires_2 returns_2)
