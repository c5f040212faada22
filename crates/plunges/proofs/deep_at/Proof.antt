-- `plunges::deep_at` meets its contract.
use borrow.Author.Rules.{rules, sfits_of}
use mathlib.Core.Path.{◌≡◌, sym, ap, ◌∙◌, subst}
use Prim.Native.Nat.{ℕ}
use native.Mathlib.Omega.{arith}
use lib.IntN.{ℤ, ◌+ℤ◌, ◌-ℤ◌}
use mir.Syntax.{w32}
use mir.Val.{SFits, to_z, of_z}
use mir.Facts.{to_z-of_z}
use Rattle.whole.specs.Signed.{side_of, along}
use Rattle.whole.specs.declared.Side.{Side}
use Rattle.whole.specs.declared.Side.TheVariants.{Zero, Plus}
use Rattle.whole.proofs.Sides.{along_zero, no_way, toward}
use Rattle.grooving.specs.Grooving.{deep_at}
use Rattle.plunges.proofs.deep_at.Statement.{statement}
use Rattle.plunges.proofs.deep_at.Tie as tie

-- no way is the same to each side
no_step : (a : ℤ) (s r : Side) {t : ℕ} → t ≡ 0 → a +ℤ along s t ≡ a +ℤ along r t
no_step a s r {t} e = subst (λ (n : ℕ). a +ℤ along s n ≡ a +ℤ along r n) (sym e) (along_zero a s ∙ sym (along_zero a r))

module _ (c : tie.After-side_of-side) where
  abbrev begun : tie.Start
  begun = c.before.before.before.before

  abbrev from : ℤ
  from = to_z w32 (of_z w32 begun.args.g.depth.start)

  side_is : c.side_of-side.result ≡ side_of (begun.args.g.depth.target -ℤ begun.args.g.depth.start)
  side_is = c.side_of-side.ensures ∙ search rules

  -- the step goes to the place at that depth
  the_place : from +ℤ along c.side_of-side.result begun.args.t ≡ deep_at begun.args.g begun.args.t
  the_place =
      let f : SFits w32 begun.args.g.depth.start = search rules in
      (λ i. to_z-of_z f i +ℤ along (side_is i) begun.args.t)

  -- by the side that it was told as
  told : {s : Side} → c.side_of-side.result ≡ s → from +ℤ along s begun.args.t ≡ deep_at begun.args.g begun.args.t
  told {s} e = ap (λ (r : Side). from +ℤ along r begun.args.t) (sym e) ∙ the_place

  -- and to any side, where there is no way
  nowhere : c.side_of-side.result ≡ Zero → from +ℤ along Plus begun.args.t ≡ deep_at begun.args.g begun.args.t
  nowhere e = no_step from Plus Zero (omega (arith, begun.requires, no_way (begun.args.g.depth.target -ℤ begun.args.g.depth.start) (sym side_is ∙ e))) ∙ told e

  fits : {z : ℤ} → z ≡ deep_at begun.args.g begun.args.t → SFits w32 z
  fits e =
      let f : SFits w32 begun.args.g.depth.start = search rules in
      let g : SFits w32 begun.args.g.depth.target = search rules in
      subst (SFits w32) (sym e) (toward f g begun.args.t begun.requires)

step_requires : tie.Need-step-requires
step_requires c κs = let k = c in fits k.before (told k.before c.in-Plus.is)

step_requires_2 : tie.Need-step-requires-in-Minus
step_requires_2 c κs = let k = c in fits k.before (told k.before c.in-Minus.is)

step_requires_3 : tie.Need-step-requires-in-Zero
step_requires_3 c κs = let k = c in fits k.before (nowhere k.before c.in-Zero.is)

returns : tie.Need-returns-in-Plus
returns c = to_z-of_z (sfits_of {w = w32} c.step.type_inv) ∙ c.step.ensures ∙ told c.before.before c.in-Plus.is

returns_2 : tie.Need-returns-in-Minus
returns_2 c = to_z-of_z (sfits_of {w = w32} c.step-in-Minus.type_inv) ∙ c.step-in-Minus.ensures ∙ told c.before.before c.in-Minus.is

returns_3 : tie.Need-returns-in-Zero
returns_3 c = to_z-of_z (sfits_of {w = w32} c.step-in-Zero.type_inv) ∙ c.step-in-Zero.ensures ∙ nowhere c.before.before c.in-Zero.is

pub deep_at_spec : {M : Type 1} → statement M
deep_at_spec =
    tie.close
    (tie.spec
    (λ c κs. search rules)
    (λ c. search rules)
    step_requires
    (λ c. search rules)
    step_requires_2
    (λ c. search rules)
    step_requires_3
    returns
    returns_2
    returns_3)
