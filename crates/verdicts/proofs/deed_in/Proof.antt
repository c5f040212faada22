-- `verdicts::deed_in` meets its contract.
use mathlib.Core.Path.{sym, ap, ◌∙◌, subst}
use Prim.Native.Nat.{ℕ, ◌<◌, ◌^◌}
use native.Mathlib.Omega.{arith}
use borrow.Author.Rules.{rules}
use Rattle.deeds.specs.Deed.{deed_of}
use Rattle.deeds.specs.Known.{Centred, Known}
use Rattle.scaling.specs.declared.Sending.{Sending}
use Rattle.verdicts.specs.Verdicts.{sending_of, deed_in}
use Rattle.verdicts.proofs.Sent.{small, centred, feed_settled, known_in}
use Rattle.verdicts.proofs.deed_in.Statement.{statement}
use Rattle.verdicts.proofs.deed_in.Tie as tie

block_motion_requires : tie.Need-block_motion-motion-requires
block_motion_requires c κs = search rules

sending_of_requires : tie.Need-sending_of-sending-requires
sending_of_requires c κs = search rules

deed_of_requires : tie.Need-deed_of-requires
unfolding sending_of
deed_of_requires c κs =
    let a = c in
    let same = sym c.sending_of-sending.ensures in (
      small a.args.b a.requires.3,
      subst (Centred a.args.b) same (centred a.args.table.now a.args.set a.args.s a.args.b a.requires.2 a.requires.3),
      subst (λ (n : ℕ). n < 32_768) (ap (λ (s : Sending). s.retract) same) (omega (arith, a.requires.1.retract)),
    )

feed_fits : (s : tie.Start) → s.args.s.f < 2 ^ 32
feed_fits s = search rules

returns : tie.Need-returns
unfolding deed_in
returns c =
    let a = c in
    let r = a.args in
    let is = c.deed_of.ensures ∙ (λ i. deed_of (c.block_motion-motion.ensures i) r.b (c.sending_of-sending.ensures i)) in
    (is, subst Known (sym is) (known_in r.table.now r.set r.s r.b a.requires.0 a.requires.1 a.requires.2 a.requires.3 (feed_settled r.s r.b a.requires.3 (feed_fits a.before.before.before))))

pub deed_in_spec : {M : Type 1} → statement M
deed_in_spec =
    tie.close (tie.spec block_motion_requires sending_of_requires deed_of_requires returns)
