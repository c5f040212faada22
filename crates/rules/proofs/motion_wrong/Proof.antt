-- `rules::motion_wrong` meets its contract.
use mathlib.Core.Path.{◌≡◌, sym, ap, ◌∙◌, subst}
use Rattle.stands.specs.declared.Stands.{Stands}
use Rattle.stands.specs.Stands.{none, stands_by}
use Rattle.stands.proofs.Asking.{needs_in, bits_in}
use Prim.Native.Nat.{◌≤◌}
use Rattle.block.specs.Slots.{motion_slot, g_in}
use Rattle.rules.specs.Rules.{wrong_by, motion_wrong}
use Rattle.rules.proofs.Ruling.{either}
use borrow.Author.Rules.{rules}
use Rattle.rules.proofs.motion_wrong.Statement.{statement}
use Rattle.rules.proofs.motion_wrong.Tie as tie

-- what the block's own motion asks
asked : (c : tie.After-stands_by-asks) → c.stands_by-asks.result ≡ stands_by (g_in c.args.b motion_slot)
asked c = c.stands_by-asks.ensures ∙ ap stands_by c.g_in.ensures

d_word_missing_requires : tie.Need-d_word_missing-missing-requires
d_word_missing_requires c κs =
    let a = c in
    subst (λ (x : Stands). x.needs ≤ none) (sym (asked a.before.before.before.before.before)) (needs_in (g_in a.args.b motion_slot))

bits_wrong_requires : tie.Need-bits_wrong-bits-requires
bits_wrong_requires c κs =
    let a = c in
    subst (λ (x : Stands). x.bits ≤ none) (sym (asked a.before.before.before.before.before.before)) (bits_in (g_in a.args.b motion_slot))

returns : tie.Need-returns
unfolding motion_wrong
returns c =
    let b = c in
    let m = b in
    let d = m in
    let s = d in
    let i = s in
    let k = i in
    let a = k in
    either k.call_wrong-call.ensures
    (either c.path_wrong.ensures (either i.centre_wrong-centre.ensures (either (either s.any.ensures d.d_word_wrong.ensures) (either m.d_word_missing-missing.ensures b.bits_wrong-bits.ensures))))
    ∙ ap (λ (x : Stands). wrong_by x a.args.b) (asked a.before.before.before.before.before.before.before.before)

pub motion_wrong_spec : {M : Type 1} → statement M
motion_wrong_spec =
    tie.close
    (tie.spec
    (λ c κs. search rules)
    (λ c κs. search rules)
    (λ c κs. search rules)
    (λ c κs. search rules)
    (λ c κs. search rules)
    (λ c κs. search rules)
    d_word_missing_requires
    bits_wrong_requires
    (λ c κs. search rules)
    returns)
