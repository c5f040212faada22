-- `targets::target_z` meets its contract.
use borrow.Author.Rules.{rules, sfits_of}
use Rattle.block.specs.Slots.{z_slot, w_slot}
use mathlib.Core.Path.{ap, sym, ◌∙◌}
use mir.Syntax.{w32}
use mir.Val.{to_z, of_z}
use mir.Facts.{to_z-of_z}
use Rattle.whole.specs.declared.position.Placed.{Placed}
use Rattle.state.specs.Known.{place_or}
use Rattle.targets.specs.Target.{word_in, target_z}
use Rattle.targets.proofs.Sending.{going_z, by_word, by_single, by_none}
use Rattle.targets.proofs.target_z.Statement.{statement}
use Rattle.targets.proofs.target_z.Tie as tie

returns : tie.Need-returns-then-has
unfolding target_z
returns c =
    let h = c in
    let s = h in
    let a = s.args in
    to_z-of_z (sfits_of {w = w32} c.place_or.type_inv)
    ∙ c.place_or.ensures
    ∙ ap (λ (p : Placed). place_or p (to_z w32 (of_z w32 a.s.z))) c.from_z_word.ensures
    ∙ by_word a.b z_slot a.s.z a.offset (going_z a.s a.b a.offset s.requires) (word_in a.b w_slot) (sym h.has.ensures ∙ c.if-has.true)

returns_2 : tie.Need-returns-then-has-2
unfolding target_z
returns_2 c =
    let t = c in
    let h = t in
    let s = h in
    let a = s.args in
    to_z-of_z (sfits_of {w = w32} c.place_or-then-has-2.type_inv)
    ∙ c.place_or-then-has-2.ensures
    ∙ ap (λ (p : Placed). place_or p (to_z w32 (of_z w32 a.s.z))) c.moved_by_w.ensures
    ∙ by_single a.b z_slot a.s.z a.offset (going_z a.s a.b a.offset s.requires) (sym h.has.ensures ∙ t.if-has.false)
    (sym t.has-2.ensures ∙ c.if-has-2.true)

returns_3 : tie.Need-returns
unfolding target_z
returns_3 c =
    let t = c in
    let h = t in
    let s = h in
    let a = s.args in
    by_none a.b z_slot a.s.z a.offset (going_z a.s a.b a.offset s.requires) (word_in a.b w_slot) (sym h.has.ensures ∙ t.if-has.false)
    (sym t.has-2.ensures ∙ c.if-has-2.false)

pub target_z_spec : {M : Type 1} → statement M
target_z_spec =
    tie.close
    (tie.spec
    (λ c κs. search rules)
    (λ c. search rules)
    (λ c κs. search rules)
    (λ c κs. search rules)
    returns
    (λ c κs. search rules)
    (λ c. search rules)
    (λ c κs. search rules)
    (λ c κs. search rules)
    returns_2
    returns_3)
