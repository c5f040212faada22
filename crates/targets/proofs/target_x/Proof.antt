-- `targets::target_x` meets its contract.
use borrow.Author.Rules.{rules, sfits_of}
use lib.IntN.{pos, ◌*ℤ◌}
use Rattle.block.specs.Slots.{x_slot, u_slot}
use mathlib.Core.Path.{ap, sym, ◌∙◌}
use mir.Syntax.{w32}
use mir.Val.{to_z, of_z}
use mir.Facts.{to_z-of_z}
use Rattle.whole.specs.declared.position.Placed.{Placed}
use Rattle.state.specs.Known.{place_or}
use Rattle.targets.specs.Target.{word_in, target_x}
use Rattle.targets.proofs.Sending.{going_x, by_word, by_double, by_none}
use Rattle.targets.proofs.target_x.Statement.{statement}
use Rattle.targets.proofs.target_x.Tie as tie

returns : tie.Need-returns-then-has
unfolding target_x
returns c =
    let h = c in
    let s = h in
    let a = s.args in
    to_z-of_z (sfits_of {w = w32} c.place_or.type_inv)
    ∙ c.place_or.ensures
    ∙ ap (λ (p : Placed). place_or p (to_z w32 (of_z w32 a.s.x))) c.from_x_word.ensures
    ∙ by_word a.b x_slot a.s.x a.offset (going_x a.s a.b a.offset s.requires) (pos 2 *ℤ word_in a.b u_slot) (sym h.has.ensures ∙ c.if-has.true)

returns_2 : tie.Need-returns-then-has-2
unfolding target_x
returns_2 c =
    let t = c in
    let h = t in
    let s = h in
    let a = s.args in
    to_z-of_z (sfits_of {w = w32} c.place_or-then-has-2.type_inv)
    ∙ c.place_or-then-has-2.ensures
    ∙ ap (λ (p : Placed). place_or p (to_z w32 (of_z w32 a.s.x))) c.moved_by_u.ensures
    ∙ by_double a.b x_slot a.s.x a.offset (going_x a.s a.b a.offset s.requires) (sym h.has.ensures ∙ t.if-has.false)
    (sym t.has-2.ensures ∙ c.if-has-2.true)

returns_3 : tie.Need-returns
unfolding target_x
returns_3 c =
    let t = c in
    let h = t in
    let s = h in
    let a = s.args in
    by_none a.b x_slot a.s.x a.offset (going_x a.s a.b a.offset s.requires) (pos 2 *ℤ word_in a.b u_slot) (sym h.has.ensures ∙ t.if-has.false)
    (sym t.has-2.ensures ∙ c.if-has-2.false)

pub target_x_spec : {M : Type 1} → statement M
target_x_spec =
    tie.close
    (tie.spec
    (λ c κs. search rules)
    (λ c. search rules)
    (λ c κs. search rules)
    (λ c κs. search rules)
    returns
    (λ c κs. search rules)
    (λ c. search rules)
    (λ c κs. search rules)
    (λ c κs. search rules)
    returns_2
    returns_3)
