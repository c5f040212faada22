-- `fields::record_in` meets its contract.
use mathlib.Core.Path.{◌≡◌, ap, ◌∙◌}
use lib.ListN.{get_or}
use mir.Syntax.{w32}
use mir.Val.{to_z, of_z}
use borrow.Author.Rules.{rules}
use Rattle.octets.specs.Bytes.{value_of, signed_of}
use Rattle.moves.specs.Kinds.{flagged}
use Rattle.moves.specs.Reading.{record_in}
use Rattle.fields.proofs.record_in.Statement.{statement}
use Rattle.fields.proofs.record_in.Tie as tie

returns : tie.Need-returns
unfolding record_in
returns c =
    let z = c in
    let x = z in
    let third = x in
    let second = third in
    let first = second in
    let same_x : to_z w32 (of_z w32 x.i32_of_bytes.result) ≡ x.i32_of_bytes.result = search rules in
    let same_z_lem : to_z w32 (of_z w32 z.i32_of_bytes-2.result) ≡ z.i32_of_bytes-2.result = search rules in
    let ex = same_x ∙ x.i32_of_bytes.ensures ∙ (λ i. signed_of (value_of (first.four_at-x.ensures i))) in
    let ez = same_z_lem ∙ z.i32_of_bytes-2.ensures ∙ (λ i. signed_of (value_of (second.four_at-z.ensures i))) in
    let ev = c.u32_of_bytes.ensures ∙ ap value_of third.four_at-value.ensures in
    let b = first.args.part.now in
    λ i. flagged (get_or b 0 0) (get_or b 1 0) (ex i) (ez i) (ev i)

pub record_in_spec : {M : Type 1} → statement M
record_in_spec =
    tie.close
    (tie.spec
    (λ c κs. search rules)
    (λ c κs. search rules)
    (λ c κs. search rules)
    (λ c. search rules)
    (λ c. search rules)
    (λ c κs. search rules)
    (λ c κs. search rules)
    (λ c κs. search rules)
    returns)
