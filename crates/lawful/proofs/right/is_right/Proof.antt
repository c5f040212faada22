-- `lawful::right::is_right` meets its contract.
use mathlib.Core.Path.{◌≡◌, sym, ap, ◌∙◌}
use mathlib.Core.Bool.{Bool, ◌&&◌, ◌||◌}
use Prim.Native.Nat.{ℕ}
use lib.Dec.{eqb}
use mir.Syntax.{w32}
use mir.Val.{to_z, of_z}
use borrow.Author.Rules.{rules}
use Rattle.lawful.specs.Right.{is_known, flag_of, flags_right, place_right, is_right}
use Rattle.lawful.proofs.right.is_right.Statement.{statement}
use Rattle.lawful.proofs.right.is_right.Tie as tie

-- kind and flags, as the code asked them
asked : (k f : ℕ) {n : ℕ} {t : Bool} → n ≡ flag_of k → (is_known k && (eqb f 0 || eqb f n)) ≡ t → (is_known k && flags_right k f) ≡ t
asked k f e h = (λ i. is_known k && (eqb f 0 || eqb f (sym e i))) ∙ h

returns : tie.Need-returns-then-place_right
unfolding is_right
returns c =
    let t = c in
    let u = t in
    let s = u in
    let w = s.args.what in
    let x : to_z w32 (of_z w32 w.x) ≡ w.x = search rules in
    let z : to_z w32 (of_z w32 w.z) ≡ w.z = search rules in
    let q = asked w.kind w.flags u.flag_of-flag.ensures u.if-known-flagged.true in
    let at_x = sym (t.place_right.ensures ∙ ap (place_right w.kind) x) ∙ t.if-place_right.true in
    let at_z = c.place_right-then-place_right.ensures ∙ ap (place_right w.kind) z in
    λ i. sym q i && (sym at_x i && at_z i)

returns_2 : tie.Need-returns-else-place_right
unfolding is_right
returns_2 c =
    let u = c in
    let s = u in
    let w = s.args.what in
    let x : to_z w32 (of_z w32 w.x) ≡ w.x = search rules in
    let q = asked w.kind w.flags u.flag_of-flag.ensures u.if-known-flagged.true in
    let at_x = sym (c.place_right.ensures ∙ ap (place_right w.kind) x) ∙ c.if-place_right.false in
    λ i. sym q i && (sym at_x i && place_right w.kind w.z)

returns_3 : tie.Need-returns-else-known-flagged
unfolding is_right
returns_3 c =
    let s = c in
    let w = s.args.what in
    let q = asked w.kind w.flags c.flag_of-flag.ensures c.if-known-flagged.false in
    λ i. sym q i && (place_right w.kind w.x && place_right w.kind w.z)

pub is_right_spec : {M : Type 1} → statement M
is_right_spec = tie.close (tie.spec (λ c κs. search rules) (λ c κs. search rules) (λ c κs. search rules) returns returns_2 returns_3)
