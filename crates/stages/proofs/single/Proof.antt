-- `stages::single` meets its contract.
use mathlib.Core.Path.{◌≡◌, sym, ap, ◌∙◌}
use mir.Syntax.{w32}
use mir.Val.{SFits, to_z, of_z}
use mir.Facts.{to_z-of_z}
use borrow.Author.Rules.{rules}
use Rattle.moves.specs.Kinds.{tool, miscellaneous, speed}
use Rattle.stages.specs.Cursor.{single_of}
use Rattle.stages.proofs.single.Statement.{statement}
use Rattle.stages.proofs.single.Tie as tie

-- the fields of a plan fit, known where the function begins
x_fits : (s : tie.Start) → SFits w32 s.args.p.x_behind
x_fits s = search rules

z_fits : (s : tie.Start) → SFits w32 s.args.p.z_behind
z_fits s = search rules

returns : tie.Need-returns-in-Speed
unfolding single_of
returns c =
    let t = c in
    let p = t.args.p in
    let x : to_z w32 (of_z w32 p.x) ≡ p.x = search rules in
    let z : to_z w32 (of_z w32 p.z) ≡ p.z = search rules in
    c.speed.ensures ∙ (λ i. speed (x i) (z i) p.speed p.g96) ∙ ap (single_of p) (sym t.in-Speed.is)

returns_2 : tie.Need-returns-in-Tool
unfolding single_of
returns_2 c =
    let t = c in
    let p = t.args.p in
    let x : to_z w32 (of_z w32 p.x) ≡ p.x = search rules in
    let z : to_z w32 (of_z w32 p.z) ≡ p.z = search rules in
    c.tool.ensures ∙ (λ i. tool (x i) (z i) p.tool) ∙ ap (single_of p) (sym t.in-Tool.is)

returns_3 : tie.Need-returns-in-Spindle
unfolding single_of
returns_3 c =
    let t = c in
    let p = t.args.p in
    let x : to_z w32 (of_z w32 p.x) ≡ p.x = search rules in
    let z : to_z w32 (of_z w32 p.z) ≡ p.z = search rules in
    c.miscellaneous.ensures ∙ (λ i. miscellaneous (x i) (z i) p.spindle) ∙ ap (single_of p) (sym t.in-Spindle.is)

returns_4 : tie.Need-returns-in-Coolant
unfolding single_of
returns_4 c =
    let t = c in
    let p = t.args.p in
    let x : to_z w32 (of_z w32 p.x) ≡ p.x = search rules in
    let z : to_z w32 (of_z w32 p.z) ≡ p.z = search rules in
    c.miscellaneous-in-Coolant.ensures ∙ (λ i. miscellaneous (x i) (z i) p.coolant) ∙ ap (single_of p) (sym t.in-Coolant.is)

returns_5 : tie.Need-returns-in-Deed
unfolding single_of
returns_5 c = let t = c in ap (single_of t.args.p) (sym t.in-Deed.is)

returns_6 : tie.Need-returns-in-Centre
unfolding single_of
returns_6 c = let t = c in ap (single_of t.args.p) (sym t.in-Centre.is)

returns_7 : tie.Need-returns-in-Stop
unfolding single_of
returns_7 c =
    let t = c in
    let p = t.args.p in
    let x : to_z w32 (of_z w32 p.x_behind) ≡ p.x_behind = to_z-of_z (x_fits t.before.before.before.before.before) in
    let z : to_z w32 (of_z w32 p.z_behind) ≡ p.z_behind = to_z-of_z (z_fits t.before.before.before.before.before) in
    c.miscellaneous-in-Stop.ensures ∙ (λ i. miscellaneous (x i) (z i) p.stop) ∙ ap (single_of p) (sym t.in-Stop.is)

returns_8 : tie.Need-returns-in-Over
unfolding single_of
returns_8 c = let t = c in ap (single_of t.args.p) (sym t.in-Over.is)

pub single_spec : {M : Type 1} → statement M
single_spec =
    tie.close
    (tie.spec
    (λ c. search rules)
    (λ c κs. search rules)
    (λ c. search rules)
    (λ c κs. search rules)
    (λ c. search rules)
    (λ c κs. search rules)
    (λ c. search rules)
    (λ c κs. search rules)
    (λ c. search rules)
    (λ c. search rules)
    (λ c. search rules)
    (λ c κs. search rules)
    (λ c. search rules)
    returns
    returns_2
    returns_3
    returns_4
    returns_5
    returns_6
    returns_7
    returns_8)
