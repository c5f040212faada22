-- `straying::is_held` meets its contract.
use borrow.Author.Rules.{rules, sfits_of}
use mathlib.Core.Path.{◌≡◌, sym, ap, ◌∙◌}
use mathlib.Core.Bool.{◌&&◌}
use lib.IntN.{neg_ℤ}
use mir.Syntax.{w64}
use mir.Val.{to_z, of_z}
use mir.Facts.{to_z-of_z}
use Rattle.sweeps.specs.declared.Quadrant.{Quadrant}
use Rattle.straying.specs.Straying.{spans, root_in, holds}
use Rattle.arrows.specs.Known.{both}
use Rattle.straying.proofs.is_held.Statement.{statement}
use Rattle.straying.proofs.is_held.Tie as tie

-- where the quadrant that was tested for goes into the contract
turned : (s : tie.Start) {k : Quadrant} → s.args.k ≡ k
    → holds (both s.args.left s.args.down) (both s.args.right s.args.up) s.args.n k
    ≡ holds (both s.args.left s.args.down) (both s.args.right s.args.up) s.args.n s.args.k
turned s e = ap (λ (k : Quadrant). holds (both s.args.left s.args.down) (both s.args.right s.args.up) s.args.n k) (sym e)

enum_told : tie.Need-enum_told-1
enum_told c = search rules

root_in_requires : tie.Need-root_in-requires
root_in_requires c κs = search rules

spans_zero_requires : tie.Need-spans_zero-requires
spans_zero_requires c κs = search rules

enum_told_2 : tie.Need-enum_told-in-North
enum_told_2 c = search rules

root_in_requires_2 : tie.Need-root_in-requires-in-North
root_in_requires_2 c κs = search rules

spans_zero_requires_2 : tie.Need-spans_zero-requires-in-North
spans_zero_requires_2 c κs = search rules

enum_told_3 : tie.Need-enum_told-in-West
enum_told_3 c = search rules

opposite_requires : tie.Need-opposite-requires
opposite_requires c κs = search rules

opposite_requires_2 : tie.Need-opposite-requires-in-West
opposite_requires_2 c κs = search rules

root_in_requires_3 : tie.Need-root_in-requires-in-West
root_in_requires_3 c κs = search rules

spans_zero_requires_3 : tie.Need-spans_zero-requires-in-West
spans_zero_requires_3 c κs = search rules

enum_told_4 : tie.Need-enum_told-in-South
enum_told_4 c = search rules

opposite_requires_3 : tie.Need-opposite-requires-in-South
opposite_requires_3 c κs = search rules

opposite_requires_4 : tie.Need-opposite-requires-in-South-2
opposite_requires_4 c κs = search rules

root_in_requires_4 : tie.Need-root_in-requires-in-South
root_in_requires_4 c κs = search rules

spans_zero_requires_4 : tie.Need-spans_zero-requires-in-South
spans_zero_requires_4 c κs = search rules

returns : tie.Need-returns-in-East
unfolding holds
returns c =
    let s = c in
    let e : c.root_in.result ≡ root_in s.args.n s.args.left s.args.right = c.root_in.ensures ∙ search rules in
    let f : c.spans_zero.result ≡ spans s.args.down s.args.up = c.spans_zero.ensures ∙ search rules in
    (λ i. e i && f i) ∙ turned s.before.before.before c.in-East.is

returns_2 : tie.Need-returns-in-North
unfolding holds
returns_2 c =
    let s = c in
    let e : c.root_in-in-North.result ≡ root_in s.args.n s.args.down s.args.up = c.root_in-in-North.ensures ∙ search rules in
    let f : c.spans_zero-in-North.result ≡ spans s.args.left s.args.right = c.spans_zero-in-North.ensures ∙ search rules in
    (λ i. e i && f i) ∙ turned s.before.before.before c.in-North.is

returns_3 : tie.Need-returns-in-West
unfolding holds
returns_3 c =
    let s = c in
    let d = c in
    let o : to_z w64 (of_z w64 d.opposite.result) ≡ neg_ℤ s.args.right = to_z-of_z {w = w64} (sfits_of {w = w64} d.opposite.type_inv) ∙ (d.opposite.ensures.0 ∙ ap neg_ℤ (to_z-of_z s.ranges.right)) in
    let p : to_z w64 (of_z w64 d.opposite-in-West.result) ≡ neg_ℤ s.args.left = to_z-of_z {w = w64} (sfits_of {w = w64} d.opposite-in-West.type_inv) ∙ (d.opposite-in-West.ensures.0 ∙ ap neg_ℤ (to_z-of_z s.ranges.left)) in
    let e : c.root_in-in-West.result ≡ root_in s.args.n (neg_ℤ s.args.right) (neg_ℤ s.args.left) = c.root_in-in-West.ensures ∙ (λ i. root_in s.args.n (o i) (p i)) in
    let f : c.spans_zero-in-West.result ≡ spans s.args.down s.args.up = c.spans_zero-in-West.ensures ∙ search rules in
    (λ i. e i && f i) ∙ turned s.before.before.before.before.before c.in-West.is

returns_4 : tie.Need-returns-in-South
unfolding holds
returns_4 c =
    let s = c in
    let d = c in
    let o : to_z w64 (of_z w64 d.opposite-in-South.result) ≡ neg_ℤ s.args.up = to_z-of_z {w = w64} (sfits_of {w = w64} d.opposite-in-South.type_inv) ∙ (d.opposite-in-South.ensures.0 ∙ ap neg_ℤ (to_z-of_z s.ranges.up)) in
    let p : to_z w64 (of_z w64 d.opposite-in-South-2.result) ≡ neg_ℤ s.args.down = to_z-of_z {w = w64} (sfits_of {w = w64} d.opposite-in-South-2.type_inv) ∙ (d.opposite-in-South-2.ensures.0 ∙ ap neg_ℤ (to_z-of_z s.ranges.down)) in
    let e : c.root_in-in-South.result ≡ root_in s.args.n (neg_ℤ s.args.up) (neg_ℤ s.args.down) = c.root_in-in-South.ensures ∙ (λ i. root_in s.args.n (o i) (p i)) in
    let f : c.spans_zero-in-South.result ≡ spans s.args.left s.args.right = c.spans_zero-in-South.ensures ∙ search rules in
    (λ i. e i && f i) ∙ turned s.before.before.before.before.before c.in-South.is

pub is_held_spec : {M : Type 1} → statement M
is_held_spec =
    tie.close
    (tie.spec
    enum_told
    root_in_requires
    spans_zero_requires
    enum_told_2
    root_in_requires_2
    spans_zero_requires_2
    enum_told_3
    opposite_requires
    opposite_requires_2
    root_in_requires_3
    spans_zero_requires_3
    enum_told_4
    opposite_requires_3
    opposite_requires_4
    root_in_requires_4
    spans_zero_requires_4
    returns
    returns_2
    returns_3
    returns_4)
