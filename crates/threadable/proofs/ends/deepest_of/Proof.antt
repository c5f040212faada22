-- `threadable::ends::deepest_of` meets its contract.
use mathlib.Core.Path.{◌≡◌, sym, ap, ◌∙◌}
use mathlib.Core.Bool.{false}
use Prim.Native.Nat.{◌+◌, ◌<◌, ◌^◌}
use native.Mathlib.Omega.{arith}
use borrow.Author.Rules.{rules}
use Rattle.cuts.specs.Cuts.{over, Summed}
use Rattle.cuts.proofs.Opened.{rest_none, some_by_depth, some_by_number, sound_of, going_of}
use Rattle.threadable.specs.Ends.{deepest}
use Rattle.threadable.proofs.Endings.{none_deepest, even_deepest, only_last_sound, same_number, by_depth_going, by_number_going, by_depth_deepest, by_number_deepest}
use Rattle.threadable.proofs.ends.deepest_of.Statement.{statement}
use Rattle.threadable.proofs.ends.deepest_of.Tie as tie

-- some cut is left
going : (c : tie.Else-is_over) → over c.args.c ≡ false
going c = sym c.is_over.ensures ∙ c.if-is_over.false

-- what is known of the cuts that were matched
even_fits : (c : tie.After-total) → let s = c in s.args.depth + c.total.result < 2 ^ 32
even_fits c =
    let m = c in
    let s = m in
    omega (arith, c.total.ensures, sound_of s.args.depth m.in-Even.is s.requires)

by_depth_lem : (m : tie.In-ByDepth) → Summed m.in-ByDepth.f × (0 < m.in-ByDepth.f.left)
by_depth_lem m =
    let e = m in
    let s = e in
    let is = m.in-ByDepth.is in
    (sound_of s.args.depth is s.requires, some_by_depth m.in-ByDepth.f (going_of s.args.depth is (going e.before)))

by_number : (m : tie.In-ByNumber) → ((0 < m.in-ByNumber.f.d3) × Summed m.in-ByNumber.f) × (0 < m.in-ByNumber.f.left)
by_number m =
    let e = m in
    let s = e in
    let is = m.in-ByNumber.is in
    (sound_of s.args.depth is s.requires, some_by_number m.in-ByNumber.f (going_of s.args.depth is (going e.before)))

returns : tie.Need-returns-then-is_over
returns c =
    let o = c in
    let s = o in
    none_deepest s.args.depth s.args.c (rest_none s.args.depth s.args.c (sym o.is_over.ensures ∙ c.if-is_over.true))

cast_result : tie.Need-overflow_cast-result
cast_result c = omega (arith, even_fits c)

add_result : tie.Need-overflow_add-result
add_result c = omega (arith, even_fits c)

next_requires : tie.Need-next-handed-requires
next_requires c κs =
    let m = c in
    let f = m.in-ByDepth.f in
    let h = by_depth_lem m.before in
    (only_last_sound f h.1 c.only_last-last.ensures h.0, by_depth_going f h.1 c.only_last-last.ensures)

only_last_requires_2 : tie.Need-only_last-last-requires-in-ByNumber
only_last_requires_2 c κs = let h = by_number c in (h.0.1, h.1)

next_requires_2 : tie.Need-next-handed-requires-in-ByNumber
next_requires_2 c κs =
    let m = c in
    let f = m.in-ByNumber.f in
    let h = by_number m.before in
    let is = c.only_last-last-in-ByNumber.ensures in
    ((same_number f h.1 is h.0.0, only_last_sound f h.1 is h.0.1), by_number_going f h.1 is)

returns_2 : tie.Need-returns-in-Even
returns_2 c =
    let m = c in
    let s = m in
    even_deepest s.args.depth m.in-Even.p c.total.ensures ∙ ap (deepest s.args.depth) (sym m.in-Even.is)

returns_3 : tie.Need-returns-in-ByDepth
returns_3 c =
    let o = c in
    let m = o in
    let s = m in
    by_depth_deepest m.in-ByDepth.f (by_depth_lem m.before.before).1 o.only_last-last.ensures s.args.depth c.next-handed.ensures ∙ ap (deepest s.args.depth) (sym m.in-ByDepth.is)

returns_4 : tie.Need-returns-in-ByNumber
returns_4 c =
    let o = c in
    let m = o in
    let s = m in
    by_number_deepest m.in-ByNumber.f (by_number m.before.before).1 o.only_last-last-in-ByNumber.ensures s.args.depth c.next-handed-in-ByNumber.ensures ∙ ap (deepest s.args.depth) (sym m.in-ByNumber.is)

pub deepest_of_spec : {M : Type 1} → statement M
deepest_of_spec =
    tie.close
    (tie.spec
    (λ c κs. search rules)
    returns
    (λ c. search rules)
    (λ c κs. search rules)
    cast_result
    add_result
    (λ c. search rules)
    (λ c κs. by_depth_lem c)
    next_requires
    (λ c. search rules)
    only_last_requires_2
    next_requires_2
    returns_2
    returns_3
    returns_4)
