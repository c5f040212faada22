-- `groovable::is_fit` meets its contract.
use mathlib.Core.Path.{sym}
use mathlib.Core.Bool.{Bool}
use Prim.Native.Nat.{◌<◌, ◌^◌}
use lib.IntN.{ℤ, ◌+ℤ◌}
use mir.Facts.{to_z-of_z}
use mir.Syntax.{w32}
use mir.Val.{SFits, to_z, of_z}
use Rattle.telling.proofs.Tells.{Tells, tells_no, told_no, tells_of}
use Rattle.whole.specs.declared.Side.TheVariants.{Minus}
use Rattle.whole.specs.Signed.{along}
use Rattle.division.specs.Division.{sum}
use Rattle.division.specs.Carried.{row_of}
use Rattle.plunges.specs.declared.Cursor.{Cursor}
use Rattle.groovable.proofs.Fit.{apart, Parts, tells_sound}
use borrow.Author.Rules.{rules}
use borrow.Author.Tests.{not-true, not-false}
use Rattle.groovable.proofs.is_fit.Statement.{statement}
use Rattle.groovable.proofs.is_fit.Tie as tie

-- asked at the function's entry, where `search` still reaches them
record Held (c : Cursor) : Type 0 where
  width : SFits w32 c.width
  start : SFits w32 c.groove.depth.start
  target : SFits w32 c.groove.depth.target

held : (s : tie.Start) → Held s.args.c
held s = record { width = search rules; start = search rules; target = search rules }

-- what is told of the width as it was read is told of the width
abbrev about : Cursor → ℤ → Type 0
about k w = (sum (row_of k.steps) < 2 ^ 32) × SFits w32 (w +ℤ along Minus (sum (row_of k.steps)))

told_across : (s : tie.Start) {test : Bool} → Tells test (about s.args.c (to_z w32 (of_z w32 s.args.c.width))) → Tells test (about s.args.c s.args.c.width)
told_across s t = tells_of (about s.args.c) (sym (to_z-of_z (held s).width)) t

returns : tie.Need-returns-then-not-are_cuts
returns c = tells_no (λ s. told_no c.are_cuts.ensures c.if-not-are_cuts.true (s.some, s.row))

returns_2 : tie.Need-returns-then-not-stays_within
returns_2 c = tells_no (λ s. told_no c.stays_within.ensures c.if-not-stays_within.true s.reach)

returns_3 : tie.Need-returns-then-not-fits_across
returns_3 c =
    let start = c in
    tells_no (λ s. told_no (told_across start.before.before.before.before.before.before.before.before.before.before.before.before c.fits_across.ensures) c.if-not-fits_across.true (s.small, s.wide))

returns_4 : tie.Need-returns
returns_4 c =
    let across = c in
    let within = across in
    let same = within in
    let start = same in
    let k = start.args.c in
    let h = held start.before.before.before.before.before.before.before.before.before.before.before.before.before in
    let row = same.are_cuts.ensures.0 same.if-not-are_cuts.false in
    let reach = within.stays_within.ensures.0 within.if-not-stays_within.false in
    let last = (told_across start.before.before.before.before.before.before.before.before.before.before.before.before.before across.fits_across.ensures).0 across.if-not-fits_across.false in
    let parts : Parts k = record { some = row.0; row = row.1; far = apart k.groove.depth h.start h.target; reach = reach; small = last.0; wide = last.1 } in
    tells_sound k parts c.is_ready.ensures

pub is_fit_spec : {M : Type 1} → statement M
is_fit_spec =
    tie.close
    (tie.spec
    (λ c κs. search rules)
    returns
    (λ c κs. search rules)
    returns_2
    (λ c κs. search rules)
    returns_3
    (λ c κs. search rules)
    returns_4)
