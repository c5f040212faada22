-- `stateable::is_fit` meets its contract.
use mathlib.Core.Path.{sym, ap, ◌∙◌}
use mir.Facts.{to_z-of_z}
use mir.Syntax.{w32}
use mir.Val.{SFits}
use Rattle.telling.proofs.Tells.{never, tells_no, told_no}
use Rattle.whole.specs.Position.{in_table}
use Rattle.state.specs.declared.State.{State}
use Rattle.stateable.proofs.Fit.{tells_sound}
use borrow.Author.Rules.{rules}
use borrow.Author.Tests.{not-true, not-false}
use Rattle.stateable.proofs.is_fit.Statement.{statement}
use Rattle.stateable.proofs.is_fit.Tie as tie

-- asked at the function's entry, where `search` still reaches them
record Held (s : State) : Type 0 where
  x : SFits w32 s.x
  z : SFits w32 s.z

held : (c : tie.Start) → Held c.args.s
held c = record { x = search rules; z = search rules }

is_kept_requires : tie.Need-is_kept-requires
is_kept_requires c κs = search rules

returns : tie.Need-returns-then-not-is_kept
returns c = tells_no (λ s. told_no c.is_kept.ensures c.if-not-is_kept.true s.kept)

has_numbers_requires : tie.Need-has_numbers-requires
has_numbers_requires c κs = search rules

returns_2 : tie.Need-returns-then-not-has_numbers
returns_2 c = tells_no (λ s. told_no c.has_numbers.ensures c.if-not-has_numbers.true s.numbers)

in_table_requires : tie.Need-in_table-requires
in_table_requires c κs = search rules

returns_3 : tie.Need-returns-then-not-in_table
returns_3 c =
    let h = held c.before.before.before.before.before.before.before in
    tells_no (λ s. never (sym c.if-not-in_table.true ∙ c.in_table.ensures ∙ ap in_table (to_z-of_z h.x) ∙ s.x))

in_table_requires_2 : tie.Need-in_table-requires-2
in_table_requires_2 c κs = search rules

returns_4 : tie.Need-returns
returns_4 c =
    let third = c in
    let second = third in
    let first = second in
    let start = first in
    let h = held start.before.before.before.before.before.before.before.before.before in
    tells_sound
    start.args.s
    (first.is_kept.ensures.0 first.if-not-is_kept.false)
    (second.has_numbers.ensures.0 second.if-not-has_numbers.false)
    (sym (ap in_table (to_z-of_z h.x)) ∙ sym third.in_table.ensures ∙ third.if-not-in_table.false)
    (c.in_table-2.ensures ∙ ap in_table (to_z-of_z h.z))

pub is_fit_spec : {M : Type 1} → statement M
is_fit_spec =
    tie.close
    (tie.spec
    is_kept_requires
    returns
    has_numbers_requires
    returns_2
    in_table_requires
    returns_3
    in_table_requires_2
    returns_4)
