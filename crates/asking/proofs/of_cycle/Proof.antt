-- `asking::of_cycle` meets its contract.
use mathlib.Core.Path.{◌≡◌, sym, ◌∙◌}
use mathlib.Core.Bool.{false}
use native.Mathlib.Omega.{arith}
use borrow.Author.Rules.{rules}
use Rattle.cycles.specs.Cycle as cycle
use Rattle.cycles.proofs.Lawful.{lawful}
use Rattle.asking.proofs.Judging.{cycle_wrong, cycle_right}
use Rattle.asking.proofs.of_cycle.Statement.{statement}
use Rattle.asking.proofs.of_cycle.Tie as tie

is_right : (c : tie.Else-is_wrong) → cycle.wrong c.args.c ≡ false
is_right c = sym c.is_wrong.ensures ∙ c.if-is_wrong.false

returns : tie.Need-returns-then-is_wrong
returns c =
    let w = c in
    (cycle_wrong w.args.c w.args.l (sym w.is_wrong.ensures ∙ c.if-is_wrong.true) w.least_feed-least.ensures, omega arith)

returns_2 : tie.Need-returns
returns_2 c =
    let e = c in
    let w = e in
    let s = w in (
      cycle_right s.args.c s.args.l (is_right e.before.before) w.least_feed-least.ensures c.ends_outside-outside.ensures c.record_count-count.ensures,
      omega (arith, c.record_count-count.ensures, (lawful s.args.c (is_right e.before.before) s.requires).few),
    )

pub of_cycle_spec : {M : Type 1} → statement M
of_cycle_spec =
    tie.close
    (tie.spec
    (λ c κs. search rules)
    (λ c κs. search rules)
    returns
    (λ c κs. (is_right c, c.requires))
    (λ c κs. (is_right c.before, c.requires))
    returns_2)
