-- `asking::asks_of` meets its contract.
use mathlib.Core.Path.{subst, ◌∙◌}
use native.Mathlib.Omega.{arith}
use borrow.Author.Rules.{rules}
use Rattle.asking.specs.Judge.{asks_of}
use Rattle.deeds.specs.Known.{Known}
use Rattle.asking.proofs.Judging.{asks_by, count_by}
use Rattle.asking.proofs.asks_of.Statement.{statement}
use Rattle.asking.proofs.asks_of.Tie as tie

returns : tie.Need-returns-in-Nothing
unfolding asks_of
returns c = let t = c in (c.quiet.ensures ∙ asks_by t.args.l t.in-Nothing.is, omega (arith, count_by c.quiet.ensures))

returns_2 : tie.Need-returns-in-Nowhere
unfolding asks_of
returns_2 c = (asks_by c.args.l c.in-Nowhere.is, omega arith)

returns_3 : tie.Need-returns-in-Dwell
unfolding asks_of
returns_3 c = let t = c in (c.quiet-in-Dwell.ensures ∙ asks_by t.args.l t.in-Dwell.is, omega (arith, count_by c.quiet-in-Dwell.ensures))

returns_4 : tie.Need-returns-in-Straight
unfolding asks_of
returns_4 c = let m = c in (c.of_straight.ensures ∙ asks_by m.args.l m.in-Straight.is, omega (arith, count_by c.of_straight.ensures))

returns_5 : tie.Need-returns-in-Round
unfolding asks_of
returns_5 c = let m = c in (c.of_round.ensures ∙ asks_by m.args.l m.in-Round.is, omega (arith, count_by c.of_round.ensures))

returns_6 : tie.Need-returns-in-Cycle
unfolding asks_of
returns_6 c = let m = c in (c.of_cycle.ensures.0 ∙ asks_by m.args.l m.in-Cycle.is, c.of_cycle.ensures.1)

pub asks_of_spec : {M : Type 1} → statement M
asks_of_spec =
    tie.close
    (tie.spec
    (λ c. search rules)
    (λ c κs. search rules)
    (λ c. search rules)
    (λ c. search rules)
    (λ c κs. search rules)
    (λ c. search rules)
    (λ c κs. search rules)
    (λ c. search rules)
    (λ c κs. let p = c.requires in (subst Known c.in-Round.is p.0, p.1, p.2))
    (λ c. search rules)
    (λ c κs. subst Known c.in-Cycle.is c.requires.0)
    returns
    returns_2
    returns_3
    returns_4
    returns_5
    returns_6)
