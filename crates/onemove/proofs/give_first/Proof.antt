-- `onemove::give_first` meets its contract.
use mathlib.Core.Path.{subst}
use borrow.Author.Rules.{rules}
use Rattle.stepping.specs.of_holding.Held.{Held}
use Rattle.onemove.proofs.Giving.{first_move, first_over, never_running}
use Rattle.onemove.proofs.give_first.Statement.{statement}
use Rattle.onemove.proofs.give_first.Tie as tie

give_one_requires : tie.Need-give_one-requires
give_one_requires c κs =
    let s = c in
    (c.put_run.ensures.1.1, subst Held c.in-Block.is s.requires.2, s.requires.5)

returns : tie.Need-returns-in-Block
returns c =
    let s = c in
    let a = s.args in
    let u = c.put_run in
    let o = c.give_one in
    first_move a.turned c.in-Block.c c.in-Block.origin c.in-Block.is u.new.state a.«record».now o.new.state o.new.record u.ensures.0 o.ensures

returns_2 : tie.Need-returns-in-Over
returns_2 c =
    let s = c in
    let a = s.args in
    let u = c.put_run in
    first_over a.turned c.in-Nothing.is c.in-Over.answer c.in-Over.is a.state.now u.new.state a.«record».now s.requires.1 u.ensures.0 u.ensures.1.0
    u.ensures.1.1

returns_3 : tie.Need-returns-in-Running
returns_3 c =
    let s = c in
    absurd (never_running s.args.turned c.in-Nothing.is c.in-Running.is s.requires.3)

pub give_first_spec : {M : Type 1} → statement M
give_first_spec = tie.close (tie.spec (λ c κs. search rules) (λ c. search rules) give_one_requires (λ c. search rules) (λ c. search rules) (λ c. search rules) (λ c. search rules) (λ c. search rules) returns (λ c. search rules) returns_2 (λ c. search rules) returns_3)
