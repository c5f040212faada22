-- `onemove::give_one` meets its contract.
use borrow.Author.Rules.{rules}
use Rattle.packing.specs.of_taking.declared.Hand.TheVariants.{Block}
use Rattle.onemove.proofs.Giving.{one_last, one_more}
use Rattle.onemove.proofs.give_one.Statement.{statement}
use Rattle.onemove.proofs.give_one.Tie as tie

returns : tie.Need-returns-in-Nothing
returns c =
    let a = c.args in
    let k = c.take_record-taken in
    let r = c.put_record in
    let p = c.put_nothing in
    one_last (Block a.c a.origin) a.state.now a.«record».now k.result.listed k.result.rest k.ensures.0 k.ensures.1 p.new.state r.new.part r.ensures
    c.in-Nothing.is p.ensures

returns_2 : tie.Need-returns-in-Block
returns_2 c =
    let a = c.args in
    let k = c.take_record-taken in
    let r = c.put_record in
    let p = c.put_hand in
    one_more (Block a.c a.origin) a.state.now a.«record».now k.result.listed k.result.rest k.ensures.0 k.ensures.1 p.new.state r.new.part r.ensures c.in-Block.left
    c.in-Block.from c.in-Block.is p.ensures

pub give_one_spec : {M : Type 1} → statement M
give_one_spec =
    tie.close
    (tie.spec
    (λ c κs. search rules)
    (λ c κs. search rules)
    (λ c. search rules)
    (λ c κs. search rules)
    (λ c. search rules)
    (λ c κs. search rules)
    (λ c. search rules)
    (λ c. search rules)
    returns
    (λ c. search rules)
    (λ c. search rules)
    returns_2)
