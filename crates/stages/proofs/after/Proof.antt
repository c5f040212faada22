-- `stages::after` meets its contract.
use borrow.Author.Rules.{rules}
use Rattle.stages.specs.Cursor.{behind_at}
use Rattle.stages.proofs.Cursors.{deed_due, behind_follows, over_due, follows_at}
use Rattle.stages.proofs.after.Statement.{statement}
use Rattle.stages.proofs.after.Tie as tie

returns : tie.Need-returns-in-Speed
unfolding behind_at
returns c = let t = c in follows_at t.args.p t.in-Speed.is c.after_speed.ensures

returns_2 : tie.Need-returns-in-Tool
unfolding behind_at
returns_2 c = let t = c in follows_at t.args.p t.in-Tool.is c.after_tool.ensures

returns_3 : tie.Need-returns-in-Spindle
unfolding behind_at
returns_3 c = let t = c in follows_at t.args.p t.in-Spindle.is c.after_spindle.ensures

returns_4 : tie.Need-returns-in-Coolant
unfolding behind_at
returns_4 c = let s = c in follows_at s.args.p c.in-Coolant.is (deed_due s.args.p s.requires)

returns_5 : tie.Need-returns-in-Deed
unfolding behind_at
returns_5 c = let t = c in follows_at t.args.p t.in-Deed.is c.after_goes.ensures

returns_6 : tie.Need-returns-in-Centre
unfolding behind_at
returns_6 c = let t = c in follows_at t.args.p t.in-Centre.is (behind_follows t.args.p c.stage_behind.ensures)

returns_7 : tie.Need-returns-in-Stop
unfolding behind_at
returns_7 c = let p = c.args.p in follows_at p c.in-Stop.is (over_due p)

returns_8 : tie.Need-returns-in-Over
unfolding behind_at
returns_8 c = let p = c.args.p in follows_at p c.in-Over.is (over_due p)

pub after_spec : {M : Type 1} → statement M
after_spec =
    tie.close
    (tie.spec
    (λ c. search rules)
    (λ c κs. search rules)
    (λ c. search rules)
    (λ c κs. search rules)
    (λ c. search rules)
    (λ c κs. search rules)
    (λ c. search rules)
    (λ c. search rules)
    (λ c κs. search rules)
    (λ c. search rules)
    (λ c κs. search rules)
    (λ c. search rules)
    (λ c. search rules)
    returns
    returns_2
    returns_3
    returns_4
    returns_5
    returns_6
    returns_7
    returns_8)
