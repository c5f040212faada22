-- `asking::alarm_of` meets its contract: each test of the code is the definition's.
use mathlib.Core.Path.{refl}
use borrow.Author.Rules.{rules}
use Rattle.asking.specs.Judge.{alarm_of}
use Rattle.asking.proofs.alarm_of.Statement.{statement}
use Rattle.asking.proofs.alarm_of.Tie as tie

-- the tests that were not met before
abbrev else1 : tie.Else-a-q → tie.Else-q
else1 c = c.before.before.before

abbrev else2 : tie.Else-q-a → tie.Else-a-q
else2 c = c.before.before.before.before.before

returns : tie.Need-returns-then-q
unfolding alarm_of
returns c = rw c.if-q.true refl

returns_2 : tie.Need-returns-then-a-q
unfolding alarm_of
returns_2 c = rw (c.if-q.false, c.if-a-q.true) refl

returns_3 : tie.Need-returns-then-q-a
unfolding alarm_of
returns_3 c =
    let e2 = c in
    rw ((else1 e2.before.before.before.before.before).if-q.false, e2.if-a-q.false, c.if-q-a.true) refl

returns_4 : tie.Need-returns-then-q-2
unfolding alarm_of
returns_4 c =
    let e3 = c in
    let e2 = else2 e3.before in
    rw ((else1 e2).if-q.false, e2.if-a-q.false, e3.if-q-a.false, c.if-q-2.true) refl

returns_5 : tie.Need-returns-then-q-3
unfolding alarm_of
returns_5 c =
    let e4 = c in
    let e3 = e4 in
    let e2 = else2 e3.before.before in
    rw ((else1 e2).if-q.false, e2.if-a-q.false, e3.if-q-a.false, e4.if-q-2.false, c.if-q-3.true) refl

returns_6 : tie.Need-returns-then-records-a
unfolding alarm_of
returns_6 c =
    let e5 = c in
    let e4 = e5 in
    let e3 = e4 in
    let e2 = else2 e3.before.before.before.before.before.before in
    rw ((else1 e2).if-q.false, e2.if-a-q.false, e3.if-q-a.false, e4.if-q-2.false, e5.if-q-3.false, c.if-records-a.true) refl

returns_7 : tie.Need-returns
unfolding alarm_of
returns_7 c =
    let e5 = c in
    let e4 = e5 in
    let e3 = e4 in
    let e2 = else2 e3.before.before.before.before.before.before in
    rw ((else1 e2).if-q.false, e2.if-a-q.false, e3.if-q-a.false, e4.if-q-2.false, e5.if-q-3.false, c.if-records-a.false) refl

pub alarm_of_spec : {M : Type 1} → statement M
alarm_of_spec =
    tie.close
    (tie.spec returns returns_2 returns_3 returns_4 returns_5 (λ c. search rules) (λ c. search rules) (λ c. search rules) returns_6 returns_7)
