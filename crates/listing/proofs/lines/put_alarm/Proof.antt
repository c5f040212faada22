-- `listing::lines::put_alarm` meets its contract.
use Prim.Native.Nat.{◌^◌, ◌<◌}
use native.Mathlib.Omega.{arith}
use borrow.Author.Rules.{rules}
use Rattle.listing.proofs.Made.{no_alarm, alarm_room, place_room, last_room, alarm_made}
use Rattle.listing.proofs.lines.put_alarm.Statement.{statement}
use Rattle.listing.proofs.lines.put_alarm.Tie as tie

-- the numbers fit their types
small : (c : tie.Start) → (c.args.alarm < 2 ^ 8) × (c.args.place < 2 ^ 64) × (c.args.count < 2 ^ 64)
small c = (omega arith, omega arith, omega arith)

returns : tie.Need-returns-then-out-lt-LONGEST_ALARM
returns c = no_alarm _ _ _ _ _ c.if-out-lt-LONGEST_ALARM.true

put_number_requires : tie.Need-put_number-second-requires
put_number_requires c κs =
    let p = c in
    let i = p in
    let s = i in
    alarm_room s.args.out.now s.args.alarm s.args.place s.args.count (small s.before.before.before.before.before.before.before.before.before.before) i.if-out-lt-LONGEST_ALARM.false p.put_text-number.ensures

put_number_requires_2 : tie.Need-put_number-third-requires
put_number_requires_2 c κs =
    let q = c in
    let p = q in
    let i = p in
    let s = i in
    place_room s.args.out.now s.args.alarm s.args.place s.args.count (small s.before.before.before.before.before.before.before.before.before.before.before.before.before.before) i.if-out-lt-LONGEST_ALARM.false p.put_text-number.ensures q.put_number-second.ensures

put_number_requires_3 : tie.Need-put_number-requires
put_number_requires_3 c κs =
    let o = c in
    let q = o in
    let p = q in
    let i = p in
    let s = i in
    last_room s.args.out.now s.args.alarm s.args.place s.args.count (small s.before.before.before.before.before.before.before.before.before.before.before.before.before.before.before.before.before.before) i.if-out-lt-LONGEST_ALARM.false p.put_text-number.ensures q.put_number-second.ensures o.put_number-third.ensures

returns_2 : tie.Need-returns
returns_2 c =
    let l = c in
    let o = l in
    let q = o in
    let p = q in
    let i = p in
    let s = i in
    alarm_made s.args.out.now s.args.alarm s.args.place s.args.count (small s.before.before.before.before.before.before.before.before.before.before.before.before.before.before.before.before.before.before.before.before.before) i.if-out-lt-LONGEST_ALARM.false p.put_text-number.ensures q.put_number-second.ensures o.put_number-third.ensures s.args.list.now l.put_number.ensures

pub put_alarm_spec : {M : Type 1} → statement M
put_alarm_spec =
    tie.close
    (tie.spec
    returns
    (λ c κs. search rules)
    put_number_requires
    put_number_requires_2
    put_number_requires_3
    (λ c. search rules)
    returns_2)
