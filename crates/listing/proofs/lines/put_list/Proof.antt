-- `listing::lines::put_list` meets its contract.
use native.Mathlib.Omega.{arith}
use Prim.Native.Nat.{◌≤◌}
use lib.ListN.{length}
use borrow.Author.Rules.{rules}
use Rattle.moves.specs.Form.{room_of}
use Rattle.listing.proofs.Made.{not_held, no_room, listing_made}
use Rattle.listing.proofs.Reading.{held_few}
use Rattle.listing.proofs.lines.put_list.Statement.{statement}
use Rattle.listing.proofs.lines.put_list.Tie as tie

returns : tie.Need-returns-then-count-room
returns c = let s = c in not_held s.args.out.now s.args.list.now s.args.count (omega (arith, c.room.ensures))

-- the list can hold as many records as are counted
held : (c : tie.Else-count-room) → c.args.count ≤ room_of (length c.args.list.now)
held c = omega (arith, c.room.ensures)

mul_if2 : tie.Need-overflow_mul-count
mul_if2 c = let h = held_few _ _ (held c) in search rules

add_if2 : tie.Need-overflow_add-count
add_if2 c = let h = held_few _ _ (held c) in search rules

returns_2 : tie.Need-returns-then-out-count
returns_2 c = let s = c in no_room s.args.out.now s.args.list.now s.args.count (held c.before) c.if-out-count.true

put_records_requires : tie.Need-put_records-requires
put_records_requires c κs =
    let h = c in
    let i = h in
    (held i.before.before.before.before.before.before, omega (arith, h.put_head-first.ensures.1, i.if-out-count.false, h.put_head-first.auto))

returns_3 : tie.Need-returns
returns_3 c =
    let r = c in
    let h = r in
    let i = h in
    let s = i in
    listing_made s.args.out.now s.args.list.now s.args.count (held i.before.before.before.before.before.before.before.before.before) i.if-out-count.false h.put_head-first.ensures r.put_records.ensures

pub put_list_spec : {M : Type 1} → statement M
put_list_spec =
    tie.close
    (tie.spec
    (λ c κs. search rules)
    returns
    mul_if2
    add_if2
    returns_2
    (λ c κs. search rules)
    put_records_requires
    (λ c. search rules)
    returns_3)
