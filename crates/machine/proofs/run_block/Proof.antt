-- `machine::run_block` meets its contract.
use mathlib.Core.List.{List}
use mathlib.Core.Path.{◌≡◌, sym, ap, ◌∙◌, subst}
use Prim.Native.Nat.{ℕ, ◌+◌, ◌-◌}
use native.Mathlib.Omega.{arith}
use lib.ListN.{length}
use borrow.Author.Rules.{rules}
use Rattle.octets.specs.Bytes.{laid}
use Rattle.moves.specs.Form.{record_start, room_of, row_from}
use Rattle.moves.specs.declared.Record.{Record}
use Rattle.moves.proofs.Room.{room_few, room_fits}
use Rattle.asking.specs.Judge.{doing}
use Rattle.deeds.specs.Known.{Right}
use Rattle.writing.specs.Writes.{writes}
use Rattle.verdicts.specs.Verdicts.{going_of, verdict_of}
use Rattle.verdicts.specs.Known.{Known}
use Rattle.verdicts.specs.declared.Going.{Going}
use Rattle.verdicts.proofs.Passing.{went, was_refused, right_in, counted_in}
use Rattle.machine.proofs.Running.{refused, nothing_written, done_few, done_recorded, going_records, going_state, went_well}
use Rattle.machine.proofs.run_block.Statement.{statement}
use Rattle.machine.proofs.run_block.Tie as tie

cast_judge_block : tie.Need-overflow_cast-room_left
cast_judge_block c = omega (arith, c.room.ensures, room_few (length c.args.buf.now))

-- the verdict is the one that is defined, of the room of the buffer
verdict_is : (c : tie.After-judge_block-verdict) →
    let a = c.args in
    c.judge_block-verdict.result ≡ verdict_of a.table.now a.set a.s a.b (room_of (length a.buf.now) - a.k)
verdict_is c =
    let a = c.args in
    c.judge_block-verdict.ensures.0 ∙ ap (λ (n : ℕ). verdict_of a.table.now a.set a.s a.b (n - a.k)) c.room.ensures

put_writes_requires : tie.Need-put_writes-count-requires
unfolding going_of
put_writes_requires c κs =
    let m = c in
    let j = m in
    let s = j in
    let a = s.args in
    let room = room_of (length a.buf.now) in
    let g = m.in-Goes.going in
    let w = went a.table.now a.set a.s a.b (room - a.k) g (sym (verdict_is j.before.before.before) ∙ m.in-Goes.is) in
    let few = done_few a.table.now a.set a.s a.b (room - a.k) w.well in
    let same = going_records a.table.now a.set a.s a.b w.is in (
      subst (λ (x : Going). Right x.deed) (sym w.is) (right_in a.table.now a.set a.s a.b (room - a.k) w.well),
      subst Known m.in-Goes.is j.judge_block-verdict.ensures.1,
      subst (λ (x : Going). x.count ≡ length (doing x.deed)) (sym w.is) (counted_in a.table.now a.set a.s a.b (room - a.k) w.well),
      room_fits (length a.buf.now) (a.k + length (writes g.settled a.b g.deed)) s.requires.4 (omega (arith, few, ap length same, s.requires.5)),
    )

returns : tie.Need-returns-in-Refused
returns c =
    let m = c in
    let j = m in
    let a = j.args in
    let room = room_of (length a.buf.now) in
    let w = was_refused a.table.now a.set a.s a.b (room - a.k) m.in-Refused.alarm (sym (verdict_is j.before) ∙ m.in-Refused.is) in
    (refused a.table.now a.set a.s a.b room a.k w.some w.is, nothing_written a.table.now a.set a.s a.b room a.k w.some a.origin a.buf.now)

returns_2 : tie.Need-returns-in-Goes
returns_2 c =
    let p = c in
    let m = p in
    let j = m in
    let a = j.args in
    let room = room_of (length a.buf.now) in
    let w = went a.table.now a.set a.s a.b (room - a.k) m.in-Goes.going (sym (verdict_is j.before.before.before.before.before.before.before) ∙ m.in-Goes.is) in
    let same = going_records a.table.now a.set a.s a.b w.is in (
      went_well a.table.now a.set a.s a.b room a.k w.well (c.done_of-state.ensures ∙ going_state a.table.now a.set a.s a.b w.is)
          (p.put_writes-count.ensures.0 ∙ ap (λ (v : List Record). a.k + length v) same),
      p.put_writes-count.ensures.1
          ∙ ap (λ (v : List Record). laid a.buf.now (record_start a.k) (row_from a.origin v)) (same ∙ sym (done_recorded a.table.now a.set a.s a.b (room - a.k) w.well)),
    )

pub run_block_spec : {M : Type 1} → statement M
run_block_spec =
    tie.close
    (tie.spec
    (λ c κs. search rules)
    (λ c. search rules)
    cast_judge_block
    (λ c κs. search rules)
    (λ c. search rules)
    (λ c. search rules)
    put_writes_requires
    (λ c κs. search rules)
    returns
    (λ c. search rules)
    returns_2)
