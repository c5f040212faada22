-- `steps::step::do_words` meets its contract.
use mathlib.Core.Path.{sym, ap, ◌∙◌, subst}
use Prim.Native.Nat.{ℕ, ◌≤◌, ◌<◌, ◌^◌}
use native.Mathlib.Omega.{arith}
use lib.ListN.{length}
use borrow.Author.Rules.{rules}
use Rattle.octets.specs.Bytes.{laid}
use Rattle.moves.specs.Form.{record_start, room_of, row_bytes}
use Rattle.moves.proofs.OneReading.{length_stamped}
use Rattle.moves.proofs.Room.{room_fits}
use Rattle.wording.specs.of_stages.Cursor.{rest_of}
use Rattle.wording.specs.of_taking.declared.Hand.{Hand}
use Rattle.wording.specs.of_taking.declared.Opened.{Opened}
use Rattle.wording.specs.of_taking.Hands.{in_hand, HandSound, Able, OpenMeets}
use Rattle.steps.proofs.Writing.{able, has_room, step_meets, quiet_meets}
use Rattle.steps.proofs.step.do_words.Statement.{statement}
use Rattle.steps.proofs.step.do_words.Tie as tie

-- the records that are written end within the buffer, whose length fits
fits : (s : tie.Start) → length s.args.buf.now < 2 ^ 64
fits s = search rules

written : (s : tie.Start) → record_start s.args.run.count ≤ length s.args.buf.now
written s = let n = s.requires.0 in room_fits (length s.args.buf.now) s.args.run.count n.ready.header n.fit.count

-- the step that was taken, by the room of the buffer
module _ (w : tie.After-open_words-opened) where
  abbrev begun : tie.Start
  begun = w.before.before.before.before.before

  abbrev opened : Opened
  opened = w.open_words-opened.result

  meets : let a = begun.args in OpenMeets a.tape.now a.table.now a.set a.places.now a.count (room_of (length a.buf.now)) a.frame a.run opened
  meets =
      let a = begun.args in
      subst (λ (k : ℕ). OpenMeets a.tape.now a.table.now a.set a.places.now a.count k a.frame a.run opened) w.room-room.ensures w.open_words-opened.ensures

open_words_requires : tie.Need-open_words-opened-requires
open_words_requires c κs =
    let s = c in
    let a = s.args in (
      subst (λ (k : ℕ). Able a.tape.now a.table.now a.set a.places.now a.count k a.frame a.run) (sym c.room-room.ensures)
          (able a.tape.now a.table.now a.set a.first a.buf.now a.places.now a.count a.frame a.run s.requires.0),
      s.requires.1,
    )

mul_start : tie.Need-overflow_mul-start
mul_start c = let s = begun c.before.before.before in omega (arith, fits s, written s)

add_start : tie.Need-overflow_add-start
add_start c = let s = begun c.before.before.before in omega (arith, fits s, written s)

put_rest_requires : tie.Need-put_rest-requires
unfolding in_hand
put_rest_requires c κs =
    let h = c in
    let w = h in
    let s = begun w.before.before.before.before in
    let a = s.args in
    let m = meets w.before.before.before.before in (
      subst HandSound h.in-Block.is m.sound,
      omega (
        arith,
        has_room a.tape.now a.table.now a.set a.first a.buf.now a.places.now a.count a.frame a.run s.requires.0 (opened w.before.before.before.before) m,
        ap (λ (x : Hand). length (in_hand x)) h.in-Block.is ∙ length_stamped h.in-Block.origin (rest_of h.in-Block.cursor.plan h.in-Block.cursor.due),
      ),
    )

returns : tie.Need-returns-in-Nothing
returns c =
    let w = c in
    let s = begun w.before.before in
    let a = s.args in
    quiet_meets a.tape.now a.table.now a.set a.first a.buf.now a.places.now a.count a.frame a.run s.requires.0 (opened w.before.before) (meets w.before.before) c.in-Nothing.is

returns_2 : tie.Need-returns-in-Block
unfolding in_hand
returns_2 c =
    let p = c in
    let h = p in
    let w = h in
    let s = begun w.before.before.before.before.before.before.before in
    let a = s.args in
    step_meets a.tape.now a.table.now a.set a.first a.buf.now a.places.now a.count a.frame a.run s.requires.0 (opened w.before.before.before.before.before.before.before) (meets w.before.before.before.before.before.before.before)
    (p.put_rest.ensures ∙ ap (λ (x : Hand). laid a.buf.now (record_start a.run.count) (row_bytes (in_hand x))) (sym h.in-Block.is))

pub do_words_spec : {M : Type 1} → statement M
do_words_spec =
    tie.close
    (tie.spec
    (λ c κs. search rules)
    open_words_requires
    (λ c. search rules)
    (λ c. search rules)
    mul_start
    add_start
    put_rest_requires
    returns
    (λ c. search rules)
    returns_2)
