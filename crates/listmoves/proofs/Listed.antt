-- What is listed of a tape is what is printed, and there is always room for it: no list has more records than its buffer.
-- Assumes nothing.
use mathlib.Core.Path.{◌≡◌, refl, ap, ◌∙◌}
use mathlib.Core.Bool.{true}
use mathlib.Core.List.{List}
use Prim.Native.Nat.{ℕ, ◌+◌, ◌*◌, ◌≤◌}
use native.Mathlib.Omega.{arith}
use lib.IntN.{ℤ}
use lib.ListN.{length, length-replicate}
use borrow.Author.Tests.{le-leb}
use Rattle.octets.specs.Bytes.{laid}
use Rattle.moves.specs.Form.{record_limit, record_start, room_of}
use Rattle.panel.specs.Listmoves.{listmoves, no_offsets}
use Rattle.settings.specs.declared.Settings.{Settings}
use Rattle.listing.specs.of_answers.Answers.{count_of}
use Rattle.reading.specs.Filling.{most_places}
use Rattle.demands.specs.of_interpreter.Answers.{answer_of, buffer_of}
use Rattle.listing.specs.of_answers.declared.Answer.{Answer}
use Rattle.listing.specs.of_answers.declared.Answer.TheVariants.{Complete, Alarm}
use Rattle.demands.proofs.Holding.{all_owed}
use Rattle.listing.specs.Listing.{longest_head, longest_record_line, longest_alarm, is_made, listing_of, text_of}
use Rattle.listmoves.specs.Printed.{fresh_buffer, printed, text_size}

fresh_size : length fresh_buffer ≡ record_start record_limit
unfolding fresh_buffer
fresh_size = length-replicate {A = ℕ} (record_start record_limit) 0

room_is : {bytes : ℕ} → bytes ≡ record_start record_limit → room_of bytes ≡ record_limit
unfolding room_of
room_is e = ap room_of e

-- a listing of no more records than a list may have is made
all_made : (a : Answer) (bytes room : ℕ) → count_of a ≤ record_limit → bytes ≡ record_start record_limit → text_size ≤ room → is_made a bytes room ≡ true
unfolding is_made
all_made (Complete n) bytes room c e h =
    rw (le-leb n (room_of bytes) (omega (arith, c, room_is e)), le-leb (longest_head + longest_record_line * n) room (omega (arith, c, h))) refl
all_made (Alarm alarm place n) bytes room c e h = le-leb longest_alarm room (omega (arith, h))

made_text : (a : Answer) (list : List ℕ) (room : ℕ) → is_made a (length list) room ≡ true → text_of a list room ≡ listing_of a list
unfolding text_of
made_text a list room e = rw e refl

module _ (tape : List ℕ) {table : List ℤ} {set : Settings} {size : ℕ} {buf : List ℕ} (zero : table ≡ no_offsets) (as_set : set ≡ listmoves) (enough : size ≡ most_places) (fresh : buf ≡ fresh_buffer) where
  is_printed : (room : ℕ) → text_size ≤ room → {answer : Answer} {after : List ℕ} → (answer ≡ answer_of tape table set size (length buf)) × (after ≡ buffer_of tape table set size buf)
      → text_of answer after room ≡ printed tape
  unfolding printed
  is_printed room h {answer} {after} ran =
      let a = answer_of tape no_offsets listmoves most_places (length fresh_buffer) in
      let e = buffer_of tape no_offsets listmoves most_places fresh_buffer in
      let one = all_owed tape no_offsets listmoves most_places fresh_buffer in
      let made = all_made a (length e) room one.told.count (one.holds.size ∙ fresh_size) h in
      (λ i. text_of (ran.0 i) (ran.1 i) room)
      ∙ (λ i. text_of (answer_of tape (zero i) (as_set i) (enough i) (length (fresh i))) (buffer_of tape (zero i) (as_set i) (enough i) (fresh i)) room)
      ∙ made_text a e room made

  pub listed : {answer : Answer} {after : List ℕ} → (answer ≡ answer_of tape table set size (length buf)) × (after ≡ buffer_of tape table set size buf) → (out : List ℕ) → text_size ≤ length out
      → {r : ℕ} {e : List ℕ} → (r ≡ length (text_of answer after (length out))) × ((e ≡ laid out 0 (text_of answer after (length out))) × (r ≤ length out))
      → (r ≡ length (printed tape)) × ((e ≡ laid out 0 (printed tape)) × (r ≤ length out))
  listed ran out h made =
      let same = is_printed (length out) h ran in (made.0 ∙ ap length same, (made.1.0 ∙ ap (laid out 0) same, made.1.1))
