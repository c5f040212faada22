-- ONE MOVE AT A TIME at the door. 02, request 12: "Prove that its answers in turn are exactly the list engine's records and then its end or alarm, for every input, the list engine's buffer being 64,008
-- bytes and its block table long enough. After an alarm or the end it repeats that answer; a new start clears it."
use Rattle.std.specs.Prelude.{◌≡◌, Bool, cond, List, ℕ, suc, ◌+◌, ◌≤◌, ℤ, length}
use Rattle.octets.specs.Bytes.{laid}
use Rattle.moves.specs.Form.{record_size, record_bytes}
use Rattle.alarms.specs.Numbers.{buffer_too_short, places_too_short}
use Rattle.reading.specs.Filling.{most_places}
use Rattle.alarmed.specs.of_answers.declared.Answer.TheVariants.{Alarm}
use Rattle.onemove.specs.of_resuming.declared.Handed.{Handed}
use Rattle.onemove.specs.of_resuming.declared.Handed.TheVariants as handed
use Rattle.onemove.specs.of_resuming.Handed.{roomy, left_of}
use Rattle.onemove.specs.of_resuming.Handed as left
use Rattle.onemove.specs.of_inhand.State.{state_words}
use Rattle.onemove.specs.of_packing.declared.Told.{Told}
use Rattle.onemove.specs.of_packing.declared.Told.TheVariants as told
use Rattle.onemove.specs.of_packing.Packing.{answer_number, over, told_number, Bounded}
use Rattle.onemove.specs.OneMove.{StartsIn, NextMeets}
use Rattle.board.specs.Door.{at_door, first_at_door}

-- ---- what the doors do
abbrev pub start_number : Bool → ℕ
start_number b = cond b 0 1

pub record StartAtDoor (tape : List ℕ) (table numbers : List ℤ) (places w : List ℕ) (r : ℕ) (p v : List ℕ) : Type 0 where
  pub started : Bool
  pub is : r ≡ start_number started
  pub meets : StartsIn tape table numbers places w started p v
  pub same : length p ≡ length places

pub record NextAtDoor (tape : List ℕ) (table numbers : List ℤ) (places w b : List ℕ) (r : ℕ) (v c : List ℕ) : Type 0 where
  pub told : Told
  pub is : r ≡ told_number told
  pub bits : Bounded told
  pub meets : NextMeets tape table numbers places w b told v c

-- ---- ASKED IN TURN, at the door: w k are the words that are lent to the k-th ask, from 0, b k the bytes, and c k what they are after it; r k is what it answers. (An ask answers whatever is lent to it, so
-- that any number of asks is the beginning of such a row.)
pub record AsksAtDoor (tape : List ℕ) (table numbers : List ℤ) (places : List ℕ) (w b c : ℕ → List ℕ) (r : ℕ → ℕ) : Type 0 where
  pub room : (k : ℕ) → record_size ≤ length (b k)
  pub each : (k : ℕ) → NextAtDoor tape table numbers places (w k) (b k) (r k) (w (suc k)) (c k)

-- the number and the bytes of what is handed out: a record, or an answer, which leaves the bytes as they came
abbrev pub Answers : Handed → List ℕ → ℕ → List ℕ → Type 0
Answers (handed.Move l) b r c = (r ≡ 0) × (c ≡ laid b 0 (record_bytes l))
Answers (handed.Over a) b r c = (r ≡ over + answer_number a) × (c ≡ b)

-- (`StartAtDoor` is what `tm02_start` ensures, and `NextAtDoor` what `tm02_next` does: crates/board/src/lib.rt.)
-- THE PROMISE: whatever words are lent to a start, if they are as many as a state has, the k-th ask behind it answers with the list engine's record k, and from its count on with its end or alarm, for ever;
-- the list engine with a buffer of 64,008 bytes and a table of places of the same length, and where that is long enough for every tape the one of the first layout, which knows no such table
pub record OneMoveAtDoor (tape : List ℕ) (table numbers : List ℤ) (places : List ℕ) (r : ℕ) (b c : ℕ → List ℕ) (told : ℕ → ℕ) : Type 0 where
  pub started : r ≡ 0
  pub same : (k : ℕ) → Answers (left.handed (left_of (at_door tape table numbers (length places) roomy)) k) (b k) (told k) (c k)
  pub long : most_places ≤ length places → (k : ℕ) → Answers (left.handed (left_of (first_at_door tape table numbers roomy)) k) (b k) (told k) (c k)
  -- as it is read (36): "3 and 22 cannot come": the answer that is told is neither
  pub no_three : (place count : ℕ) → (at_door tape table numbers (length places) roomy).answer ≡ Alarm buffer_too_short place count → ⊥
  pub no_twenty_two : most_places ≤ length places → (place count : ℕ) → (at_door tape table numbers (length places) roomy).answer ≡ Alarm places_too_short place count → ⊥

abbrev pub OneMoveLaw : List ℕ → List ℤ → List ℤ → List ℕ → Type 0
OneMoveLaw tape table numbers places =
    (w p : List ℕ) (r : ℕ) (state b c : ℕ → List ℕ) (told : ℕ → ℕ) → length w ≡ state_words → StartAtDoor tape table numbers places w r p (state 0) → AsksAtDoor tape table numbers p state b c told
    → OneMoveAtDoor tape table numbers places r b c told
