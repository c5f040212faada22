-- ONE MOVE AT A TIME, in words that a caller lends. 02, request 12: "Prove that its answers in turn are exactly the list engine's records and then its end or alarm, for every input, the list engine's
-- buffer being 64,008 bytes and its block table long enough. After an alarm or the end it repeats that answer; a new start clears it."
use Rattle.std.specs.Prelude.{◌≡◌, Bool, true, false, cond, List, [], ◌∷◌, ℕ, suc, ◌≤◌, ◌<◌, ℤ, length, take}
use Rattle.octets.specs.Bytes.{laid}
use Rattle.alarms.specs.Numbers.{bad_settings}
use Rattle.moves.specs.Form.{record_size, record_bytes}
use Rattle.moves.specs.declared.Listed.{Listed}
use Rattle.panel.specs.Row.{unfit, settings_of}
use Rattle.settings.specs.Points.{with_points}
use Rattle.settings.specs.Wrong.{settings_wrong}
use Rattle.settings.specs.declared.Settings.{Settings}
use Rattle.state.specs.Known.{Sound}
use Rattle.packing.specs.of_answers.declared.Answer.{Answer}
use Rattle.runbounds.specs.of_interpreter.Answers.{Result, refused, interpretation, places_of}
use Rattle.runbounds.specs.of_resuming.declared.Handed.{Handed}
use Rattle.runbounds.specs.of_resuming.declared.Handed.TheVariants as handed
use Rattle.runbounds.specs.of_resuming.Handed.{Left, left_of, Takes, roomy}
use Rattle.packing.specs.of_taking.declared.Hand.{Hand}
use Rattle.packing.specs.of_taking.declared.Hand.TheVariants.{Nothing, Block}
use Rattle.packing.specs.of_taking.Hands.{in_hand}
use Rattle.runbounds.specs.of_paused.Kept.{Fitting, Kept}
use Rattle.runbounds.specs.of_paused.declared.Phase.{Phase}
use Rattle.runbounds.specs.of_paused.declared.Phase.TheVariants.{Running, Over}
use Rattle.runbounds.specs.of_paused.declared.Going.{Going}
use Rattle.starting.specs.of_returning.Standing.{left_for, task_for, PlacedOn}
use Rattle.stepping.specs.of_holding.Held.{Held}
use Rattle.stepping.specs.declared.Turned.{Turned}
use Rattle.starting.specs.Starts.{Ready}
use Rattle.inhand.specs.State.{state_words, hand_in, run_in, Given}
use Rattle.packing.specs.declared.Told.{Told}
use Rattle.packing.specs.declared.Told.TheVariants as told

-- ---- WHAT IS WANTED: the list engine's records and answer at the door, with a buffer of 64,008 bytes and a table of places of so many entries
unfoldable pub result_at : List ℕ → List ℤ → List ℤ → ℕ → Result
result_at tape table numbers size = cond (unfit numbers) (refused bad_settings 0) (interpretation tape table (settings_of numbers) size roomy)

abbrev pub wanted_at : List ℕ → List ℤ → List ℤ → ℕ → Left
wanted_at tape table numbers size = left_of (result_at tape table numbers size)

-- the table of places that a start leaves
unfoldable pub places_started : List ℕ → List ℤ → List ℤ → List ℕ → List ℕ
places_started tape table numbers places = cond (unfit numbers) places (places_of tape table (settings_of numbers) places roomy)

-- ---- WHAT WORDS STAND FOR, with the tape, the table, the settings and the table of places that a start was given and left
abbrev pub running : List ℤ → Settings
running numbers = with_points false (settings_of numbers)

-- a run that goes on was not refused before
abbrev pub Lent : Phase → List ℕ → List ℤ → List ℤ → List ℕ → Going → Type 0
Lent Running tape table numbers places g = (unfit numbers ≡ false) × Ready Running tape table (settings_of numbers) places g
Lent (Over a) tape table numbers places g = Unit {0}

-- what is in hand and a run that has x left to hand out
pub record Stood (tape : List ℕ) (table numbers : List ℤ) (places : List ℕ) (h : Hand) (g : Going) (x : Left) : Type 0 where
  pub held : Held h
  pub kept : Kept g
  pub state : Sound g.run.state
  pub lent : Lent g.phase tape table numbers places g
  pub first : ℕ
  pub same : left_for (task_for (take g.end tape) table (running numbers) first) (in_hand h) g ≡ x
  pub placed : PlacedOn g.phase (take g.end tape) places first g
  pub fits : Fitting x.answer

-- the words of a state that has x left to hand out
pub record Holds (tape : List ℕ) (table numbers : List ℤ) (places w : List ℕ) (x : Left) : Type 0 where
  pub long : length w ≡ state_words
  pub stood : Stood tape table numbers places (hand_in w) (run_in w) x

-- ---- AN ASK
-- it hands out h: a record is laid at the front of the lent bytes, all others as they came; the answer of the run leaves them as they came
abbrev pub Hands : Told → List ℕ → List ℕ → Handed → Type 0
Hands told.Move b c (handed.Move l) = c ≡ laid b 0 (record_bytes l)
Hands told.Move b c (handed.Over a) = ⊥
Hands (told.Over a) b c (handed.Move l) = ⊥
Hands (told.Over a) b c (handed.Over d) = (a ≡ d) × (c ≡ b)
Hands told.Refused b c h = ⊥

-- words that have x left, after it: a record less, or the same where the run is over
pub record Lawful (tape : List ℕ) (table numbers : List ℤ) (places : List ℕ) (x : Left) (b : List ℕ) (r : Told) (v c : List ℕ) : Type 0 where
  pub handed : Handed
  pub left : Left
  pub takes : Takes x handed left
  pub hands : Hands r b c handed
  pub holds : Holds tape table numbers places v left

-- what is laid: a record at the front, and nothing where none is handed out
pub record Laid (b c : List ℕ) : Type 0 where
  pub listed : Listed
  pub is : c ≡ laid b 0 (record_bytes listed)

abbrev pub Touches : Told → List ℕ → List ℕ → Type 0
Touches told.Move b c = Laid b c
Touches (told.Over a) b c = c ≡ b
Touches told.Refused b c = c ≡ b

-- ---- WORDS THAT CAN BE ASKED, with what is lent: a block in hand that is sound and has a record left, whatever the run behind it is; where nothing is in hand, an answer whose place and count have 16 bits, whatever
-- else the words hold, or, with settings and table that are not alarm 1, a run that can go on: its numbers are within their bounds, its state is one that a block can run on, something of a tape was read, and the tape
-- and the table of places are as long as it needs them
pub record CanGoOn (tape places : ℕ) (g : Going) : Type 0 where
  pub kept : Kept g
  pub state : Sound g.run.state
  pub some : 0 < g.end
  pub end : g.end ≤ tape
  pub filled : g.filled ≤ places

abbrev pub CanTell : Phase → List ℕ → List ℤ → List ℤ → List ℕ → Going → Type 0
CanTell (Over a) tape table numbers places g = Fitting a
CanTell Running tape table numbers places g = (unfit numbers ≡ false) × (settings_wrong table (settings_of numbers) ≡ false) × CanGoOn (length tape) (length places) g

abbrev pub CanAsk : List ℕ → List ℤ → List ℤ → List ℕ → Hand → Going → Type 0
CanAsk tape table numbers places (Block c o) g = Held (Block c o)
CanAsk tape table numbers places Nothing g = CanTell g.phase tape table numbers places g

-- of a state's count of words, with the words w and the bytes b before, v and c after it: those that can be asked are not refused, and all others are; an answer in the words is told again, and of a block in hand
-- the next record is given
pub record Exactly (tape : List ℕ) (table numbers : List ℤ) (places w b : List ℕ) (r : Told) (v c : List ℕ) : Type 0 where
  pub able : CanAsk tape table numbers places (hand_in w) (run_in w) → r ≡ told.Refused → ⊥
  pub unable : (CanAsk tape table numbers places (hand_in w) (run_in w) → ⊥) → r ≡ told.Refused
  pub again : (a : Answer) → hand_in w ≡ Nothing → (run_in w).phase ≡ Over a → Fitting a → (r ≡ told.Over a) × (v ≡ w)
  pub given : (hand_in w ≡ Nothing → ⊥) → Held (hand_in w) → (r ≡ told.Move) × Given w b v c

-- with the words w and the bytes b before, v and c after it. Of words that hold nothing this is said: they are refused where they cannot be asked, and nowhere else; as many there are as before, where they are refused all is as
-- it came, and only a record touches the bytes; an answer that is told has 16 bits for its place and its count
pub record AskMeets (tape : List ℕ) (table numbers : List ℤ) (places w b : List ℕ) (r : Told) (v c : List ℕ) : Type 0 where
  pub lawful : (x : Left) → Holds tape table numbers places w x → Lawful tape table numbers places x b r v c
  pub refused : r ≡ told.Refused → v ≡ w
  pub exactly : length w ≡ state_words → Exactly tape table numbers places w b r v c
  pub touches : Touches r b c
  pub long : length v ≡ length w
  pub fits : (a : Answer) → r ≡ told.Over a → Fitting a

-- nothing was done
pub record Refuses (w b : List ℕ) (r : Told) (v c : List ℕ) : Type 0 where
  pub told : r ≡ told.Refused
  pub words : v ≡ w
  pub bytes : c ≡ b

-- NO WORDS AND NO BYTES BREAK ANYTHING: words of another count, and bytes without room for a record, are refused; an answer that is told has 16 bits for its place and its count
pub record NextMeets (tape : List ℕ) (table numbers : List ℤ) (places w b : List ℕ) (r : Told) (v c : List ℕ) : Type 0 where
  pub asks : record_size ≤ length b → AskMeets tape table numbers places w b r v c
  pub short : length b < record_size → Refuses w b r v c
  pub other : (length w ≡ state_words → ⊥) → Refuses w b r v c
  pub fits : (a : Answer) → r ≡ told.Over a → Fitting a

-- ---- A START
-- the run that is started has all to hand out that is wanted
pub record BegunMeets (tape : List ℕ) (table numbers : List ℤ) (places : List ℕ) (g : Going) : Type 0 where
  pub first : ℕ
  pub same : left_for (task_for (take g.end tape) table (running numbers) first) [] g ≡ wanted_at tape table numbers (length places)
  pub placed : PlacedOn g.phase (take g.end tape) (places_started tape table numbers places) first g
  pub lent : Lent g.phase tape table numbers places g
  pub kept : Kept g
  pub state : Sound g.run.state

-- words of another count are left as they came, and so is the table of places; all others then hold what is wanted, whatever they held. (That place and count of an answer have 16 bits is shown of every
-- answer of the list engine, in `demands`.)
pub record StartsIn (tape : List ℕ) (table numbers : List ℤ) (places w : List ℕ) (r : Bool) (p v : List ℕ) : Type 0 where
  pub other : (length w ≡ state_words → ⊥) → (r ≡ false) × (p ≡ places) × (v ≡ w)
  pub told : length w ≡ state_words → r ≡ true
  pub filled : length w ≡ state_words → p ≡ places_started tape table numbers places
  pub holds : length w ≡ state_words → length p ≡ length places → Fitting (wanted_at tape table numbers (length places)).answer
      → Holds tape table numbers p v (wanted_at tape table numbers (length places))

-- ---- ASKED IN TURN
-- asks one after the other, each with the words that the one before left, and with bytes that have room for a record. (Every state answers an ask, so that any number of asks is the beginning of such a row.)
pub record InTurn (tape : List ℕ) (table numbers : List ℤ) (places : List ℕ) (w b c : ℕ → List ℕ) (r : ℕ → Told) : Type 0 where
  pub room : (k : ℕ) → record_size ≤ length (b k)
  pub each : (k : ℕ) → NextMeets tape table numbers places (w k) (b k) (r k) (w (suc k)) (c k)

-- ---- what is known of the parts. It serves contracts and proofs
-- of what is in hand the first record was given, and the words have the others
pub record OneGiven (h : Hand) (w b v c : List ℕ) : Type 0 where
  pub listed : Listed
  pub first : in_hand h ≡ listed ∷ in_hand (hand_in v)
  pub held : Held (hand_in v)
  pub bytes : c ≡ laid b 0 (record_bytes listed)
  pub run : run_in v ≡ run_in w
  pub long : length v ≡ state_words

-- what some turns have come to, in the words, with its first record given or its answer
pub record MoveGiven (h : Hand) (b v c : List ℕ) : Type 0 where
  pub listed : Listed
  pub first : in_hand h ≡ listed ∷ in_hand (hand_in v)
  pub bytes : c ≡ laid b 0 (record_bytes listed)

abbrev pub Gives : Told → Hand → Phase → List ℕ → List ℕ → List ℕ → Type 0
Gives told.Move h p b v c = MoveGiven h b v c
Gives (told.Over a) h p b v c = (h ≡ Nothing) × (p ≡ Over a) × (hand_in v ≡ Nothing) × (c ≡ b)
Gives told.Refused h p b v c = ⊥

pub record FirstMeets (t : Turned) (b : List ℕ) (r : Told) (v c : List ℕ) : Type 0 where
  pub run : run_in v ≡ t.going
  pub long : length v ≡ state_words
  pub held : Held (hand_in v)
  pub gives : Gives r t.hand t.going.phase b v c
