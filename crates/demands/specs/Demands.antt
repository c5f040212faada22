-- THE DEMANDS, as statements about every tape, table, settings and buffer; proofs/ has their proofs. `answer_of` and `buffer_of` are what the contract of `interpret` says it answers and leaves.
-- Demand 3: "In every G84 that a run opens with a division above zero: the pass depths add up exactly to the infeed less the allowance, none is above the division, no row within the
-- division with that sum is shorter, none equally short has a smaller greatest depth. With or without a division no feed move of the cycle goes past the allowance in either axis." Which cycles
-- a run opened is read off the tape and the state before each step; the depths are read off the records that the step wrote.
use Rattle.std.specs.Prelude.{◌≡◌, Bool, true, false, cond, List, [], ◌∷◌, ◌++◌, ℕ, ◌+◌, ◌-◌, ◌*◌, ◌≤◌, eqb, ℤ, length, take, drop}
use Rattle.moves.specs.Form.{header_size, record_size, record_limit, record_start, header_bytes, row_bytes, list_bytes, LawfulList}
use Rattle.moves.specs.Reading.{row_at, records_in, count_in, list_in}
use Rattle.moves.specs.declared.Listed.{Listed}
use Rattle.alarms.specs.Given.{IsAlarm}
use Rattle.reading.specs.Filling.{read_with}
use Rattle.reading.specs.declared.Read.{Read}
use Rattle.reading.specs.declared.Read.TheVariants as read
use Rattle.places.specs.Places.{Row}
use Rattle.places.specs.Lines.{no_program}
use Rattle.whole.specs.Among.{among}
use Rattle.tape.specs.Lines.{Text}
use Rattle.turning.specs.Turned.{Turned}
use Rattle.threading.specs.Threaded.{Threaded}
use Rattle.moves.specs.Last.{last_of}
use Rattle.demands.specs.Placed.{entries_of, accepted_in}
use Rattle.demands.specs.Opens.{opens_turning, wanted_in, opens_threading, thread_in}
use Rattle.settings.specs.Points.{with_points}
use Rattle.settings.specs.declared.Settings.{Settings}
use Rattle.interpreter.specs.of_taking.Steps.{Task, task_of, Step, block_on}
use Rattle.interpreter.specs.of_answers.Answers.{number_of, place_of, count_of}
use Rattle.interpreter.specs.Answers.{Result, longest_tape, interpretation, places_of, buffer_of, laid_by}
use Rattle.interpreter.specs.of_runners.Runs.{listed_of}
use Rattle.interpreter.specs.of_answers.declared.Answer.{Answer}
use Rattle.interpreter.specs.of_answers.declared.Answer.TheVariants.{Complete}

-- P of each step
unfoldable pub Each : (Step → Type 0) → List Step → Type 0
Each P [] = Unit {0}
Each P (st ∷ sts) = P st × Each P sts

-- a step whose block is a G84 keeps the promise of the cycle that its words open in the state before it
abbrev pub Cut : Task → Step → Type 0
Cut t st =
    opens_turning (block_on t.tape st.place) ≡ true
    → Turned (wanted_in t.table st.before.state (block_on t.tape st.place)) st.records

-- every G84 of some steps
abbrev pub EveryCycle : Task → List Step → Type 0
EveryCycle t sts = Each (Cut t) sts

-- what a run of the tape is given: the tape up to where reading ended, and the settings, of which the points are no matter of a run; nothing where an alarm came before
abbrev pub read_task : List ℕ → List ℤ → Settings → ℕ → Read → Task
read_task tape table set bytes (read.Whole first end) = task_of (take end tape) table (with_points false set) first bytes
read_task tape table set bytes (read.Alarm alarm place) = task_of [] table (with_points false set) 0 bytes

abbrev pub task : List ℕ → List ℤ → Settings → ℕ → ℕ → Task
task tape table set size bytes = read_task tape table set bytes (read_with set.points size tape).read

-- DEMAND 3, of every tape, table and settings, and every length of the buffer: every G84 that the run opened, with a division or without, in the main program, in subprograms and in repeats
abbrev pub DemandThree : List ℕ → List ℤ → Settings → ℕ → ℕ → Type 0
DemandThree tape table set size bytes = EveryCycle (task tape table set size bytes) (interpretation tape table set size bytes).steps

-- the same, with the records read off the bytes e of the buffer: the step's records stand there from number k on
unfoldable pub EachFrom : (Step → ℕ → Type 0) → ℕ → List Step → Type 0
EachFrom P k [] = Unit {0}
EachFrom P k (st ∷ sts) = P st k × EachFrom P (k + length st.records) sts

-- a G84 in the buffer: it starts where the records before it have left the axes, and its records keep its promise
pub record TurnedIn (t : Task) (e : List ℕ) (st : Step) (k : ℕ) : Type 0 where
  pub x : st.before.state.x ≡ last_of (λ r. r.x) t.settings.x (records_in e 0 k)
  pub z : st.before.state.z ≡ last_of (λ r. r.z) t.settings.z (records_in e 0 k)
  pub turned : Turned (wanted_in t.table st.before.state (block_on t.tape st.place)) (records_in e k (length st.records))

abbrev pub CutIn : Task → List ℕ → Step → ℕ → Type 0
CutIn t e st k = opens_turning (block_on t.tape st.place) ≡ true → TurnedIn t e st k

-- DEMAND 3, of every tape, table, settings and buffer b, said of the bytes that are in the buffer after the run
abbrev pub DemandThreeInBuffer : List ℕ → List ℤ → Settings → ℕ → List ℕ → Type 0
DemandThreeInBuffer tape table set size b =
    EachFrom (CutIn (task tape table set size (length b)) (buffer_of tape table set size b)) 0 (interpretation tape table set size (length b)).steps

-- ---- THE PROMISE OF THREADS (02, request 1), said as demand 3 is
-- a step whose block is a G85 keeps the promise of the thread that its words ask for in the state before it
abbrev pub Threads : Task → Step → Type 0
Threads t st =
    opens_threading (block_on t.tape st.place) ≡ true
    → Threaded (thread_in t.table t.settings st.before.state (block_on t.tape st.place)) st.records

-- of every tape, table and settings, and every length of the buffer: every G85 that the run opened
abbrev pub ThreadPromise : List ℕ → List ℤ → Settings → ℕ → ℕ → Type 0
ThreadPromise tape table set size bytes = Each (Threads (task tape table set size bytes)) (interpretation tape table set size bytes).steps

-- a step in the buffer begins where the records before it have left the axes
pub record StandsIn (t : Task) (e : List ℕ) (st : Step) (k : ℕ) : Type 0 where
  pub x : st.before.state.x ≡ last_of (λ r. r.x) t.settings.x (records_in e 0 k)
  pub z : st.before.state.z ≡ last_of (λ r. r.z) t.settings.z (records_in e 0 k)

-- a G85 in the buffer: it starts there, and its records keep its promise
pub record ThreadedIn (t : Task) (e : List ℕ) (st : Step) (k : ℕ) : Type 0 where
  pub stands : StandsIn t e st k
  pub threaded : Threaded (thread_in t.table t.settings st.before.state (block_on t.tape st.place)) (records_in e k (length st.records))

abbrev pub ThreadsIn : Task → List ℕ → Step → ℕ → Type 0
ThreadsIn t e st k = opens_threading (block_on t.tape st.place) ≡ true → ThreadedIn t e st k

-- of every tape, table, settings and buffer b, said of the bytes that are in the buffer after the run
abbrev pub ThreadPromiseInBuffer : List ℕ → List ℤ → Settings → ℕ → List ℕ → Type 0
ThreadPromiseInBuffer tape table set size b =
    EachFrom (ThreadsIn (task tape table set size (length b)) (buffer_of tape table set size b)) 0 (interpretation tape table set size (length b)).steps

-- ---- demands 1 and 2
-- the header's place: that of the list where it is complete, and as it came on an alarm
abbrev pub Front : Answer → List ℕ → List ℕ → Type 0
Front a b e = take header_size e ≡ cond (eqb (number_of a) 0) (header_bytes (count_of a)) (take header_size b)

-- what a buffer b holds after an answer, as e, where the steps wrote the records ls, each with the block that it came from: that many records, one after the other, in their bytes; the header's
-- place as `Front` says, and every byte behind the records as it came
pub record HoldsAfter (a : Answer) (b e : List ℕ) (ls : List Listed) : Type 0 where
  pub counted : count_of a ≡ length ls
  pub records : row_at e 0 (count_of a) ≡ ls
  pub written : take (record_size * count_of a) (drop header_size e) ≡ row_bytes ls
  pub front : Front a b e
  pub behind : drop (record_start (count_of a)) e ≡ drop (record_start (count_of a)) b
  pub size : length e ≡ length b

-- the number is 0 where the list is complete, and there alone; any other is that of an alarm that is given where points are asked for or not: 21 comes there alone
pub record Named (points : Bool) (a : Answer) : Type 0 where
  pub complete : number_of a ≡ 0 → a ≡ Complete (count_of a)
  pub alarm : (number_of a ≡ 0 → ⊥) → IsAlarm points (number_of a)

-- what the numbers of an answer are, on a tape of so many bytes: the place is that of a byte of the tape, or 0, and has 16 bits; there are no more records than a list may have. (That it is
-- the place which 01 names is in the definition of `interpretation`.)
pub record Told (points : Bool) (size : ℕ) (a : Answer) : Type 0 where
  pub number : Named points a
  pub place : place_of a ≤ size - 1
  pub near : place_of a ≤ longest_tape
  pub count : count_of a ≤ record_limit

-- what is owed of a result, with points asked for or not, on a tape of so many bytes and in the buffer b
pub record Owed (points : Bool) (size : ℕ) (x : Result) (b : List ℕ) : Type 0 where
  pub holds : HoldsAfter x.answer b (laid_by x b) (listed_of x.steps)
  pub told : Told points size x.answer

-- what a table of places that was `before` is after it, as `after`, where these lines were read and accepted: a row of entries that ascend, one for each program line and block of them and
-- no other, and behind the row every entry as it came
pub record TableAfter (accepted : List Text) (before after : List ℕ) : Type 0 where
  pub row : List ℕ
  pub ascends : Row row
  pub entries : (e : ℕ) → among e row ≡ among e (entries_of no_program accepted)
  pub counted : length row ≡ length (entries_of no_program accepted)
  pub is : after ≡ row ++ drop (length row) before
  pub fits : length row ≤ length before

-- DEMAND 1, of every tape, table, settings, table of places and buffer: "Every tape, table and lent buffer gets a move list or a named alarm, and the work ends. No caller has to check first. An alarm gives its
-- number, the place on the tape and the count of records written; the buffer then holds the records of the blocks finished before it, and all its other bytes are as they came." (A refused
-- block is no step. 02, of the lent table: "After any answer it holds those lines read and accepted, and its other entries are as they came." That the work ends is in the contract of `interpret`, as in every contract: a function that is proved comes back.)
abbrev pub DemandOne : List ℕ → List ℤ → Settings → List ℕ → List ℕ → Type 0
DemandOne tape table set places b =
    Owed set.points (length tape) (interpretation tape table set (length places) (length b)) b
    × TableAfter (accepted_in tape table set (length places) (length b)) places (places_of tape table set places (length b))

-- a complete list of so many records: it is read off the bytes, each record with its block, its header has its count, and no other list has these bytes
pub record IsList (count : ℕ) (e : List ℕ) (ls : List Listed) : Type 0 where
  pub lawful : LawfulList ls
  pub written : take (record_start count) e ≡ list_bytes ls
  pub reads : list_in e ≡ ls
  pub header : count_in e ≡ count
  pub counted : count ≡ length ls
  pub alone : (ms : List Listed) (tail : List ℕ) → LawfulList ms → e ≡ list_bytes ms ++ tail → ms ≡ ls

-- what is owed of a list, as a result in the buffer b: where the answer is a list, its bytes are those of the steps' records, each with its step's program and block, and have no other reading
abbrev pub OwedList : Result → List ℕ → Type 0
OwedList x b = number_of x.answer ≡ 0 → IsList (count_of x.answer) (laid_by x b) (listed_of x.steps)

-- DEMAND 2, of every tape, table, settings, length of the table of places and buffer. (That program and block of each record are those of the tape: `EveryBlockNamed` of Origins.antt. Where the answer is an alarm, and that it is a list where nothing refuses: `AlarmsStand` of `alarmed`.)
abbrev pub DemandTwo : List ℕ → List ℤ → Settings → ℕ → List ℕ → Type 0
DemandTwo tape table set size b = OwedList (interpretation tape table set size (length b)) b
