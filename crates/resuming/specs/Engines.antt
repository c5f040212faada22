-- AN ENGINE THAT HANDS OUT ONE RECORD AT A TIME, as definitions: its state, one turn (a block more), one ask, and the answer to the k-th ask.
use Rattle.std.specs.Prelude.{List, [], ◌∷◌, ◌++◌, false, cond, ℕ, zero, suc, ltb, ℤ, length, take}
use Rattle.alarms.specs.Numbers.{bad_settings, tape_too_long, program_missing, too_deep, wrong_end}
use Rattle.tape.specs.Lines.{line_at, lines}
use Rattle.finding.specs.Finding.{find_program}
use Rattle.reading.specs.Filling.{read_with}
use Rattle.places.specs.declared.Found.{Found}
use Rattle.places.specs.declared.Found.TheVariants.{At, Nowhere}
use Rattle.reading.specs.declared.Read.{Read}
use Rattle.reading.specs.declared.Read.TheVariants as read
use Rattle.settings.specs.declared.Settings.{Settings}
use Rattle.ahead.specs.Ahead.{most_calls}
use Rattle.interpreter.specs.of_taking.Steps.{Task, task_of, Step, listed_by, taken_from}
use Rattle.ahead.specs.declared.ProgramAt.{ProgramAt}
use Rattle.ahead.specs.declared.Onward.{Onward}
use Rattle.ahead.specs.declared.Onward.TheVariants.{On, Call, Jump, Return, End, Stop}
use Rattle.interpreter.specs.of_taking.declared.Run.{Run}
use Rattle.interpreter.specs.of_runners.Runs.{enough}
use Rattle.interpreter.specs.of_answers.declared.Answer.{Answer}
use Rattle.interpreter.specs.of_answers.declared.Answer.TheVariants.{Complete, Alarm}
use Rattle.interpreter.specs.of_answers.Answers.{start_of}
use Rattle.interpreter.specs.Answers.{result_of, main_at, longest_tape}
use Rattle.settings.specs.Points.{with_points}
use Rattle.settings.specs.Wrong.{settings_wrong}
use Rattle.resuming.specs.declared.Waiting.{Waiting}
use Rattle.resuming.specs.Remains.{waiting, frame_at, remain}
use Rattle.resuming.specs.declared.Handed.{Handed}
use Rattle.resuming.specs.declared.Handed.TheVariants.{Move, Over}
use Rattle.resuming.specs.Handed.{Made, Left, left_of, roomy}

-- ---- the engine
pub data Phase : Type 0 where
  Running : Phase
  Done : Answer → Phase

-- the records at hand; whether there is more behind them; where the run stands, with the programs that wait, the last first
pub record Engine : Type 0 where
  pub rest : List Made
  pub phase : Phase
  pub calls : ℕ
  pub program : ProgramAt
  pub from : ℕ
  pub frames : List Waiting
  pub run : Run

abbrev pub running : List Made → ℕ → ProgramAt → ℕ → List Waiting → Run → Engine
running l calls program from fs r = record { rest = l; phase = Running; calls = calls; program = program; from = from; frames = fs; run = r }

abbrev pub ended : List Made → Answer → ℕ → ProgramAt → List Waiting → Run → Engine
ended l a calls program fs r = record { rest = l; phase = Done a; calls = calls; program = program; from = program.line; frames = fs; run = r }

-- the present program has returned: once more, or on in the program that waits
unfoldable pub times_left : Task → List Made → ℕ → ProgramAt → ℕ → ProgramAt → ℕ → List Waiting → Run → Engine
times_left t l calls program zero q after fs r = running l (suc calls) q after fs r
times_left t l calls program (suc n) q after fs r = running l calls program (line_at t.tape program.line).after (waiting q after n ∷ fs) r

unfoldable pub come_back : Task → List Made → ℕ → ProgramAt → List Waiting → Run → Engine
come_back t l calls program [] r = ended l (Alarm wrong_end 0 r.count) calls program [] r
come_back t l calls program (f ∷ fs) r = times_left t l calls program f.times f.program f.after fs r

unfoldable pub call_from : Task → List Made → ℕ → ProgramAt → List Waiting → ProgramAt → ℕ → Run → ℕ → Engine
call_from t l zero program fs p n r after = ended l (Alarm too_deep p.line r.count) 0 program fs r
call_from t l (suc c) program fs p n r after = come_back t l c p (waiting program after n ∷ fs) r

-- a block more
unfoldable pub turn_by : Task → ℕ → ProgramAt → List Waiting → Onward → Run → ℕ → Step → Engine
turn_by t calls program fs On r after st = running (listed_by st) calls program after fs r
turn_by t calls program fs (Jump p) r after st = running (listed_by st) calls program p fs r
turn_by t calls program fs (Call p n) r after st = call_from t (listed_by st) calls program fs p n r after
turn_by t calls program fs Return r after st = come_back t (listed_by st) calls program fs r
turn_by t calls program fs End r after st = ended (listed_by st) (Complete r.count) calls program fs r
turn_by t calls program fs (Stop alarm place) r after st = ended [] (Alarm alarm place r.count) calls program fs r

unfoldable pub turn : Task → Engine → Engine
turn t e =
    let x = taken_from t (frame_at e.program e.calls e.from) e.run in
    turn_by t e.calls e.program e.frames x.done.onward x.done.run x.done.after x.step

-- turns until a record is at hand or the run is over
unfoldable pub ready_by : List Made → Phase → Engine → Engine → Engine
ready_by (r ∷ rs) p e next = e
ready_by [] (Done a) e next = e
ready_by [] Running e next = next

unfoldable pub ready : ℕ → Task → Engine → Engine
ready zero t e = e
ready (suc f) t e = ready_by e.rest e.phase e (ready f t (turn t e))

-- one ask
pub record Asked : Type 0 where
  pub handed : Handed
  pub engine : Engine

unfoldable pub given : List Made → Phase → Engine → Asked
given (r ∷ rs) p e = record { handed = Move r; engine = record { rest = rs; phase = p; calls = e.calls; program = e.program; from = e.from; frames = e.frames; run = e.run } }
given [] (Done a) e = record { handed = Over a; engine = e }
given [] Running e = record { handed = Over (Complete 0); engine = e }

unfoldable pub ask : Task → Engine → Asked
ask t e = given (ready (suc enough) t e).rest (ready (suc enough) t e).phase (ready (suc enough) t e)

-- the k-th answer
unfoldable pub answers : Task → Engine → ℕ → Handed
answers t e zero = (ask t e).handed
answers t e (suc k) = answers t (ask t e).engine k

-- ---- what an engine still has to hand out
unfoldable pub ahead : Task → Phase → Engine → Left
ahead t (Done a) e = record { records = []; answer = a }
ahead t Running e = left_of (result_of (remain t e.calls e.program e.from e.frames e.run))

unfoldable pub joined : List Made → Left → Left
joined l x = record { records = l ++ x.records; answer = x.answer }

unfoldable pub remaining : Task → Engine → Left
remaining t e = joined e.rest (ahead t e.phase e)

-- ---- a run from its start: a task and the line of the main program, or an alarm at once
pub data Started : Type 0 where
  Refused : ℕ → ℕ → Started
  Begun : Task → ℕ → Started

unfoldable pub main_found : Task → Found → Started
main_found t Nowhere = Refused program_missing 0
main_found t (At p) = Begun t p

unfoldable pub read_for : List ℕ → List ℤ → Settings → Read → Started
read_for tape table set (read.Alarm alarm place) = Refused alarm place
read_for tape table set (read.Whole first end) =
    let t = task_of (take end tape) table (with_points false set) first roomy in
    main_found t (find_program t.settings.main (lines t.tape first))

-- the tape is judged as the list engine judges it, with a lent table of places of so many entries; of alarm 3 nothing is left
unfoldable pub start : List ℕ → List ℤ → Settings → ℕ → Started
start tape table set size =
    cond (settings_wrong table set) (Refused bad_settings 0)
    (cond (ltb longest_tape (length tape)) (Refused tape_too_long 0) (read_for tape table set (read_with set.points size tape).read))

unfoldable pub engine_at : Task → ℕ → Engine
engine_at t p = let main = main_at t.settings p in running [] most_calls main (line_at t.tape p).after [] (start_of t.settings)

-- THE ANSWERS AFTER A START
unfoldable pub answers_of : Started → ℕ → Handed
answers_of (Refused alarm place) k = Over (Alarm alarm place 0)
answers_of (Begun t p) k = answers t (engine_at t p) k
