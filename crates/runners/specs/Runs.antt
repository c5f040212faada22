-- THE MEANING OF A RUN IS ITS STEPS. 01: "Running a program runs its blocks, and a call block runs a program again. At most ten calls deep. M17 returns." "repeats 0 means once". "A run begins at
-- most 20,000 blocks, repeats and calls counted." What the buffer holds is laid from the same steps (Answers.antt of `interpreter`), so that nothing is said of a run beside what it wrote.
use Rattle.std.specs.Prelude.{List, [], ◌∷◌, ◌++◌, ℕ, zero, suc}
use Rattle.alarms.specs.Numbers.{too_deep, too_many_begun}
use Rattle.moves.specs.declared.Record.{Record}
use Rattle.moves.specs.declared.Listed.{Listed}
use Rattle.tape.specs.Lines.{line_at}
use Rattle.ahead.specs.Ahead.{onto}
use Rattle.steps.specs.of_taking.Steps.{Task, Step, listed_by, Taken, taken_from}
use Rattle.ahead.specs.declared.ProgramAt.{ProgramAt}
use Rattle.ahead.specs.declared.Frame.{Frame}
use Rattle.ahead.specs.declared.Onward.{Onward}
use Rattle.ahead.specs.declared.Onward.TheVariants.{On, Call, Jump, Return, End, Stop}
use Rattle.steps.specs.of_taking.declared.Run.{Run}
use Rattle.runners.specs.declared.Ending.{Ending}
use Rattle.runners.specs.declared.Ending.TheVariants.{Returned, Ended, Stopped}
use Rattle.runners.specs.declared.Outcome.{Outcome}

-- A RUN: how it came to its end, the run there, and its steps, calls and repeats included. A refused block is no step
pub record Ran : Type 0 where
  pub outcome : Outcome
  pub steps : List Step

abbrev pub ran : Ending → Run → List Step → Ran
ran e r l = record { outcome = record { ending = e; run = r }; steps = l }

-- the records of some steps, in their order
unfoldable pub records_of : List Step → List Record
records_of [] = []
records_of (st ∷ sts) = st.records ++ records_of sts

-- and as they stand in the list, each with the block of its step
unfoldable pub listed_of : List Step → List Listed
listed_of [] = []
listed_of (st ∷ sts) = listed_by st ++ listed_of sts

-- some steps, and then a run
unfoldable pub pre : List Step → Ran → Ran
pre w x = record { outcome = x.outcome; steps = w ++ x.steps }

-- where a run returned, k from there on; else the run as it is
unfoldable pub go_back : Ending → Ran → (Run → Ran) → Ran
go_back Returned x k = pre x.steps (k x.outcome.run)
go_back Ended x k = x
go_back (Stopped alarm place) x k = x

unfoldable pub and_then : Ran → (Run → Ran) → Ran
and_then x k = go_back x.outcome.ending x k

-- after the step st, which left the run r and whose block ends before the place `after`: on with k from a place, a call and then k, or an end
unfoldable pub go_on : (ProgramAt → ℕ → Run → Ran) → (ℕ → Run → Ran) → Onward → Run → ℕ → Step → Ran
go_on call k On r after st = pre (st ∷ []) (k after r)
go_on call k (Jump place) r after st = pre (st ∷ []) (k place r)
go_on call k (Call program times) r after st = pre (st ∷ []) (and_then (call program times r) (k after))
go_on call k Return r after st = ran Returned r (st ∷ [])
go_on call k End r after st = ran Ended r (st ∷ [])
go_on call k (Stop alarm place) r after st = ran (Stopped alarm place) r []

unfoldable pub onward : (ProgramAt → ℕ → Run → Ran) → (ℕ → Run → Ran) → Taken → Ran
onward call k x = go_on call k x.done.onward x.done.run x.done.after x.step

-- the blocks of a program from the frame's place on; `call p n r` is a call of the program p, n times. The first number is a fuel, more than the blocks that may still begin
unfoldable pub blocks : (ProgramAt → ℕ → Run → Ran) → Task → ℕ → Frame → Run → Ran
blocks call t zero f r = ran (Stopped too_many_begun f.program.line) r []
blocks call t (suc n) f r = onward call (λ p s. blocks call t n (onto f p) s) (taken_from t f r)

-- "A run begins at most 20,000 blocks"
abbrev pub blocks_in_all : ℕ
blocks_in_all = 20_000

-- the fuel of a program's run: one more. It is not unfolded in proofs, where it would be counted down one by one
unfoldable pub enough : ℕ
enough = 20_001

-- n runs, one after another
unfoldable pub repeated : (Run → Ran) → ℕ → Run → Ran
repeated one zero r = ran Returned r []
repeated one (suc n) r = and_then (one r) (λ s. repeated one n s)

-- the frame in which a program begins, with so many calls left: at the line behind its own
abbrev pub entry : Task → ProgramAt → ℕ → Frame
entry t program calls = record { program = program; calls_left = calls; at = (line_at t.tape program.line).after }

-- a call, with so many calls left: the program runs so many times, with one call fewer left. (No call is asked for where none is left: that is alarm 12.)
unfoldable pub called : Task → ℕ → ProgramAt → ℕ → Run → Ran
called t zero program times r = ran (Stopped too_deep program.line) r []
called t (suc c) program times r = repeated (λ s. blocks (λ p n u. called t c p n u) t enough (entry t program c) s) times r

-- THE RUN OF A PROGRAM, with so many calls left: its blocks from the line behind its own
abbrev pub program_run : Task → ProgramAt → ℕ → Run → Ran
program_run t program calls r = blocks (called t calls) t enough (entry t program calls) r
