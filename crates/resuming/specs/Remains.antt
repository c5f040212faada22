-- WHAT REMAINS OF A RUN, as a stack of the programs that wait holds it, in place of the recursion of runners/specs/Runs.antt.
use Rattle.std.specs.Prelude.{List, [], ◌∷◌, ℕ, zero, suc}
use Rattle.alarms.specs.Numbers.{too_deep}
use Rattle.ahead.specs.declared.ProgramAt.{ProgramAt}
use Rattle.ahead.specs.declared.Frame.{Frame}
use Rattle.ahead.specs.declared.Onward.{Onward}
use Rattle.ahead.specs.declared.Onward.TheVariants.{On, Call, Jump, Return, End, Stop}
use Rattle.interpreter.specs.of_taking.Steps.{Task, Step}
use Rattle.interpreter.specs.of_taking.declared.Run.{Run}
use Rattle.interpreter.specs.of_runners.declared.Ending.TheVariants.{Returned, Ended, Stopped}
use Rattle.resuming.specs.declared.Waiting.{Waiting}
use Rattle.interpreter.specs.of_runners.Runs.{Ran, ran, pre, and_then, blocks, enough, repeated, called, program_run}

-- A PROGRAM THAT WAITS for a call to return: the place to go on in it, and how often the called program is still to run
abbrev pub waiting : ProgramAt → ℕ → ℕ → Waiting
waiting program after times = record { program = program; after = after; times = times }

-- a program, with so many calls left, at a place of the tape
abbrev pub frame_at : ProgramAt → ℕ → ℕ → Frame
frame_at program calls at = record { program = program; calls_left = calls; at = at }

-- what is left to run once a program, with so many calls left, has returned: its further runs, and then the programs that wait, the last first, each from its place on and with one call more left
unfoldable pub back : Task → ℕ → ProgramAt → List Waiting → Run → Ran
back t calls program [] s = ran Returned s []
back t calls program (w ∷ ws) s =
    and_then (repeated (λ u. program_run t program calls u) w.times s)
    (λ u. and_then (blocks (called t (suc calls)) t enough (frame_at w.program (suc calls) w.after) u) (λ v. back t (suc calls) w.program ws v))

-- what is left to run where a program stands at `from`
unfoldable pub remain : Task → ℕ → ProgramAt → ℕ → List Waiting → Run → Ran
remain t calls program from ws r = and_then (blocks (called t calls) t enough (frame_at program calls from) r) (λ s. back t calls program ws s)

-- what is left behind a call, by the calls left where it stands: the called program runs, and the one that called waits
unfoldable pub deeper : Task → ℕ → ProgramAt → List Waiting → ProgramAt → ℕ → Run → ℕ → Ran
deeper t zero program ws p n s after = ran (Stopped too_deep p.line) s []
deeper t (suc c) program ws p n s after = back t c p (waiting program after n ∷ ws) s

-- what is left behind a step that asks w of the runner
unfoldable pub gone : Task → ℕ → ProgramAt → List Waiting → Onward → Run → ℕ → Step → Ran
gone t calls program ws On s after st = pre (st ∷ []) (remain t calls program after ws s)
gone t calls program ws (Jump p) s after st = pre (st ∷ []) (remain t calls program p ws s)
gone t calls program ws (Call p n) s after st = pre (st ∷ []) (deeper t calls program ws p n s after)
gone t calls program ws Return s after st = pre (st ∷ []) (back t calls program ws s)
gone t calls program ws End s after st = ran Ended s (st ∷ [])
gone t calls program ws (Stop alarm place) s after st = ran (Stopped alarm place) s []
