-- What lies ahead of a block. 01: "At most ten calls deep. M17 returns. G27 goes to the block numbered L of the same program." Alarms: 14 "M17 in the main
-- program, M30 in a subprogram", 10 "called number outside lowest subroutine to 255 (001: alarm 630) or missing", 11 "jump target missing", 12 "eleventh call deep".
use Rattle.std.specs.Prelude.{◌≡◌, cond, ◌||◌, List, ℕ, ltb, eqb}
use Rattle.alarms.specs.Numbers.{program_missing, block_missing, too_deep, wrong_end}
use Rattle.tape.specs.Lines.{lines}
use Rattle.settings.specs.Wrong.{highest_subroutine}
use Rattle.settings.specs.declared.Settings.{Settings}
use Rattle.finding.specs.Finding.{find_program, block_of_program}
use Rattle.places.specs.Places.{program_in, block_in}
use Rattle.places.specs.declared.Found.{Found}
use Rattle.places.specs.declared.Found.TheVariants.{At, Nowhere}
use Rattle.requests.specs.declared.Request.{Request}
use Rattle.requests.specs.declared.Request.TheVariants as next
use Rattle.ahead.specs.declared.ProgramAt.{ProgramAt}
use Rattle.ahead.specs.declared.Frame.{Frame}
use Rattle.ahead.specs.declared.Onward.{Onward}
use Rattle.ahead.specs.declared.Onward.TheVariants.{On, Call, Jump, Return, End, Stop}

-- "At most ten calls deep": the main program has ten calls left
abbrev pub most_calls : ℕ
most_calls = 10

-- A FRAME: a program, by its number and the place of its line, the calls that are left in it, and a place of the tape in it. The frame at another place
abbrev pub onto : Frame → ℕ → Frame
onto f p = record { program = f.program; calls_left = f.calls_left; at = p }

-- a called program, by its number, which was looked for by the block at the frame's place: 10 before 12
unfoldable pub called_at : Found → ℕ → Frame → ℕ → Onward
called_at Nowhere n f times = Stop program_missing f.at
called_at (At p) n f times = cond (eqb f.calls_left 0) (Stop too_deep f.at) (Call (record { number = n; line = p }) times)

-- the block of a jump that was looked for
unfoldable pub jumped_to : Found → Frame → Onward
jumped_to Nowhere f = Stop block_missing f.at
jumped_to (At p) f = Jump p

-- what the block at the frame's place asks for, where a program and a block of the present one are found so
unfoldable pub looked_by : (ℕ → Found) → (ℕ → Found) → Settings → Frame → Request → Onward
looked_by program block set f next.On = On
looked_by program block set f (next.Call n times) =
    cond (ltb n set.lowest_subroutine || ltb highest_subroutine n) (Stop program_missing f.at) (called_at (program n) n f times)
looked_by program block set f (next.Jump n) = jumped_to (block n) f
looked_by program block set f next.Return = cond (eqb f.calls_left most_calls) (Stop wrong_end f.at) Return
looked_by program block set f next.End = cond (eqb f.calls_left most_calls) End (Stop wrong_end f.at)

-- WHAT IT ASKS FOR, by a walk along the tape. The third: the place of the tape's first line
unfoldable pub looked_up : List ℕ → Settings → ℕ → Frame → Request → Onward
looked_up tape set first f n = looked_by (λ k. find_program k (lines tape first)) (λ k. block_of_program k tape f.program.line) set f n

-- the same by the row of a table of places, as the code does it
unfoldable pub looked_up_in : List ℕ → Settings → Frame → Request → Onward
looked_up_in row set f n = looked_by (λ k. program_in k row) (λ k. block_in f.program.number k row) set f n

-- whatever a table has: what is asked for is as if the line that is sought were found in some way. (A request seeks one line at most, a program's or a block's.)
pub record LooksUp (set : Settings) (f : Frame) (n : Request) (r : Onward) : Type 0 where
  pub found : Found
  pub looks : r ≡ looked_by (λ _. found) (λ _. found) set f n

-- ---- what is known of a program of the tape: the walk finds its line where it is said to stand
abbrev pub FoundAt : List ℕ → ℕ → ProgramAt → Type 0
FoundAt tape first p = find_program p.number (lines tape first) ≡ At p.line
