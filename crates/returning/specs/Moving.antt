-- WHERE A RUN GOES ON, as the code has it: further in its program, in a program that is called, in one that waits, or nowhere. What each of these is held to stands in `resuming`.
use Rattle.std.specs.Prelude.{cond, List, ℕ, ◌-◌, ◌+◌, ◌%◌, ltb, eqb, length, get_or, set}
use Rattle.alarms.specs.Numbers.{too_deep, wrong_end}
use Rattle.places.specs.Places.{sixteen_bits}
use Rattle.tape.specs.Lines.{line_at}
use Rattle.ahead.specs.Ahead.{most_calls, onto}
use Rattle.ahead.specs.declared.ProgramAt.{ProgramAt}
use Rattle.ahead.specs.declared.Frame.{Frame}
use Rattle.ahead.specs.declared.Onward.{Onward}
use Rattle.ahead.specs.declared.Onward.TheVariants.{On, Call, Jump, Return, End, Stop}
use Rattle.paused.specs.of_taking.declared.Run.{Run}
use Rattle.paused.specs.of_answers.declared.Answer.{Answer}
use Rattle.paused.specs.of_answers.declared.Answer.TheVariants.{Complete, Alarm}
use Rattle.paused.specs.of_resuming.declared.Waiting.{Waiting}
use Rattle.paused.specs.of_resuming.Remains.{waiting, frame_at}
use Rattle.paused.specs.Kept.{nobody}
use Rattle.paused.specs.declared.Phase.TheVariants.{Over}
use Rattle.paused.specs.declared.Going.{Going}

-- a place that is not on the tape is taken for its end
unfoldable pub within_of : ℕ → ℕ → ℕ
within_of size p = cond (ltb size p) size p

abbrev pub moved_to : Going → Frame → Run → Going
moved_to g f r = record { frame = f; run = r; waiting = g.waiting; phase = g.phase; end = g.end; filled = g.filled }

abbrev pub over_with : Going → Run → Answer → Going
over_with g r a = record { frame = g.frame; run = r; waiting = g.waiting; phase = Over a; end = g.end; filled = g.filled }

-- a place has 16 bits
abbrev pub stopped_with : Going → Run → ℕ → ℕ → Going
stopped_with g r alarm place = over_with g r (Alarm alarm (place % sixteen_bits) r.count)

-- ---- a return
-- where the last program that waits stands, and that program
abbrev pub last_of : Going → ℕ
last_of g = most_calls - 1 - g.frame.calls_left

abbrev pub top_of : Going → Waiting
top_of g = get_or g.waiting (last_of g) nobody

abbrev pub popped_to : Going → Waiting → Going
popped_to g w = moved_to g (frame_at w.program (g.frame.calls_left + 1) w.after) g.run

abbrev pub entry_of : List ℕ → ProgramAt → ℕ → Frame
entry_of tape program calls = frame_at program calls (line_at tape program.line).after

abbrev pub repeated_to : List ℕ → Going → Waiting → Going
repeated_to tape g w =
    record {
      frame = entry_of tape g.frame.program g.frame.calls_left;
      run = g.run;
      waiting = set g.waiting (last_of g) (waiting w.program w.after (w.times - 1));
      phase = g.phase;
      end = g.end;
      filled = g.filled;
    }

unfoldable pub came_back : List ℕ → Going → Going
came_back tape g =
    cond (eqb g.frame.calls_left most_calls) (stopped_with g g.run wrong_end 0) (cond (eqb (top_of g).times 0) (popped_to g (top_of g)) (repeated_to tape g (top_of g)))

-- ---- a call
abbrev pub pushed_to : Going → Run → ProgramAt → ℕ → ℕ → Going
pushed_to g r called times after =
    record {
      frame = frame_at called (g.frame.calls_left - 1) after;
      run = r;
      waiting = set g.waiting (most_calls - 1 - (g.frame.calls_left - 1)) (waiting g.frame.program after times);
      phase = g.phase;
      end = g.end;
      filled = g.filled;
    }

unfoldable pub called_to : List ℕ → Going → Run → ProgramAt → ℕ → ℕ → Going
called_to tape g r called times after = cond (eqb g.frame.calls_left 0) (stopped_with g r too_deep called.line) (came_back tape (pushed_to g r called times after))

-- a program whose line is not on the tape is taken to stand at its end
abbrev pub program_within : ℕ → ProgramAt → ProgramAt
program_within size p = record { number = p.number; line = within_of size p.line }

-- ---- behind a step
unfoldable pub gone_on : List ℕ → Going → Onward → Run → ℕ → Going
gone_on tape g On r after = moved_to g (onto g.frame after) r
gone_on tape g (Jump p) r after = moved_to g (onto g.frame (within_of (length tape) p)) r
gone_on tape g (Call p n) r after = called_to tape g r (program_within (length tape) p) n after
gone_on tape g Return r after = came_back tape (moved_to g g.frame r)
gone_on tape g End r after = over_with g r (Complete r.count)
gone_on tape g (Stop alarm place) r after = stopped_with g r alarm place
