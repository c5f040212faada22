-- WHAT CAN BE ASKED OF A RUN THAT WAITS, wherever it comes from: its numbers are within their bounds. It says nothing of what the tape and the table of places hold.
use Rattle.std.specs.Prelude.{◌≡◌, ℕ, ◌≤◌, ◌<◌, length, get_or}
use Rattle.moves.specs.Form.{record_limit}
use Rattle.reading.specs.Reading.{longest_tape}
use Rattle.ahead.specs.Ahead.{most_calls}
use Rattle.resuming.specs.of_runners.Runs.{blocks_in_all}
use Rattle.resuming.specs.of_answers.declared.Answer.{Answer}
use Rattle.resuming.specs.of_answers.Answers.{place_of, count_of}
use Rattle.resuming.specs.declared.Waiting.{Waiting}
use Rattle.paused.specs.declared.Phase.{Phase}
use Rattle.paused.specs.declared.Phase.TheVariants.{Running, Over}
use Rattle.paused.specs.declared.Going.{Going}

-- no program waits there
abbrev pub nobody : Waiting
nobody = record { program = record { number = 0; line = 0 }; after = 0; times = 0 }

-- a program that waits has its line and the place to go on no further than the end of the tape
pub record Waits (end : ℕ) (w : Waiting) : Type 0 where
  pub line : w.program.line ≤ end
  pub after : w.after ≤ end

-- an answer's place and count have 16 bits
pub record Fitting (a : Answer) : Type 0 where
  pub place : place_of a ≤ longest_tape
  pub count : count_of a ≤ longest_tape

abbrev pub Answers : Phase → Type 0
Answers Running = Unit {0}
Answers (Over a) = Fitting a

pub record Kept (g : Going) : Type 0 where
  pub here : g.frame.at ≤ g.end
  pub line : g.frame.program.line ≤ g.end
  pub calls : g.frame.calls_left ≤ most_calls
  pub size : length g.waiting ≡ most_calls
  pub waits : (k : ℕ) → k < most_calls → Waits g.end (get_or g.waiting k nobody)
  pub blocks : g.run.blocks_left ≤ blocks_in_all
  pub count : g.run.count ≤ record_limit
  pub tape : g.end ≤ longest_tape
  pub filled : g.filled ≤ longest_tape
  pub answer : Answers g.phase
