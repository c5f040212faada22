-- The records of a cycle, to the place i on the axis that goes in and the place a on the axis across it. 01: "Facing: exchange the axes".
use Rattle.std.specs.Prelude.{Bool, cond, ℕ, ℤ}
use Rattle.moves.specs.declared.Record.{Record}
use Rattle.moves.specs.Kinds.{rapid, feed, thread, dwell}

unfoldable pub rapid_to : Bool → ℤ → ℤ → Record
rapid_to facing i a = cond facing (rapid a i) (rapid i a)

unfoldable pub feed_to : Bool → ℕ → Bool → ℤ → ℤ → Record
feed_to facing f g95 i a = cond facing (feed a i f g95) (feed i a f g95)

unfoldable pub thread_to : Bool → ℕ → ℤ → ℤ → Record
thread_to facing pitch i a = cond facing (thread a i pitch) (thread i a pitch)

unfoldable pub dwell_at : Bool → ℕ → ℤ → ℤ → Record
dwell_at facing tenths i a = cond facing (dwell a i tenths) (dwell i a tenths)

-- where a record ends, on the axis that goes in and on the axis across it
abbrev pub inward_of : Bool → Record → ℤ
inward_of facing r = cond facing r.z r.x

abbrev pub across_of : Bool → Record → ℤ
across_of facing r = cond facing r.x r.z
