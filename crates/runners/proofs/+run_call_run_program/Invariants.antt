-- `runners::run_program` and `runners::run_call`, which call each other: what their loops keep, and why they end. The calls that are left fall from the one to the other; a run of a call is one less with each
-- turn, and a program has a block less.
use Rattle.std.proofs.Common.{length, ◌≡◌, ◌+◌, ◌≤◌}
use Rattle.ahead.specs.Ahead.{FoundAt}
use Rattle.steps.specs.of_taking.Steps.{task_of}
use Rattle.steps.specs.Meets.{Ready}
use Rattle.runners.specs.Runs.{blocks_in_all}
use Rattle.runners.proofs.Going
use Rattle.runners.proofs.+run_call_run_program.Given as goal

abbrev pub decreases-run_call : goal.decreases-run_call
decreases-run_call l = l.calls + l.calls

abbrev pub decreases-run_program : goal.decreases-run_program
decreases-run_program l = l.calls + l.calls + 1

abbrev pub invariant-run_call-loop-n : goal.invariant-run_call-loop-n
invariant-run_call-loop-n l =
    Going.Repeating (task_of l.tape l.table l.set l.first (length l.initial.buf)) l.program l.calls l.times l.initial.buf l.initial.now l.buf l.now l.n
    × Ready (task_of l.tape l.table l.set l.first (length l.initial.buf)) (length l.initial.buf) l.places l.count
    × (l.initial.now.blocks_left ≤ blocks_in_all)
    × FoundAt l.tape l.first l.program
    × (l.calls ≡ 0 → ⊥)

abbrev pub decreases-run_call-loop-n : goal.decreases-run_call-loop-n
decreases-run_call-loop-n l = l.n

abbrev pub invariant-run_program-loop-now : goal.invariant-run_program-loop-now
invariant-run_program-loop-now l =
    Going.Going (task_of l.tape l.table l.set l.first (length l.initial.buf)) l.program l.calls l.initial.buf l.initial.now l.buf l.now l.at
    × Ready (task_of l.tape l.table l.set l.first (length l.initial.buf)) (length l.initial.buf) l.places l.count
    × (l.initial.now.blocks_left ≤ blocks_in_all)
    × FoundAt l.tape l.first l.program

abbrev pub decreases-run_program-loop-now : goal.decreases-run_program-loop-now
decreases-run_program-loop-now l = l.now.blocks_left
