-- The cycles that are written by a loop of their own: a turning cycle of which the next record is the first of a pass, and a groove of which it is a cut; or either, of which none is left.
use Rattle.std.specs.Prelude.{Bool, false, List, []}
use Rattle.moves.specs.declared.Record.{Record}
use Rattle.passes.specs.Cursor as turn
use Rattle.plunges.specs.Cursor as groove
use Rattle.stages.specs.declared.Due.{Due}
use Rattle.stages.specs.declared.Due.TheVariants.{Turning, Threading, Grooving, Drilling, Single}

-- whether such a cycle is due
abbrev pub has_own_loop : Due → Bool
has_own_loop (Turning c) = turn.before_pass c
has_own_loop (Threading c) = false
has_own_loop (Grooving c) = groove.before_cut c
has_own_loop (Drilling c) = false
has_own_loop (Single k) = false

-- the records that are left of it
abbrev pub cycle_row : Due → List Record
cycle_row (Turning c) = turn.rest_of c
cycle_row (Threading c) = []
cycle_row (Grooving c) = groove.rest_of c
cycle_row (Drilling c) = []
cycle_row (Single k) = []
