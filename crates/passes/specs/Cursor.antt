-- WHAT IS LEFT OF A TURNING CYCLE that is opened: the records of the present pass that are still to come, and the passes behind it.
use Rattle.std.specs.Prelude.{◌≡◌, Bool, true, false, List, [], ◌∷◌, ◌++◌, ◌<◌, ◌^◌, eqb, ◌+ℤ◌}
use Rattle.std.specs.Int.{w32}
use Rattle.std.proofs.Common.{SFits}
use Rattle.whole.specs.Signed.{along}
use Rattle.division.specs.Division.{sum}
use Rattle.division.specs.Carried.{row_of}
use Rattle.moves.specs.declared.Record.{Record}
use Rattle.axes.specs.Goes.{rapid_to, feed_to}
use Rattle.axes.specs.declared.Stage.{Stage}
use Rattle.axes.specs.declared.Stage.TheVariants.{In, Cut, Out, Back}
use Rattle.turning.specs.Turning.{pass_on, passes}
use Rattle.passes.specs.declared.Cursor.{Cursor}
use Rattle.passes.specs.declared.Passed.{Passed}

-- ---- the records that are left
-- the passes behind the present one, each from the line of the one before
abbrev pub later : Cursor → List Record
later c = passes (pass_on c.pass) c.side c.line (row_of c.depths)

-- of the present pass, those from a stage on
abbrev pub from_back : Cursor → List Record
from_back c = rapid_to c.pass.facing c.pass.from c.pass.home ∷ later c

abbrev pub from_out : Cursor → List Record
from_out c = feed_to c.pass.facing c.pass.f c.pass.g95 c.pass.from c.pass.end ∷ from_back c

abbrev pub from_cut : Cursor → List Record
from_cut c = feed_to c.pass.facing c.pass.f c.pass.g95 c.line c.pass.end ∷ from_out c

unfoldable pub rest_at : Stage → Cursor → List Record
rest_at In c = later c
rest_at Cut c = from_cut c
rest_at Out c = from_out c
rest_at Back c = from_back c

unfoldable pub rest_of : Cursor → List Record
rest_of c = rest_at c.stage c

-- none is left
abbrev pub over_at : Stage → Cursor → Bool
over_at In c = eqb c.depths.left 0
over_at Cut c = false
over_at Out c = false
over_at Back c = false

unfoldable pub over : Cursor → Bool
over c = over_at c.stage c

-- the next record, if there is one, is the first of a pass
abbrev pub before_at : Stage → Bool
before_at In = true
before_at Cut = false
before_at Out = false
before_at Back = false

abbrev pub before_pass : Cursor → Bool
before_pass c = before_at c.stage

-- ---- what the contracts say
-- the same pass at another stage
abbrev pub at : Cursor → Stage → Cursor
at c s = record { pass = c.pass; side = c.side; line = c.line; depths = c.depths; stage = s }

-- what every cursor keeps: the last line fits, so that every line does
pub record Sound (c : Cursor) : Type 0 where
  pub small : sum (row_of c.depths) < 2 ^ 32
  pub reach : SFits w32 (c.line +ℤ along c.side (sum (row_of c.depths)))

-- one record: the first of what is left, and a cursor that has the others
pub record Makes (c : Cursor) (made : Record) (behind : Cursor) : Type 0 where
  pub first : rest_of c ≡ made ∷ rest_of behind
  pub sound : Sound behind

-- the records of a pass, in their order
abbrev pub pass_row : Passed → List Record
pass_row p = p.inward ∷ p.along ∷ p.outward ∷ p.home ∷ []

-- a pass: the first four of what is left, and a cursor that has the others, of which the next is the first of a pass
pub record MakesPass (c : Cursor) (p : Passed) : Type 0 where
  pub first : rest_of c ≡ pass_row p ++ rest_of p.rest
  pub sound : Sound p.rest
  pub before : before_pass p.rest ≡ true
