-- WHAT IS LEFT OF A THREADING CYCLE that is opened: the records of the present pass that are still to come, and the passes behind it.
use Rattle.std.specs.Prelude.{◌≡◌, Bool, false, ◌&&◌, List, ◌∷◌, map, ℕ, ◌-◌, ◌≤◌, eqb, ℤ, ◌+ℤ◌, ◌-ℤ◌}
use Rattle.std.specs.Int.{w32}
use Rattle.std.proofs.Common.{SFits}
use Rattle.whole.specs.Signed.{along}
use Rattle.moves.specs.declared.Record.{Record}
use Rattle.axes.specs.Goes.{rapid_to, thread_to}
use Rattle.axes.specs.declared.Stage.{Stage}
use Rattle.axes.specs.declared.Stage.TheVariants.{In, Cut, Out, Back}
use Rattle.depths.specs.Depths.{greatest_d}
use Rattle.depths.specs.Promised.{Rises}
use Rattle.cuts.specs.Cuts as cut
use Rattle.threading.specs.Threading.{wide, passes, repeated}
use Rattle.threads.specs.declared.Cursor.{Cursor}

-- ---- the records that are left
-- the depths of the cuts behind the present one, and of all passes behind it
abbrev pub cuts_left : Cursor → List ℕ
cuts_left c = cut.rest_of c.depth c.cuts

abbrev pub depths_left : Cursor → List ℕ
depths_left c = repeated c.depth (cuts_left c) c.empty

-- the crest, from which depths count: the present line less the present depth
abbrev pub crest_of : Cursor → ℤ
crest_of c = c.line -ℤ along c.side (wide c.pass.facing c.depth)

abbrev pub line_of : Cursor → ℕ → ℤ
line_of c x = crest_of c +ℤ along c.side (wide c.pass.facing x)

-- the passes behind the present one
abbrev pub later : Cursor → List Record
later c = passes c.pass (map (line_of c) (depths_left c))

-- of the present pass, those from a stage on
abbrev pub from_back : Cursor → List Record
from_back c = rapid_to c.pass.facing c.pass.from c.pass.home ∷ later c

abbrev pub from_out : Cursor → List Record
from_out c = rapid_to c.pass.facing c.pass.from c.pass.end ∷ from_back c

abbrev pub from_cut : Cursor → List Record
from_cut c = thread_to c.pass.facing c.pass.pitch c.line c.pass.end ∷ from_out c

unfoldable pub rest_at : Stage → Cursor → List Record
rest_at In c = later c
rest_at Cut c = from_cut c
rest_at Out c = from_out c
rest_at Back c = from_back c

unfoldable pub rest_of : Cursor → List Record
rest_of c = rest_at c.stage c

-- none is left
abbrev pub over_at : Stage → Cursor → Bool
over_at In c = cut.over c.cuts && eqb c.empty 0
over_at Cut c = false
over_at Out c = false
over_at Back c = false

unfoldable pub over : Cursor → Bool
over c = over_at c.stage c

-- ---- what the contracts say
-- the same pass at another stage
abbrev pub at : Cursor → Stage → Cursor
at c s = record { pass = c.pass; side = c.side; line = c.line; depth = c.depth; cuts = c.cuts; empty = c.empty; stage = s }

-- what every cursor keeps: no depth that is left falls, and the line of the last one fits, so that every line does
pub record Sound (c : Cursor) : Type 0 where
  pub deepest : ℕ
  pub small : deepest ≤ greatest_d
  pub cuts : cut.Sound c.depth c.cuts
  pub rises : Rises deepest c.depth (cuts_left c)
  pub reach : SFits w32 (c.line +ℤ along c.side (wide c.pass.facing (deepest - c.depth)))

-- one record: the first of what is left, and a cursor that has the others
pub record Makes (c : Cursor) (made : Record) (behind : Cursor) : Type 0 where
  pub first : rest_of c ≡ made ∷ rest_of behind
  pub sound : Sound behind
