-- WHAT IS LEFT OF A GROOVE that is opened: the records of the present plunge that are still to come, and the plunges behind it.
use Rattle.std.specs.Prelude.{◌≡◌, Bool, true, false, cond, List, [], ◌∷◌, ◌++◌, ℕ, ◌+◌, ◌-◌, ◌≤◌, ◌<◌, ◌^◌, ltb, ◌+ℤ◌}
use Rattle.std.specs.Int.{w32}
use Rattle.std.proofs.Common.{SFits}
use Rattle.whole.specs.declared.Side.TheVariants.{Minus}
use Rattle.whole.specs.Signed.{along}
use Rattle.division.specs.Division.{sum}
use Rattle.division.specs.Carried.{row_of}
use Rattle.moves.specs.declared.Record.{Record}
use Rattle.axes.specs.Goes.{dwell_at}
use Rattle.grooving.specs.Grooving.{length_of, cuts, out_to, deep_at, cutting, dwelling, plunges}
use Rattle.plunges.specs.declared.Stage.{Stage}
use Rattle.plunges.specs.declared.Stage.TheVariants.{Cut, Back, Dwell, Out, Across, Over}
use Rattle.plunges.specs.declared.Cursor.{Cursor}
use Rattle.plunges.specs.declared.CutAndBack.{CutAndBack}

-- ---- the records that are left
-- behind the present plunge: the others, and the rapid to the start
abbrev pub others : Cursor → List Record
others c = plunges c.groove c.width (row_of c.steps)

-- of the present plunge, those from a stage on
abbrev pub from_out : Cursor → List Record
from_out c = out_to c.groove c.width c.groove.depth.start ∷ cond c.several (others c) []

abbrev pub from_dwell : Cursor → List Record
from_dwell c = dwell_at c.groove.facing c.groove.dwell c.groove.depth.target c.width ∷ from_out c

abbrev pub from_cut : Cursor → List Record
from_cut c = cutting c.groove c.width c.deep (row_of c.cuts) ++ (dwelling c.groove c.width ++ from_out c)

abbrev pub from_back : Cursor → List Record
from_back c = out_to c.groove c.width (deep_at c.groove (c.deep - c.groove.back)) ∷ from_cut c

unfoldable pub rest_at : Stage → Cursor → List Record
rest_at Cut c = from_cut c
rest_at Back c = from_back c
rest_at Dwell c = from_dwell c
rest_at Out c = from_out c
rest_at Across c = others c
rest_at Over c = []

unfoldable pub rest_of : Cursor → List Record
rest_of c = rest_at c.stage c

-- none is left
abbrev pub over_at : Stage → Bool
over_at Cut = false
over_at Back = false
over_at Dwell = false
over_at Out = false
over_at Across = false
over_at Over = true

abbrev pub over : Cursor → Bool
over c = over_at c.stage

-- a cut comes next, or nothing
abbrev pub before_cut_at : Stage → Bool
before_cut_at Cut = true
before_cut_at Back = false
before_cut_at Dwell = false
before_cut_at Out = false
before_cut_at Across = false
before_cut_at Over = true

abbrev pub before_cut : Cursor → Bool
before_cut c = before_cut_at c.stage

-- a cut comes next, and a rapid back behind it, since another cut is left
abbrev pub before_cut_and_back_at : Stage → ℕ → Bool
before_cut_and_back_at Cut left = ltb 1 left
before_cut_and_back_at Back left = false
before_cut_and_back_at Dwell left = false
before_cut_and_back_at Out left = false
before_cut_and_back_at Across left = false
before_cut_and_back_at Over left = false

abbrev pub before_cut_and_back : Cursor → Bool
before_cut_and_back c = before_cut_and_back_at c.stage c.cuts.left

-- the dwell comes next
abbrev pub before_dwell_at : Stage → Bool
before_dwell_at Cut = false
before_dwell_at Back = false
before_dwell_at Dwell = true
before_dwell_at Out = false
before_dwell_at Across = false
before_dwell_at Over = false

abbrev pub before_dwell : Cursor → Bool
before_dwell c = before_dwell_at c.stage

-- the cuts of a plunge are done: the dwell comes next, or the way out
abbrev pub behind_cuts_at : Stage → Bool
behind_cuts_at Cut = false
behind_cuts_at Back = false
behind_cuts_at Dwell = true
behind_cuts_at Out = true
behind_cuts_at Across = false
behind_cuts_at Over = false

abbrev pub behind_cuts : Cursor → Bool
behind_cuts c = behind_cuts_at c.stage

-- ---- what the contracts say
-- the same plunge at another stage
abbrev pub at : Cursor → Stage → Cursor
at c s =
    record { groove = c.groove; stage = s; width = c.width; deep = c.deep; cuts = c.cuts; plunge = c.plunge; steps = c.steps; several = c.several }

-- after a cut: the rapid back where cuts are left, else the dwell if there is one, else the rapid out
abbrev pub after_cut : ℕ → ℕ → Stage
after_cut left dwell = cond (ltb 0 left) Back (cond (ltb 0 dwell) Dwell Out)

-- where a cut comes next, or the rapid back for one, a cut is left
abbrev pub Ready : Stage → Cursor → Type 0
Ready Cut c = 0 < c.cuts.left
Ready Back c = 0 < c.cuts.left
Ready Dwell c = Unit {0}
Ready Out c = Unit {0}
Ready Across c = Unit {0}
Ready Over c = Unit {0}

-- what every cursor keeps: `plunge` has the groove's cuts, no cut that is left of the present plunge goes beyond the depth, and the last place across fits
pub record Sound (c : Cursor) : Type 0 where
  pub row : row_of c.plunge ≡ cuts c.groove
  pub some : 0 < c.plunge.left
  pub whole : sum (row_of c.plunge) ≤ length_of c.groove.depth
  pub far : length_of c.groove.depth < 2 ^ 32
  pub reach : c.deep + sum (row_of c.cuts) ≤ length_of c.groove.depth
  pub small : sum (row_of c.steps) < 2 ^ 32
  pub wide : SFits w32 (c.width +ℤ along Minus (sum (row_of c.steps)))
  pub ready : Ready c.stage c

-- one record: the first of what is left, and a cursor that has the others
pub record Makes (c : Cursor) (made : Record) (behind : Cursor) : Type 0 where
  pub first : rest_of c ≡ made ∷ rest_of behind
  pub sound : Sound behind

-- a cut and the rapid back, in their order
abbrev pub cut_row : CutAndBack → List Record
cut_row p = p.cut ∷ p.back ∷ []

-- both: the first two of what is left, and a cursor that has the others, of which a cut comes next
pub record MakesCut (c : Cursor) (p : CutAndBack) : Type 0 where
  pub first : rest_of c ≡ cut_row p ++ rest_of p.rest
  pub sound : Sound p.rest
  pub cut : p.rest.stage ≡ Cut
