-- WHAT IS LEFT OF A BORE that is opened: the record that comes next, and those behind it.
use Rattle.std.specs.Prelude.{◌≡◌, Bool, true, false, cond, List, [], ◌∷◌, ◌++◌, ℕ, ◌+◌, ◌-◌, ◌≤◌, ◌<◌, eqb}
use Rattle.moves.specs.declared.Record.{Record}
use Rattle.moves.specs.Kinds.{dwell}
use Rattle.drilling.specs.declared.Bore.{Bore}
use Rattle.bores.specs.declared.Stage.{Stage}
use Rattle.bores.specs.declared.Stage.TheVariants.{Bite, Home, Back, Dwell, Out, Over}
use Rattle.bores.specs.declared.Cursor.{Cursor}
use Rattle.bites.specs.Bites.{next_bite, biting, has_zero}
use Rattle.drilling.specs.Drilling.{stroke_of, deep_at, out_to, boring, dwelling}

-- ---- the records that are left
-- the bites that are left
abbrev pub bites_of : Cursor → List ℕ
bites_of c = biting c.bore.less c.bore.least c.bite c.left c.left

-- behind the bites: the dwell, the rapid to the start
abbrev pub ending : Bore → List Record
ending b = dwelling b ++ (out_to b b.start ∷ [])

abbrev pub from_bite : Cursor → List Record
from_bite c = boring c.bore c.deep (bites_of c) ++ ending c.bore

-- the rapid to the retract short of the depth reached
abbrev pub back_of : Cursor → Record
back_of c = out_to c.bore (deep_at c.bore (c.deep - c.bore.back))

unfoldable pub rest_at : Stage → Cursor → List Record
rest_at Bite c = from_bite c
rest_at Home c = out_to c.bore c.bore.start ∷ back_of c ∷ from_bite c
rest_at Back c = back_of c ∷ from_bite c
rest_at Dwell c = dwell c.bore.x c.bore.target c.bore.dwell ∷ out_to c.bore c.bore.start ∷ []
rest_at Out c = out_to c.bore c.bore.start ∷ []
rest_at Over c = []

unfoldable pub rest_of : Cursor → List Record
rest_of c = rest_at c.stage c

-- none is left
abbrev pub over_at : Stage → Bool
over_at Bite = false
over_at Home = false
over_at Back = false
over_at Dwell = false
over_at Out = false
over_at Over = true

abbrev pub over : Cursor → Bool
over c = over_at c.stage

-- ---- what the contracts say
-- the same cursor at another stage
abbrev pub at : Cursor → Stage → Cursor
at c s = record { bore = c.bore; stage = s; deep = c.deep; bite = c.bite; left = c.left }

-- which stage follows a bite that is not the last, and which the last one
abbrev pub after_bite : Bool → Stage
after_bite full = cond full Home Back

abbrev pub after_last : ℕ → Stage
after_last dwell = cond (eqb dwell 0) Out Dwell

-- behind a bite that is not the last, and behind the last
abbrev pub bitten : Cursor → Cursor
bitten c =
    record { bore = c.bore; stage = after_bite c.bore.full; deep = c.deep + c.bite; bite = next_bite c.bore.less c.bore.least c.bite; left = c.left - c.bite }

abbrev pub bottomed : Cursor → Cursor
bottomed c = record { bore = c.bore; stage = after_last c.bore.dwell; deep = c.deep + c.left; bite = c.bite; left = 0 }

-- before the first bite, which is all of the stroke where none is asked for
abbrev pub opened : Bore → Cursor
opened b = record { bore = b; stage = Bite; deep = 0; bite = cond (eqb b.first 0) (stroke_of b) b.first; left = stroke_of b }

-- where a bite is still to come, something is left
abbrev pub Ready : Stage → Cursor → Type 0
Ready Bite c = 0 < c.left
Ready Home c = 0 < c.left
Ready Back c = 0 < c.left
Ready Dwell c = Unit {0}
Ready Out c = Unit {0}
Ready Over c = Unit {0}

-- what every cursor keeps: the percentage is one, depth and rest make the stroke, and no bite that is left is 0
pub record Sound (c : Cursor) : Type 0 where
  pub part : c.bore.less ≤ 100
  pub whole : c.deep + c.left ≡ stroke_of c.bore
  pub above : has_zero (bites_of c) ≡ false
  pub ready : Ready c.stage c

-- one record: the first of what is left, and a cursor that has the others
pub record Makes (c : Cursor) (made : Record) (behind : Cursor) : Type 0 where
  pub first : rest_of c ≡ made ∷ rest_of behind
  pub sound : Sound behind
