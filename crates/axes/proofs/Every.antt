-- All records of a row: what holds of each of them, of rows joined, that their numbers fit, and that none ends outside the limits.
-- Assumes nothing.
use mathlib.Core.Path.{◌≡◌, refl}
use mathlib.Core.Bool.{false}
use mathlib.Core.List.{List, [], ◌∷◌, ◌++◌}
use Rattle.moves.specs.declared.Record.{Record}
use Rattle.moves.specs.Form.{Fitting, AllFitting}
use Rattle.settings.specs.declared.Limits.{Limits}
use Rattle.settings.specs.Limits.{outside}
use Rattle.axes.specs.Limits.{any_outside}
use Rattle.axes.proofs.Places.{neither, both}

abbrev pub Every : (Record → Type 0) → List Record → Type 0
Every P [] = Unit {0}
Every P (r ∷ rs) = P r × Every P rs

pub joined : (P : Record → Type 0) (rs qs : List Record) → Every P rs → Every P qs → Every P (rs ++ qs)
joined P [] qs a b = b
joined P (r ∷ rs) qs a b = (a.0, joined P rs qs a.1 b)

pub front : (P : Record → Type 0) (rs qs : List Record) → Every P (rs ++ qs) → Every P rs
front P [] qs a = tt
front P (r ∷ rs) qs a = (a.0, front P rs qs a.1)

pub behind : (P : Record → Type 0) (rs qs : List Record) → Every P (rs ++ qs) → Every P qs
behind P [] qs a = a
behind P (r ∷ rs) qs a = behind P rs qs a.1

-- ---- their numbers fit
pub all_fitting : (rs : List Record) → Every Fitting rs → AllFitting rs
all_fitting [] e = tt
all_fitting (r ∷ rs) e = (e.0, all_fitting rs e.1)

-- ---- none ends outside the limits
abbrev pub Ends : Limits → Record → Type 0
Ends l r = outside l r.x r.z ≡ false

pub each_ends : (l : Limits) (rs : List Record) → any_outside l rs ≡ false → Every (Ends l) rs
unfolding any_outside
each_ends l [] e = tt
each_ends l (r ∷ rs) e = let n = neither (outside l r.x r.z) (any_outside l rs) e in (n.0, each_ends l rs n.1)

pub none_outside : (l : Limits) (rs : List Record) → Every (Ends l) rs → any_outside l rs ≡ false
unfolding any_outside
none_outside l [] e = refl
none_outside l (r ∷ rs) e = both (outside l r.x r.z) (any_outside l rs) e.0 (none_outside l rs e.1)
