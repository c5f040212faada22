-- What is due behind a record that is no cycle's, and the rows that it begins.
-- Assumes nothing.
use mathlib.Core.Path.{◌≡◌, refl, sym, ap, ◌∙◌}
use mathlib.Core.Bool.{Bool, true, false}
use mathlib.Core.List.{List, [], ◌∷◌, ◌++◌}
use Rattle.moves.specs.declared.Record.{Record}
use Rattle.writing.specs.Writes.{one_if}
use Rattle.stages.specs.Cursor.{single_of, behind_deed, from_centre, from_coolant, from_spindle, from_tool, from_speed, behind_at, rest_at, rest_from, deed_row, rest_of, stage_behind, Planned, Follows}
use Rattle.stages.specs.declared.Stage.{Stage}
use Rattle.stages.specs.declared.Stage.TheVariants.{Speed, Tool, Spindle, Coolant, Centre, Stop, Over}
use Rattle.stages.specs.declared.Due.{Due}
use Rattle.stages.specs.declared.Due.TheVariants.{Single}
use Rattle.stages.specs.declared.Plan.{Plan}

-- ---- a record where it is wanted, before a row
pub word_due : {t : Bool} (r : Record) (l : List Record) → t ≡ true → one_if t r ++ l ≡ r ∷ l
unfolding one_if
word_due r l e = ap (λ (t : Bool). one_if t r ++ l) e

pub word_none : {t : Bool} (r : Record) (l : List Record) → t ≡ false → one_if t r ++ l ≡ l
unfolding one_if
word_none r l e = ap (λ (t : Bool). one_if t r ++ l) e

pub stop_due : (p : Plan) → p.stops ≡ true → behind_deed p ≡ single_of p Stop ∷ []
unfolding behind_deed one_if
stop_due p e = ap (λ (t : Bool). one_if t (single_of p Stop)) e

pub stop_none : (p : Plan) → p.stops ≡ false → behind_deed p ≡ []
unfolding behind_deed one_if
stop_none p e = ap (λ (t : Bool). one_if t (single_of p Stop)) e

-- ---- what is due behind a word, where the next word stands in the block and where it does not
module _ (p : Plan) where
  module _ (q : Planned p) where
    pub deed_due : Follows p (deed_row p) p.deed
    unfolding rest_of
    deed_due = record { same = q.later (deed_row p); sound = q.deed }

    pub coolant_due : p.has_coolant ≡ true → Follows p (from_coolant p (deed_row p)) (Single Coolant)
    unfolding rest_of rest_from rest_at behind_at from_coolant
    coolant_due e = record { same = sym (word_due (single_of p Coolant) (deed_row p) e); sound = tt }

    pub coolant_none : p.has_coolant ≡ false → Follows p (from_coolant p (deed_row p)) p.deed
    unfolding from_coolant
    coolant_none e = record { same = deed_due.same ∙ sym (word_none (single_of p Coolant) (deed_row p) e); sound = q.deed }

    pub spindle_due : p.has_spindle ≡ true → Follows p (from_spindle p (deed_row p)) (Single Spindle)
    unfolding rest_of rest_from rest_at behind_at from_spindle
    spindle_due e = record { same = sym (word_due (single_of p Spindle) (from_coolant p (deed_row p)) e); sound = tt }

    pub spindle_none : {d : Due} → p.has_spindle ≡ false → Follows p (from_coolant p (deed_row p)) d → Follows p (from_spindle p (deed_row p)) d
    unfolding from_spindle
    spindle_none e f = record { same = f.same ∙ sym (word_none (single_of p Spindle) (from_coolant p (deed_row p)) e); sound = f.sound }

    pub tool_due : p.has_tool ≡ true → Follows p (from_tool p (deed_row p)) (Single Tool)
    unfolding rest_of rest_from rest_at behind_at from_tool
    tool_due e = record { same = sym (word_due (single_of p Tool) (from_spindle p (deed_row p)) e); sound = tt }

    pub tool_none : {d : Due} → p.has_tool ≡ false → Follows p (from_spindle p (deed_row p)) d → Follows p (from_tool p (deed_row p)) d
    unfolding from_tool
    tool_none e f = record { same = f.same ∙ sym (word_none (single_of p Tool) (from_spindle p (deed_row p)) e); sound = f.sound }

    pub speed_due : {t : Bool} → t ≡ true → Follows p (from_speed p t (deed_row p)) (Single Speed)
    unfolding rest_of rest_from rest_at behind_at from_speed
    speed_due e = record { same = sym (word_due (single_of p Speed) (from_tool p (deed_row p)) e); sound = tt }

    pub speed_none : {t : Bool} {d : Due} → t ≡ false → Follows p (from_tool p (deed_row p)) d → Follows p (from_speed p t (deed_row p)) d
    unfolding from_speed
    speed_none e f = record { same = f.same ∙ sym (word_none (single_of p Speed) (from_tool p (deed_row p)) e); sound = f.sound }

  -- behind the deed
  pub behind_due : (l : List Record) (t : Bool) → p.stops ≡ t → rest_at p l (stage_behind t) ≡ behind_deed p
  unfolding rest_at behind_at
  behind_due l true e = sym (stop_due p e)
  behind_due l false e = sym (stop_none p e)

  pub behind_follows : {k : Stage} → k ≡ stage_behind p.stops → Follows p (behind_deed p) (Single k)
  unfolding rest_of rest_from
  behind_follows e = record { same = ap (rest_at p (deed_row p)) e ∙ behind_due (deed_row p) p.stops refl; sound = tt }

  -- behind its own record
  pub centre_due : p.own.has_centre ≡ true → Follows p (from_centre p) (Single Centre)
  unfolding rest_of rest_from rest_at behind_at from_centre
  centre_due e = record { same = sym (word_due (single_of p Centre) (behind_deed p) e); sound = tt }

  pub centre_none : {d : Due} → p.own.has_centre ≡ false → Follows p (behind_deed p) d → Follows p (from_centre p) d
  unfolding from_centre
  centre_none e f = record { same = f.same ∙ sym (word_none (single_of p Centre) (behind_deed p) e); sound = f.sound }

  -- at the end
  pub over_due : Follows p [] (Single Over)
  unfolding rest_of rest_from rest_at
  over_due = record { same = refl; sound = tt }

  -- one rule for all of these records, as `after` answers
  module _ {k k' : Stage} {d : Due} (is : k ≡ k') where
    pub follows_at : Follows p (behind_at p (deed_row p) k') d → Follows p (behind_at p (deed_row p) k) d
    follows_at f = record { same = f.same ∙ ap (behind_at p (deed_row p)) (sym is); sound = f.sound }
