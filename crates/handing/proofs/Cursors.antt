-- A block that is opened: each record that is handed out is the first of those that are left, and what is over has none.
-- Assumes nothing.
use mathlib.Core.Path.{◌≡◌, refl, sym, ap, ◌∙◌}
use mathlib.Core.Bool.{Bool, true, false, not, ◌&&◌, false≢true}
use mathlib.Core.List.{List, [], ◌∷◌, ◌++◌}
use Rattle.moves.specs.declared.Record.{Record}
use Rattle.passes.specs.Cursor as turn
use Rattle.threads.specs.Cursor as thread
use Rattle.plunges.specs.Cursor as groove
use Rattle.bores.specs.Cursor as drill
use Rattle.passes.proofs.Cursors as turning
use Rattle.threads.proofs.Cursors as threading
use Rattle.plunges.proofs.Cursors as grooving
use Rattle.bores.proofs.Cursors as drilling
use Rattle.stages.specs.Cursor.{single_of, behind_deed, behind_at, rest_at, rest_from, deed_row, rest_of, stage_over, cycle_over, over, Sound, Makes, Follows}
use Rattle.stages.specs.declared.Stage.{Stage}
use Rattle.stages.specs.declared.Stage.TheVariants.{Speed, Tool, Spindle, Coolant, Deed, Centre, Stop, Over}
use Rattle.stages.specs.declared.Due.{Due}
use Rattle.stages.specs.declared.Due.TheVariants.{Turning, Threading, Grooving, Drilling, Single}
use Rattle.stages.specs.declared.Plan.{Plan}
use Rattle.stages.proofs.Cursors.{stop_due, stop_none}

never : {A : Type 0} → false ≡ true → A
never e = absurd (false≢true e)

-- ---- both tests of a cycle that is due
over_both : (a b : Bool) → a && not b ≡ true → (a ≡ true) × (b ≡ false)
over_both true true e = never e
over_both true false e = (refl, refl)
over_both false b e = never e

over_stops : (a b : Bool) → a && not b ≡ false → a ≡ true → b ≡ true
over_stops true true e h = refl
over_stops true false e h = never (sym e)
over_stops false b e h = never h

-- ---- what is over has no record left
module _ (p : Plan) where
  cycle_none : {row : List Record} (a : Bool) → (a ≡ true → row ≡ []) → a && not p.stops ≡ true → row ++ behind_deed p ≡ []
  cycle_none a none e =
      let h = over_both a p.stops e in
      (λ i. none h.0 i ++ stop_none p h.1 i)

  stage_none : (l : List Record) (k : Stage) → stage_over k ≡ true → rest_at p l k ≡ []
  unfolding rest_at
  stage_none l Speed e = never e
  stage_none l Tool e = never e
  stage_none l Spindle e = never e
  stage_none l Coolant e = never e
  stage_none l Deed e = never e
  stage_none l Centre e = never e
  stage_none l Stop e = never e
  stage_none l Over e = refl

  none_from : (l : List Record) (d : Due) → over p d ≡ true → rest_from p l d ≡ []
  unfolding rest_from
  none_from l (Turning c) e = cycle_none (turn.over c) (turning.rest_none c) e
  none_from l (Threading c) e = cycle_none (thread.over c) (threading.rest_none c) e
  none_from l (Grooving c) e = cycle_none (groove.over c) (grooving.rest_none c) e
  none_from l (Drilling c) e = cycle_none (drill.over c) (drilling.rest_none c) e
  none_from l (Single k) e = stage_none l k e

  pub rest_none : (d : Due) → over p d ≡ true → rest_of p d ≡ []
  unfolding rest_of
  rest_none d e = none_from (deed_row p) d e

  -- ---- the record that is due
  -- M00 or M30, behind a cycle that is over
  cycle_last : {row : List Record} (a : Bool) → (a ≡ true → row ≡ []) → a ≡ true → a && not p.stops ≡ false → row ++ behind_deed p ≡ single_of p Stop ∷ []
  cycle_last a none h e = λ i. none h i ++ stop_due p (over_stops a p.stops e h) i

  last_from : (l : List Record) (d : Due) → cycle_over d ≡ true → over p d ≡ false → rest_from p l d ≡ single_of p Stop ∷ []
  unfolding rest_from
  last_from l (Turning c) h e = cycle_last (turn.over c) (turning.rest_none c) h e
  last_from l (Threading c) h e = cycle_last (thread.over c) (threading.rest_none c) h e
  last_from l (Grooving c) h e = cycle_last (groove.over c) (grooving.rest_none c) h e
  last_from l (Drilling c) h e = cycle_last (drill.over c) (drilling.rest_none c) h e
  last_from l (Single k) h e = never h

  pub stop_next : {r : Record} (d : Due) → Sound p d → cycle_over d ≡ true → over p d ≡ false → r ≡ single_of p Stop → Makes p d r (Single Over)
  unfolding rest_of rest_from rest_at
  stop_next d s h e is = record {
    first = last_from (deed_row p) d h e ∙ ap (λ (r : Record). r ∷ []) (sym is);
    sound = record { plan = s.plan; due = tt };
  }

  -- a record that is no cycle's
  single_first : (l : List Record) (k : Stage) → stage_over k ≡ false → rest_at p l k ≡ single_of p k ∷ behind_at p l k
  unfolding rest_at
  single_first l Speed e = refl
  single_first l Tool e = refl
  single_first l Spindle e = refl
  single_first l Coolant e = refl
  single_first l Deed e = refl
  single_first l Centre e = refl
  single_first l Stop e = refl
  single_first l Over e = never (sym e)

  pub single_next : {r : Record} {d rest : Due} {k : Stage} → d ≡ Single k → Sound p d → over p d ≡ false → r ≡ single_of p k → Follows p (behind_at p (deed_row p) k) rest → Makes p d r rest
  unfolding rest_of rest_from
  single_next {r} {d} {rest} {k} is s e made f = record {
    first = ap (rest_of p) is ∙ single_first (deed_row p) k (ap (over p) (sym is) ∙ e) ∙ (λ i. sym made i ∷ sym f.same i);
    sound = record { plan = s.plan; due = f.sound };
  }

  -- a cycle's
  on_from_lem : {v w : List Record} (r : Record) → v ≡ r ∷ w → v ++ behind_deed p ≡ r ∷ (w ++ behind_deed p)
  on_from_lem r e = ap (λ (l : List Record). l ++ behind_deed p) e

  module _ {d : Due} (s : Sound p d) {r : Record} where
    pub turning_next : {c t : _} → d ≡ Turning c → turn.Makes c r t → Makes p d r (Turning t)
    unfolding rest_of rest_from
    turning_next is m = record { first = ap (rest_of p) is ∙ on_from_lem r m.first; sound = record { plan = s.plan; due = m.sound } }

    pub threading_next : {c t : _} → d ≡ Threading c → thread.Makes c r t → Makes p d r (Threading t)
    unfolding rest_of rest_from
    threading_next is m = record { first = ap (rest_of p) is ∙ on_from_lem r m.first; sound = record { plan = s.plan; due = m.sound } }

    pub grooving_next : {c t : _} → d ≡ Grooving c → groove.Makes c r t → Makes p d r (Grooving t)
    unfolding rest_of rest_from
    grooving_next is m = record { first = ap (rest_of p) is ∙ on_from_lem r m.first; sound = record { plan = s.plan; due = m.sound } }

    pub drilling_next : {c t : _} → d ≡ Drilling c → drill.Makes c r t → Makes p d r (Drilling t)
    unfolding rest_of rest_from
    drilling_next is m = record { first = ap (rest_of p) is ∙ on_from_lem r m.first; sound = record { plan = s.plan; due = m.sound } }
