-- A step that is no alarm leaves fewer blocks to begin, and a refused one has no records.
-- Assumes nothing.
use mathlib.Core.Path.{◌≡◌, refl, sym, ap, ◌∙◌}
use mathlib.Core.Bool.{Bool, cond}
use Prim.Native.Nat.{ℕ, zero, suc, ◌-◌, ◌≤◌, ◌<◌}
use native.Mathlib.Omega.{arith}
use lib.Dec.{eqb}
use borrow.Author.Tests.{eq-eqb, ne_eqb}
use Rattle.tape.specs.Lines.{lines}
use Rattle.finding.specs.Finding.{first_block}
use Rattle.places.specs.declared.Found.{Found}
use Rattle.places.specs.declared.Found.TheVariants.{At, Nowhere}
use Rattle.interpreter.specs.of_verdicts.Verdicts.{alarm_in}
use Rattle.interpreter.specs.of_taking.Steps.{Task, block_on, onward_of, alarm_by, alarm_at, run_after, done_at, taken_by, taken_from}
use Rattle.ahead.specs.Ahead.{onto}
use Rattle.ahead.specs.declared.Frame.{Frame}
use Rattle.ahead.specs.declared.Onward.{Onward}
use Rattle.ahead.specs.declared.Onward.TheVariants.{On, Call, Jump, Return, End, Stop}
use Rattle.interpreter.specs.of_taking.declared.Run.{Run}
use Rattle.interpreter.proofs.of_taking.Stepping.{some_left}

abbrev pub Lower : Onward → Run → Run → Type 0
Lower (Stop alarm place) r s = s.blocks_left ≤ r.blocks_left
Lower On r s = s.blocks_left < r.blocks_left
Lower (Call p n) r s = s.blocks_left < r.blocks_left
Lower (Jump p) r s = s.blocks_left < r.blocks_left
Lower Return r s = s.blocks_left < r.blocks_left
Lower End r s = s.blocks_left < r.blocks_left

lower_of : (w : Onward) (r s : Run) → s.blocks_left < r.blocks_left → Lower w r s
lower_of On r s h = h
lower_of (Call p n) r s h = h
lower_of (Jump p) r s h = h
lower_of Return r s h = h
lower_of End r s h = h
lower_of (Stop a p) r s h = omega arith

-- ---- the block at a place
module _ (t : Task) (f : Frame) (r : Run) where
  abbrev own : ℕ
  own = alarm_in t.table t.settings r.state (block_on t.tape f.at) (t.room - r.count)

  none_asked : (a : ℕ) → cond (eqb a 0) own a ≡ 0 → a ≡ 0
  none_asked zero h = refl
  none_asked (suc a) h = absurd (omega (arith, ap (λ (b : Bool). cond b own (suc a)) (sym (ne_eqb (suc a) 0 (λ z. omega (arith, z)))) ∙ h))

  free_asked : alarm_at t f r ≡ 0 → alarm_by (onward_of t f r) ≡ 0
  unfolding alarm_at
  free_asked e = none_asked (alarm_by (onward_of t f r)) e

  fewer : alarm_at t f r ≡ 0 → (run_after t f.at r).blocks_left < r.blocks_left
  unfolding run_after
  fewer e = omega (arith, some_left t.tape t.settings t.first f r.blocks_left (block_on t.tape f.at) (free_asked e))

  by_alarm : (a : ℕ) → alarm_at t f r ≡ a → Lower (done_at t f r).onward r (done_at t f r).run
  unfolding done_at
  by_alarm zero e = rw (eq-eqb (alarm_at t f r) 0 e) (lower_of (onward_of t f r) r (run_after t f.at r) (fewer e))
  by_alarm (suc a) e = rw (ne_eqb (alarm_at t f r) 0 (λ z. omega (arith, sym e ∙ z))) (omega arith)

  pub done_lower : Lower (done_at t f r).onward r (done_at t f r).run
  done_lower = by_alarm (alarm_at t f r) refl

pub lower : (t : Task) (f : Frame) (r : Run) → Lower (taken_from t f r).done.onward r (taken_from t f r).done.run
unfolding taken_from taken_by
lower t f r = go (first_block (lines t.tape f.at))
  where
    go : (g : Found) → Lower (taken_by t f r g).done.onward r (taken_by t f r g).done.run
    go (At p) = done_lower t (onto f p) r
    go Nowhere = omega arith
