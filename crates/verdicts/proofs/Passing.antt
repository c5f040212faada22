-- A block that is not refused: its alarm is 0, its lengths are right, and its records have room.
-- Assumes nothing.
use mathlib.Core.Path.{◌≡◌, refl}
use mathlib.Core.Bool.{Bool, true, false, cond}
use mathlib.Core.List.{List}
use Prim.Native.Nat.{ℕ, ◌≤◌}
use native.Mathlib.Omega.{arith}
use lib.Dec.{eqb}
use lib.IntN.{ℤ}
use lib.ListN.{length}
use borrow.Author.Tests.{eqb-true, eqb-false, eq-eqb, ne_eqb}
use Rattle.block.specs.declared.Block.{Block}
use Rattle.settings.specs.declared.Settings.{Settings}
use Rattle.state.specs.Modal.{settled}
use Rattle.state.specs.declared.State.{State}
use Rattle.asking.specs.Judge.{doing}
use Rattle.deeds.specs.Known.{Right}
use Rattle.asking.proofs.Judging.{Passed, passed, all_right, counted}
use Rattle.writing.specs.Writes.{writes}
use Rattle.writing.proofs.Chain.{writes_length}
use Rattle.verdicts.specs.declared.Going.{Going}
use Rattle.verdicts.specs.declared.Verdict.TheVariants.{Refused, Goes}
use Rattle.verdicts.specs.Verdicts.{deed_in, asks_in, asked_in, alarm_in, going_of, verdict_of}

module _ (table : List ℤ) (set : Settings) (s : State) (b : Block) (room : ℕ) where
  -- ---- the verdict, and the alarm that it goes by
  pub verdict_goes : alarm_in table set s b room ≡ 0 → verdict_of table set s b room ≡ Goes (going_of table set s b)
  unfolding verdict_of
  verdict_goes well = rw (eq-eqb (alarm_in table set s b room) 0 well) refl

  pub verdict_refused : (alarm_in table set s b room ≡ 0 → ⊥) → verdict_of table set s b room ≡ Refused (alarm_in table set s b room)
  unfolding verdict_of
  verdict_refused some = rw (ne_eqb (alarm_in table set s b room) 0 some) refl

  -- read the other way
  pub record Went (g : Going) : Type 0 where
    pub well : alarm_in table set s b room ≡ 0
    pub is : g ≡ going_of table set s b

  pub went : (g : Going) → verdict_of table set s b room ≡ Goes g → Went g
  unfolding verdict_of
  went g e = go (eqb (alarm_in table set s b room) 0) refl e
    where
      go : (t : Bool) → eqb (alarm_in table set s b room) 0 ≡ t → cond t (Goes (going_of table set s b)) (Refused (alarm_in table set s b room)) ≡ Goes g → Went g
      go true h q = record { well = eqb-true (alarm_in table set s b room) 0 h; is = cc }
      go false h q = let z : ◌≡◌ {A = ℕ} 0 1 = cc in absurd (omega arith)

  pub record WasRefused (a : ℕ) : Type 0 where
    pub some : alarm_in table set s b room ≡ 0 → ⊥
    pub is : a ≡ alarm_in table set s b room

  pub was_refused : (a : ℕ) → verdict_of table set s b room ≡ Refused a → WasRefused a
  unfolding verdict_of
  was_refused a e = go (eqb (alarm_in table set s b room) 0) refl e
    where
      go : (t : Bool) → eqb (alarm_in table set s b room) 0 ≡ t → cond t (Goes (going_of table set s b)) (Refused (alarm_in table set s b room)) ≡ Refused a → WasRefused a
      go true h q = let z : ◌≡◌ {A = ℕ} 0 1 = cc in absurd (omega arith)
      go false h q = record { some = eqb-false (alarm_in table set s b room) 0 h; is = cc }

  -- ---- a block that is not refused
  module _ (well : alarm_in table set s b room ≡ 0) where
    pub all_passed : Passed (asks_in table set s b) (asked_in s b room)
    unfolding alarm_in
    all_passed = passed (asks_in table set s b) (asked_in s b room) well

    pub right_in : Right (deed_in table set s b)
    unfolding asks_in
    right_in = all_right (deed_in table set s b) set.limits all_passed.lengths

    pub counted_in : (asks_in table set s b).count ≡ length (doing (deed_in table set s b))
    unfolding asks_in
    counted_in = counted (deed_in table set s b) set.limits right_in

    -- it has the room for its records
    pub room_in : length (writes (settled s b) b (deed_in table set s b)) ≤ room
    unfolding asked_in
    room_in = omega (arith, writes_length (settled s b) b (deed_in table set s b), counted_in, all_passed.room)
