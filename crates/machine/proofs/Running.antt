-- What one block does: a refused one leaves all as it was, one that is done has the room that it needs, and what is known between two blocks is known after it.
-- Assumes nothing.
use mathlib.Core.Path.{◌≡◌, refl, sym, ap, ◌∙◌, subst}
use mathlib.Core.Bool.{Bool, true, false, cond, not, ◌&&◌, ◌||◌}
use mathlib.Core.List.{List}
use Prim.Native.Nat.{ℕ, ◌+◌, ◌-◌, ◌≤◌}
use native.Mathlib.Omega.{arith}
use lib.Dec.{T, eqb}
use lib.IntN.{ℤ}
use lib.ListN.{length}
use borrow.Author.Tests.{eq-eqb, ne_eqb, eqb-true, eqb-false}
use Rattle.octets.specs.Bytes.{laid}
use Rattle.whole.specs.Position.{in_table}
use Rattle.whole.proofs.Integers.{whole, lt_false}
use Rattle.octets.proofs.Laying.{laid_nil}
use Rattle.whole.proofs.Positions.{in_range, in_table_lem}
use Rattle.moves.specs.Form.{record_start, row_from}
use Rattle.moves.specs.declared.Origin.{Origin}
use Rattle.moves.proofs.Rows.{from_none}
use Rattle.block.specs.declared.Block.{Block}
use Rattle.settings.specs.Known.{SpanIn, InRange}
use Rattle.settings.specs.Limits.{outside, outside_span}
use Rattle.settings.specs.declared.Settings.{Settings}
use Rattle.settings.specs.declared.Span.{Span}
use Rattle.straying.proofs.Limits.{end_inside}
use Rattle.axes.proofs.Reaching.{inside}
use Rattle.state.specs.Modal.{settled}
use Rattle.state.specs.Known.{Sound}
use Rattle.targets.proofs.Ranges.{settled_sound}
use Rattle.state.specs.declared.State.{State}
use Rattle.asking.specs.Judge.{asks_of}
use Rattle.deeds.specs.declared.Deed.{Deed}
use Rattle.deeds.specs.declared.Deed.TheVariants as deed
use Rattle.writing.specs.Writes.{moved, done, writes}
use Rattle.verdicts.specs.Verdicts.{deed_in, asks_in, alarm_in, going_of}
use Rattle.verdicts.specs.declared.Going.{Going}
use Rattle.verdicts.proofs.Passing.{all_passed, room_in}
use Rattle.machine.specs.declared.BlockDone.{BlockDone}
use Rattle.machine.specs.declared.BlockOutcome.TheVariants.{Refused, Done}
use Rattle.machine.specs.Blocks.{done_records, done_state, block_records, outcome_of}

neither : (a b : Bool) → a || b ≡ false → (a ≡ false) × (b ≡ false)
neither true b e = absurd (subst T e tt)
neither false b e = (refl, e)

module _ (table : List ℤ) (set : Settings) (s : State) (b : Block) where
  -- ---- a refused block
  module _ (room k : ℕ) (some : alarm_in table set s b (room - k) ≡ 0 → ⊥) where
    is_refused : eqb (alarm_in table set s b (room - k)) 0 ≡ false
    is_refused = ne_eqb (alarm_in table set s b (room - k)) 0 some

    pub refused : {a : ℕ} → a ≡ alarm_in table set s b (room - k) → Refused a ≡ outcome_of table set s b room k
    unfolding outcome_of
    refused is = ap Refused is ∙ rw is_refused refl

    pub nothing_written : (o : Origin) (l : List ℕ) → l ≡ laid l (record_start k) (row_from o (block_records table set s b (room - k)))
    unfolding block_records
    nothing_written o l = sym (ap (laid l (record_start k)) (from_none o) ∙ laid_nil l (record_start k)) ∙ rw is_refused refl

  -- ---- a block that is done
  module _ (left : ℕ) (well : alarm_in table set s b left ≡ 0) where
    -- it has the room for its records
    pub done_few : length (done_records table set s b) ≤ left
    unfolding done_records
    done_few = room_in table set s b left well

    pub done_recorded : block_records table set s b left ≡ done_records table set s b
    unfolding block_records
    done_recorded = rw (eq-eqb (alarm_in table set s b left) 0 well) refl

    -- and it leaves the axes within the limits, where they stood there before it
    stands_done : (u : State) → outside set.limits u.x u.z ≡ false → (d : Deed) → (asks_of d set.limits).outside ≡ false → outside set.limits (done u d).x (done u d).z ≡ false
    unfolding done moved asks_of
    stands_done u h deed.Nothing e = h
    stands_done u h deed.Nowhere e = h
    stands_done u h (deed.Dwell r) e = h
    stands_done u h (deed.Straight m) e = e
    stands_done u h (deed.Round q) e = end_inside set.limits q.arc e
    stands_done u h (deed.Cycle c) e = h

    pub stands_inside : outside set.limits s.x s.z ≡ false → outside set.limits (done_state table set s b).x (done_state table set s b).z ≡ false
    unfolding settled done_state asks_in
    stands_inside h = stands_done (settled s b) h (deed_in table set s b) (all_passed table set s b left well).inside

    -- what is known between two blocks is known after it
    module _ (r : InRange set) (h : Sound s) where
      in_span : (l : Span) → SpanIn l → (v : ℤ) → outside_span l v ≡ false → in_table v ≡ true
      in_span l i v e =
          let n = inside l v e in
          let low = in_range l.lowest i.lowest in
          let high = in_range l.highest i.highest in
          in_table_lem v (record { low = omega (whole, lt_false v l.lowest n.low); high = omega (whole, lt_false l.highest v n.high) })

      sound_at : (u : State) → Sound u → (due : Bool) (x z : ℤ) → outside set.limits x z ≡ false → Sound (moved u due x z)
      unfolding outside moved
      sound_at u k due x z e =
          let n = neither (outside_span set.limits.x x) (outside_span set.limits.z z) e in
          record { kept = k.kept; numbers = record { shift_group3 = k.numbers.shift_group3; shift_group5 = k.numbers.shift_group5; correction = k.numbers.correction }; x = in_span set.limits.x r.x x n.0; z = in_span set.limits.z r.z z n.1 }

      sound_done : (u : State) → Sound u → (d : Deed) → (asks_of d set.limits).outside ≡ false → Sound (done u d)
      unfolding done asks_of
      sound_done u k deed.Nothing e = k
      sound_done u k deed.Nowhere e = k
      sound_done u k (deed.Dwell r) e = k
      sound_done u k (deed.Straight m) e = sound_at u k (u.rapid_due && not m.rapid) m.goes.x m.goes.z e
      sound_done u k (deed.Round q) e = sound_at u k u.rapid_due q.arc.end.x q.arc.end.z (end_inside set.limits q.arc e)
      sound_done u k (deed.Cycle c) e = k

      pub sound_after : Sound (done_state table set s b)
      unfolding done_state asks_in
      sound_after = sound_done (settled s b) (settled_sound s b h) (deed_in table set s b) (all_passed table set s b left well).inside

  -- ---- of what the verdict gave
  module _ {g : Going} (is : g ≡ going_of table set s b) where
    pub going_records : writes g.settled b g.deed ≡ done_records table set s b
    unfolding going_of done_records
    going_records = λ i. writes (is i).settled b (is i).deed

    pub going_state : done g.settled g.deed ≡ done_state table set s b
    unfolding going_of done_state
    going_state = λ i. done (is i).settled (is i).deed

  -- what the code makes of it
  module _ (room k : ℕ) (well : alarm_in table set s b (room - k) ≡ 0) where
    pub went_well : {t : State} {m : ℕ} → t ≡ done_state table set s b → m ≡ k + length (done_records table set s b)
        → Done (record { state = t; count = m }) ≡ outcome_of table set s b room k
    unfolding outcome_of
    went_well et em = (λ i. Done (record { state = et i; count = em i })) ∙ rw (eq-eqb (alarm_in table set s b (room - k)) 0 well) refl

  -- ---- an outcome, read the other way
  module _ (room k : ℕ) where
    pub record WasRefused (a : ℕ) : Type 0 where
      pub some : alarm_in table set s b (room - k) ≡ 0 → ⊥
      pub is : a ≡ alarm_in table set s b (room - k)

    pub was_refused : {a : ℕ} → outcome_of table set s b room k ≡ Refused a → WasRefused a
    unfolding outcome_of
    was_refused {a} e = go (eqb (alarm_in table set s b (room - k)) 0) refl e
      where
        go : (t : Bool) → eqb (alarm_in table set s b (room - k)) 0 ≡ t
            → cond t (Done (record { state = done_state table set s b; count = k + length (done_records table set s b) })) (Refused (alarm_in table set s b (room - k))) ≡ Refused a → WasRefused a
        go true h q = let z : ◌≡◌ {A = ℕ} 0 1 = cc in absurd (omega arith)
        go false h q = record { some = eqb-false (alarm_in table set s b (room - k)) 0 h; is = cc }

    pub record WasDone (d : BlockDone) : Type 0 where
      pub well : alarm_in table set s b (room - k) ≡ 0
      pub state : d.state ≡ done_state table set s b
      pub count : d.count ≡ k + length (done_records table set s b)

    pub was_done : {d : BlockDone} → outcome_of table set s b room k ≡ Done d → WasDone d
    unfolding outcome_of
    was_done {d} e = go (eqb (alarm_in table set s b (room - k)) 0) refl e
      where
        go : (t : Bool) → eqb (alarm_in table set s b (room - k)) 0 ≡ t
            → cond t (Done (record { state = done_state table set s b; count = k + length (done_records table set s b) })) (Refused (alarm_in table set s b (room - k))) ≡ Done d → WasDone d
        go true h q =
            let same : record { state = done_state table set s b; count = k + length (done_records table set s b) } ≡ d = cc in
            record { well = eqb-true (alarm_in table set s b (room - k)) 0 h; state = sym (ap (λ (x : BlockDone). x.state) same); count = sym (ap (λ (x : BlockDone). x.count) same) }
        go false h q = let z : ◌≡◌ {A = ℕ} 0 1 = cc in absurd (omega arith)
