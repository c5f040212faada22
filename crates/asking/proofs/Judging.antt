-- The laws of what the alarms ask of a deed.
-- Assumes nothing.
use mathlib.Core.Path.{◌≡◌, refl, sym, ap, ◌∙◌, subst}
use mathlib.Core.Bool.{Bool, true, false, cond, ◌&&◌}
use Prim.Native.Nat.{ℕ, zero, suc, ◌+◌, ◌<◌, ◌≤◌}
use native.Mathlib.Omega.{arith}
use lib.Dec.{T, ltb}
use lib.ListN.{length}
use borrow.Author.Tests.{ltb-false, lt-ltb}
use Rattle.alarms.specs.Numbers.{no_motion, not_rapid, bad_feed, outside_limits, bad_lengths, no_room}
use Rattle.moves.specs.Form.{AllFitting}
use Rattle.arcs.proofs.Ranges.{fits_three, arc_fitting}
use Rattle.axes.specs.Limits.{any_outside}
use Rattle.settings.specs.declared.Limits.{Limits}
use Rattle.cycles.specs.Cycle as cycle
use Rattle.cycles.specs.declared.Cycle as cycles
use Rattle.cycles.proofs.Lawful.{lawful}
use Rattle.deeds.specs.declared.Deed.{Deed}
use Rattle.deeds.specs.declared.Deed.TheVariants.{Nothing, Nowhere, Dwell, Straight, Round, Cycle}
use Rattle.asking.specs.declared.Asked.{Asked}
use Rattle.asking.specs.declared.Asks.{Asks}
use Rattle.asking.specs.Judge.{refused, of_records, of_cycle, asks_of, feed_wrong, room_wrong, alarm_of, doing}
use Rattle.deeds.specs.Known.{Right, Known}

-- ---- a deed that was matched on
pub asks_by : {d e : Deed} (l : Limits) → d ≡ e → asks_of e l ≡ asks_of d l
asks_by l e = ap (λ (d : Deed). asks_of d l) (sym e)

pub count_by : {q r : Asks} → q ≡ r → q.count ≡ r.count
count_by e = ap (λ (q : Asks). q.count) e

-- ---- a cycle, of what the code has worked out
module _ (c : cycles.Cycle) (l : Limits) where
  pub cycle_wrong : cycle.wrong c ≡ true → {n : ℕ} → n ≡ cycle.least_feed c
      → record { nowhere = false; waits = true; least = n; wrong = true; outside = false; count = 0 } ≡ of_cycle c l
  cycle_wrong h f = (λ i. record { nowhere = false; waits = true; least = f i; wrong = true; outside = false; count = 0 }) ∙ rw h refl

  pub cycle_right : cycle.wrong c ≡ false → {n m : ℕ} {t : Bool} → n ≡ cycle.least_feed c → t ≡ any_outside l (cycle.records c) → m ≡ length (cycle.records c)
      → record { nowhere = false; waits = true; least = n; wrong = false; outside = t; count = m } ≡ of_cycle c l
  cycle_right h f o k = (λ i. record { nowhere = false; waits = true; least = f i; wrong = false; outside = o i; count = k i }) ∙ rw h refl

-- ---- a deed without an alarm passed every test
passes : (t : Bool) (n rest : ℕ) → 0 < n → cond t n rest ≡ 0 → (t ≡ false) × (rest ≡ 0)
passes true n rest h e = absurd (omega (arith, h, e))
passes false n rest h e = (refl, e)

enough : (n left : ℕ) → (ltb 0 n && ltb left n) ≡ false → n ≤ left
enough zero left e = omega arith
enough (suc n) left e =
    let some : true ≡ ltb 0 (suc n) = sym (lt-ltb 0 (suc n) (omega arith)) in
    ltb-false left (suc n) (ap (λ (t : Bool). t && ltb left (suc n)) some ∙ e)

-- what the writers ask for: its lengths, its places and the room for all records of the block
pub record Passed (q : Asks) (a : Asked) : Type 0 where
  pub lengths : q.wrong ≡ false
  pub inside : q.outside ≡ false
  pub room : q.count + a.other_count ≤ a.room_left

pub passed : (q : Asks) (a : Asked) → alarm_of q a ≡ 0 → Passed q a
unfolding alarm_of
passed q a e =
    let h15 = passes q.nowhere no_motion _ (omega arith) e in
    let h16 = passes (a.rapid_due && q.waits) not_rapid _ (omega arith) h15.1 in
    let h17 = passes (feed_wrong q.least a.f) bad_feed _ (omega arith) h16.1 in
    let h19 = passes q.wrong bad_lengths _ (omega arith) h17.1 in
    let h18 = passes q.outside outside_limits _ (omega arith) h19.1 in
    let h20 = passes (room_wrong q.count a) no_room 0 (omega arith) h18.1 in
    record { lengths = h19.0; inside = h18.0; room = enough (q.count + a.other_count) a.room_left h20.0 }

-- ---- what the asks of a deed tell of its records
-- the lengths of a cycle are right where its asks say so
right : (c : cycles.Cycle) (l : Limits) → (of_cycle c l).wrong ≡ false → cycle.wrong c ≡ false
right c l e = go (cycle.wrong c) e
  where
    go : (t : Bool) → (cond {A = Asks} t (refused c) (of_records c l)).wrong ≡ false → t ≡ false
    go true h = absurd (subst T h tt)
    go false h = refl

pub all_right : (d : Deed) (l : Limits) → (asks_of d l).wrong ≡ false → Right d
unfolding asks_of
all_right Nothing l e = tt
all_right Nowhere l e = tt
all_right (Dwell r) l e = tt
all_right (Straight m) l e = tt
all_right (Round r) l e = e
all_right (Cycle c) l e = right c l e

-- they are as many as was counted, and their numbers fit
pub counted : (d : Deed) (l : Limits) → Right d → (asks_of d l).count ≡ length (doing d)
unfolding asks_of doing
counted Nothing l e = refl
counted Nowhere l e = refl
counted (Dwell r) l e = refl
counted (Straight m) l e = refl
counted (Round r) l e = refl
counted (Cycle c) l e = rw e refl

pub doing_fitting : (d : Deed) → Right d → Known d → AllFitting (doing d)
unfolding doing
doing_fitting Nothing e k = tt
doing_fitting Nowhere e k = tt
doing_fitting (Dwell r) e k = (k, tt)
doing_fitting (Straight m) e k = (k, tt)
doing_fitting (Round r) e k = arc_fitting r.arc r.f r.g95 k.end_x k.end_z (fits_three k.centre_x) (fits_three k.centre_z) k.f
doing_fitting (Cycle c) e k = (lawful c e k).fitting
