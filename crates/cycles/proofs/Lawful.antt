-- THE LAWS OF EVERY CYCLE, proved once for each and used by field: whoever runs a block never goes by the kind of its cycle.
-- Assumes nothing.
use mathlib.Core.Path.{◌≡◌, sym, subst}
use mathlib.Core.Bool.{Bool, true, false, cond}
use Prim.Native.Nat.{ℕ, ◌+◌, ◌*◌, ◌<◌, ◌≤◌}
use native.Mathlib.Nat.{mul-le-mul}
use native.Mathlib.Omega.{arith}
use lib.Dec.{eqb}
use lib.ListN.{length}
use Rattle.moves.specs.Form.{AllFitting}
use Rattle.turning.specs.declared.Turning as turns
use Rattle.turning.specs.Turning as turn
use Rattle.turning.proofs.Asked.{long_enough}
use Rattle.turning.proofs.Counts as turn_laws
use Rattle.threading.specs.declared.Thread.{Thread}
use Rattle.threading.specs.Threading as thread
use Rattle.threading.proofs.Counts as thread_laws
use Rattle.grooving.specs.declared.Groove.{Groove}
use Rattle.grooving.specs.Grooving as groove
use Rattle.grooving.proofs.Counts as groove_laws
use Rattle.grooving.proofs.Rows.{few_steps, few_plunge}
use Rattle.drilling.specs.declared.Bore.{Bore}
use Rattle.drilling.specs.Drilling as drill
use Rattle.drilling.proofs.Asked.{stroke_fits}
use Rattle.drilling.proofs.Counts as drill_laws
use Rattle.drilling.proofs.Each.{Stands, drilling_fitting}
use Rattle.cycles.specs.declared.Cycle.{Cycle}
use Rattle.cycles.specs.declared.Cycle.TheVariants.{Turning, Threading, Grooving, Drilling}
use Rattle.cycles.specs.Cycle.{wrong, records}
use Rattle.cycles.specs.Known.{Known}

-- what holds of every such cycle that is not wrong
pub record Lawful (c : Cycle) : Type 0 where
  -- there are so few records that others can be added in 64 bits
  pub few : length (records c) < 1_000_000_000_000_000_000
  -- their numbers fit their places in the list
  pub fitting : AllFitting (records c)

-- ---- a turning cycle
turning_lawful : (c : turns.Turning) → turn.too_short c ≡ false → Known (Turning c) → Lawful (Turning c)
turning_lawful c e k =
    let long = long_enough c e in
    let infeed : turn_laws.Stands c.infeed = record { start = k.0.0; target = k.0.1 } in
    let path : turn_laws.Stands c.path = record { start = k.1.0; target = k.1.1 } in record {
      few = omega (arith, turn_laws.few_turning c infeed long.0, turn_laws.turning_length c long.0);
      fitting = turn_laws.turning_fitting c infeed path k.2 long.0 long.1;
    }

-- ---- a thread
thread_lawful : (t : Thread) → thread.wrong t ≡ false → Known (Threading t) → Lawful (Threading t)
thread_lawful t e k =
    let infeed : thread_laws.Stands t.infeed = record { start = k.0.0; target = k.0.1 } in
    let path : thread_laws.Stands t.path = record { start = k.1.0; target = k.1.1 } in record {
      few = omega (arith, thread_laws.few_threading t k.3 e, thread_laws.threading_length t e);
      fitting = thread_laws.threading_fitting t infeed path k.2 k.3 e;
    }

-- ---- a groove
either : (t : Bool) (x y n : ℕ) → x < n → y < n → cond t x y < n
either true x y n h k = h
either false x y n h k = k

few_groove : (g : Groove) → groove.wrong g ≡ false → Known (Grooving g) → groove.record_count g < 1_000_000_000_000_000_000
unfolding groove.record_count
few_groove g e n =
    let s = groove.step_count g in
    let p = groove.plunge_count g in
    let h : s ≤ 100_000_000 = omega (arith, few_steps g e, n.5) in
    let k : p + 1 ≤ 1_000_000_000 = omega (arith, few_plunge g e, n.4) in
    let m : s * (p + 1) ≤ 100_000_000 * 1_000_000_000 = mul-le-mul h k in
    either (eqb s 0) p (p + (s * (p + 1) + 1)) 1_000_000_000_000_000_000 (omega arith) (omega arith)

groove_lawful : (g : Groove) → groove.wrong g ≡ false → Known (Grooving g) → Lawful (Grooving g)
groove_lawful g e k =
    let depth : groove_laws.Stands g.depth = record { start = k.0.0; target = k.0.1 } in
    let width : groove_laws.Stands g.width = record { start = k.1.0; target = k.1.1 } in record {
      few = subst (λ (n : ℕ). n < 1_000_000_000_000_000_000) (sym (groove_laws.grooving_length g e)) (few_groove g e k);
      fitting = groove_laws.grooving_fitting g depth width k.2 k.3 e;
    }

-- ---- a bore
bore_lawful : (b : Bore) → drill.wrong b ≡ false → Known (Drilling b) → Lawful (Drilling b)
bore_lawful b e k =
    let stands : Stands b = record { x = k.0; start = k.1.0; target = k.1.1; f = k.2; dwell = k.3 } in record {
      few = omega (arith, drill_laws.drilling_length b e, drill_laws.few_records b e, stroke_fits b k.1.0 k.1.1);
      fitting = drilling_fitting b stands e;
    }

-- ---- THE LAW, with a clause for each cycle
pub lawful : (c : Cycle) → wrong c ≡ false → Known c → Lawful c
lawful (Turning c) e k = turning_lawful c e k
lawful (Threading t) e k = thread_lawful t e k
lawful (Grooving g) e k = groove_lawful g e k
lawful (Drilling b) e k = bore_lawful b e k
