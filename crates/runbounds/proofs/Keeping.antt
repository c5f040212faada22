-- Tests that tell whether a run is within its bounds; and such a run fits into the words.
-- Assumes nothing.
use mathlib.Core.Path.{◌≡◌, refl}
use mathlib.Core.Bool.{Bool, true, false, ◌&&◌}
use mathlib.Core.List.{List, [], ◌∷◌}
use Prim.Native.Nat.{ℕ, zero, suc, ◌≤◌, ◌<◌}
use native.Mathlib.Omega.{arith}
use lib.Dec.{leb}
use lib.ListN.{length, get_or}
use Rattle.std.specs.List.{list_all}
use Rattle.telling.proofs.Tells.{Tells, never, tells_no, tells_yes, tells_at_most}
use Rattle.moves.specs.Form.{record_limit}
use Rattle.reading.specs.Reading.{longest_tape}
use Rattle.ahead.specs.Ahead.{most_calls}
use Rattle.runwords.specs.of_runners.Runs.{blocks_in_all}
use Rattle.runwords.specs.of_answers.declared.Answer.TheVariants.{Complete, Alarm}
use Rattle.runwords.specs.of_resuming.declared.Waiting.{Waiting}
use Rattle.runwords.specs.of_paused.declared.Phase.{Phase}
use Rattle.runwords.specs.of_paused.declared.Phase.TheVariants.{Running, Over}
use Rattle.runwords.specs.of_paused.declared.Going.{Going}
use Rattle.runwords.specs.of_paused.Kept.{nobody, Waits, Answers, Kept}
use Rattle.runwords.specs.Laid.{SmallPhase, Small}

both : {a b : Bool} {P Q : Type 0} → Tells a P → Tells b Q → Tells (a && b) (P × Q)
both {a = true} p q = ((λ e. (p.0 refl, q.0 e)), (λ h. q.1 h.1))
both {a = false} p q = tells_no (λ h. never (p.1 h.0))

at_most : (n most : ℕ) → Tells (leb n most) (n ≤ most)
at_most n most = tells_at_most n most (λ h. h) (λ h. h)

-- ---- the programs that wait, n of them
abbrev pub WaitTo : ℕ → List Waiting → ℕ → Type 0
WaitTo end ws n = (k : ℕ) → k < n → Waits end (get_or ws k nobody)

-- what is asked of one of them, and of all
abbrev pub waits : ℕ → Waiting → Bool
waits end w = leb w.program.line end && leb w.after end

one_waits : (end : ℕ) (w : Waiting) → Tells (waits end w) (Waits end w)
one_waits end w =
    let t = both (at_most w.program.line end) (at_most w.after end) in
    ((λ e. record { line = (t.0 e).0; after = (t.0 e).1 }), (λ h. t.1 (h.line, h.after)))

pub all_wait : (end : ℕ) (ws : List Waiting) → Tells (list_all (waits end) ws) (WaitTo end ws (length ws))
all_wait end [] = tells_yes (λ k h. absurd (omega (arith, h)))
all_wait end (w ∷ ws) =
    let t = both (one_waits end w) (all_wait end ws) in
    ((λ e. first (t.0 e)), (λ h. t.1 (h 0 (omega arith), λ k l. h (suc k) (omega (arith, l)))))
  where
    first : Waits end w × WaitTo end ws (length ws) → WaitTo end (w ∷ ws) (suc (length ws))
    first p zero l = p.0
    first p (suc k) l = p.1 k (omega (arith, l))

-- ---- the answer
pub tells_complete : (count : ℕ) → Tells (leb count longest_tape) (Answers (Over (Complete count)))
tells_complete count = tells_at_most count longest_tape (λ h. record { place = omega arith; count = h }) (λ a. a.count)

pub tells_alarm : (alarm place count : ℕ) → Tells (leb place longest_tape && leb count longest_tape) (Answers (Over (Alarm alarm place count)))
tells_alarm alarm place count =
    let t = both (at_most place longest_tape) (at_most count longest_tape) in
    ((λ e. record { place = (t.0 e).0; count = (t.0 e).1 }), (λ a. t.1 (a.place, a.count)))

-- ---- all of it
pub tells_kept : {g : Going} {wait answer : Bool} → Tells wait ((length g.waiting ≡ most_calls) × WaitTo g.end g.waiting most_calls) → Tells answer (Answers g.phase)
    → Tells ((((((((leb g.frame.at g.end && leb g.frame.program.line g.end) && leb g.frame.calls_left most_calls) && leb g.run.blocks_left blocks_in_all)
    && leb g.run.count record_limit) && leb g.end longest_tape) && leb g.filled longest_tape) && wait) && answer) (Kept g)
tells_kept {g} wait answer =
    let stands = both (both (at_most g.frame.at g.end) (at_most g.frame.program.line g.end)) (at_most g.frame.calls_left most_calls) in
    let went = both (both stands (at_most g.run.blocks_left blocks_in_all)) (at_most g.run.count record_limit) in
    let all = both (both (both (both went (at_most g.end longest_tape)) (at_most g.filled longest_tape)) wait) answer in (
      λ e.
          let ((((((((here, line), calls), blocks), count), tape), filled), (size, waits)), answer) = all.0 e in
          record { here = here; line = line; calls = calls; size = size; waits = waits; blocks = blocks; count = count; tape = tape; filled = filled; answer = answer },
      λ k. all.1 ((((((((k.here, k.line), k.calls), k.blocks), k.count), k.tape), k.filled), (k.size, k.waits)), k.answer),
    )

-- ---- what is within its bounds fits into the words
phase_small : (p : Phase) → Answers p → SmallPhase p
phase_small Running h = tt
phase_small (Over (Complete count)) h = omega arith
phase_small (Over (Alarm alarm place count)) h = (omega arith, omega arith)

pub kept_small : {g : Going} → Kept g → Small g
kept_small {g} k =
    record {
      phase = phase_small g.phase k.answer;
      end = omega arith;
      filled = omega arith;
      line = omega arith;
      at = omega arith;
      count = omega arith;
      waiting = λ n h. let one = k.waits n h in record { line = omega arith; after = omega arith };
    }
