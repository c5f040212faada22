-- What was laid is read back: the words of a run are that run.
-- Assumes nothing.
use mathlib.Core.Path.{◌≡◌, refl, ap, ◌∙◌}
use mathlib.Core.Bool.{Bool, true, false}
use mathlib.Core.List.{List, [], ◌∷◌, ◌++◌}
use Prim.Native.Nat.{ℕ, ◌+◌}
use native.Mathlib.Omega.{arith}
use lib.ListN.{length, drop, length-append}
use Rattle.octets.specs.Bytes.{laid}
use Rattle.codes.specs.declared.Motion.TheVariants as motion
use Rattle.acts.specs.declared.Kept.{Kept}
use Rattle.acts.specs.declared.Kept.TheVariants.{Nothing, Of}
use Rattle.ahead.specs.Ahead.{most_calls}
use Rattle.runwords.specs.of_answers.declared.Answer.TheVariants.{Complete, Alarm}
use Rattle.runwords.specs.of_resuming.declared.Waiting.{Waiting}
use Rattle.runwords.specs.of_paused.declared.Phase.{Phase}
use Rattle.runwords.specs.of_paused.declared.Phase.TheVariants.{Running, Over}
use Rattle.runwords.specs.of_paused.declared.Going.{Going}
use Rattle.runwords.specs.Taken.{going_words, complete, stopped, phase_by, phase_of, end_from, frame_from, motion_of, is_yes, run_from, waiting_from, waiting_in, going_of}
use Rattle.runwords.specs.Laid.{phase_words, frame_words, kept_tag, yes_word, run_words, ReadBack, all_words, Put}
use Rattle.runlaid.proofs.Putting.{joined}

motion_back : (kept : Kept) → motion_of (kept_tag kept) ≡ kept
unfolding motion_of
motion_back Nothing = refl
motion_back (Of motion.Rapid) = refl
motion_back (Of motion.Feed) = refl
motion_back (Of motion.Clockwise) = refl
motion_back (Of motion.Counterclockwise) = refl
motion_back (Of motion.Thread) = refl
motion_back (Of motion.Dwell) = refl
motion_back (Of motion.Turning) = refl
motion_back (Of motion.Threading) = refl
motion_back (Of motion.Grooving) = refl
motion_back (Of motion.ChipBreaking) = refl
motion_back (Of motion.Redrawing) = refl

yes_back : (b : Bool) → is_yes (yes_word b) ≡ b
yes_back true = refl
yes_back false = refl

-- the ten programs that may wait, read from the words that are left
abbrev ten : List ℕ → List Waiting
ten l =
    waiting_in l 0 ∷ waiting_in l 4 ∷ waiting_in l 8 ∷ waiting_in l 12 ∷ waiting_in l 16 ∷ waiting_in l 20 ∷ waiting_in l 24 ∷ waiting_in l 28 ∷ waiting_in l 32 ∷ waiting_in l 36 ∷ []

ten_back : (ws : List Waiting) (rest : List ℕ) → length ws ≡ most_calls → ten (all_words ws ++ rest) ≡ ws
ten_back [] rest h = absurd (omega arith)
ten_back (p0 ∷ []) rest h = absurd (omega arith)
ten_back (p0 ∷ (p1 ∷ [])) rest h = absurd (omega arith)
ten_back (p0 ∷ (p1 ∷ (p2 ∷ []))) rest h = absurd (omega arith)
ten_back (p0 ∷ (p1 ∷ (p2 ∷ (p3 ∷ [])))) rest h = absurd (omega arith)
ten_back (p0 ∷ (p1 ∷ (p2 ∷ (p3 ∷ (p4 ∷ []))))) rest h = absurd (omega arith)
ten_back (p0 ∷ (p1 ∷ (p2 ∷ (p3 ∷ (p4 ∷ (p5 ∷ [])))))) rest h = absurd (omega arith)
ten_back (p0 ∷ (p1 ∷ (p2 ∷ (p3 ∷ (p4 ∷ (p5 ∷ (p6 ∷ []))))))) rest h = absurd (omega arith)
ten_back (p0 ∷ (p1 ∷ (p2 ∷ (p3 ∷ (p4 ∷ (p5 ∷ (p6 ∷ (p7 ∷ [])))))))) rest h = absurd (omega arith)
ten_back (p0 ∷ (p1 ∷ (p2 ∷ (p3 ∷ (p4 ∷ (p5 ∷ (p6 ∷ (p7 ∷ (p8 ∷ []))))))))) rest h = absurd (omega arith)
ten_back (p0 ∷ (p1 ∷ (p2 ∷ (p3 ∷ (p4 ∷ (p5 ∷ (p6 ∷ (p7 ∷ (p8 ∷ (p9 ∷ [])))))))))) rest h = refl
ten_back (p0 ∷ (p1 ∷ (p2 ∷ (p3 ∷ (p4 ∷ (p5 ∷ (p6 ∷ (p7 ∷ (p8 ∷ (p9 ∷ (p10 ∷ ws))))))))))) rest h = absurd (omega arith)

-- all parts, one behind the other
abbrev pub parts_of : Phase → Going → List ℕ
parts_of p g = (((phase_words p ++ (g.end ∷ g.filled ∷ [])) ++ frame_words g.frame) ++ run_words g.run) ++ all_words g.waiting

module _ (g : Going) (rest : List ℕ) (many : length g.waiting ≡ most_calls) (run : ReadBack g.run) where
  -- behind the four words of what the run has come to
  behind : (tag alarm place count : ℕ) {p : Phase} → phase_by tag alarm place count ≡ p
      → going_of (tag ∷ alarm ∷ place ∷ count ∷ g.end ∷ g.filled ∷ ((frame_words g.frame ++ (run_words g.run ++ (all_words g.waiting ++ rest)))))
      ≡ record { frame = g.frame; run = g.run; waiting = g.waiting; phase = p; end = g.end; filled = g.filled }
  unfolding going_of
  behind tag alarm place count is =
      let s = g.run.state in
      let motion = motion_back s.motion in
      let g96 = yes_back s.g96 in
      let g95 = yes_back s.g95 in
      let due = yes_back s.rapid_due in
      let waiting = ten_back g.waiting rest many in
      λ i.
      record {
        frame = g.frame;
        run = record {
          state = record {
            motion = motion i;
            g96 = g96 i;
            g95 = g95 i;
            shift_group3 = s.shift_group3;
            shift_group5 = s.shift_group5;
            correction = s.correction;
            f = s.f;
            rapid_due = due i;
            x = run.x i;
            z = run.z i;
          };
          blocks_left = g.run.blocks_left;
          count = g.run.count;
        };
        waiting = waiting i;
        phase = is i;
        end = g.end;
        filled = g.filled;
      }

  read_back : (p : Phase) → phase_of (phase_words p) ≡ p → going_of (parts_of p g ++ rest) ≡ record { frame = g.frame; run = g.run; waiting = g.waiting; phase = p; end = g.end; filled = g.filled }
  read_back Running is = behind 0 0 0 0 is
  read_back (Over (Complete count)) is = behind complete 0 0 count is
  read_back (Over (Alarm alarm place count)) is = behind stopped alarm place count is

phase_length : (p : Phase) → length (phase_words p) ≡ end_from
phase_length Running = refl
phase_length (Over (Complete count)) = refl
phase_length (Over (Alarm alarm place count)) = refl

-- the five parts, each behind the one before
pub five_put : (g : Going) {b c d e f w : List ℕ} → length b ≡ going_words → Put b 0 (phase_words g.phase) c → Put c end_from (g.end ∷ g.filled ∷ []) d → Put d frame_from (frame_words g.frame) e
    → Put e run_from (run_words g.run) f → Put f waiting_from (all_words g.waiting) w → Put b 0 (parts_of g.phase g) w
five_put g long p q r s t =
    let n = phase_length g.phase in
    let m : length (phase_words g.phase ++ (g.end ∷ g.filled ∷ [])) ≡ frame_from = simp length-append (omega arith) in
    let o : length ((phase_words g.phase ++ (g.end ∷ g.filled ∷ [])) ++ frame_words g.frame) ≡ run_from = simp length-append (omega arith) in
    let u : length (((phase_words g.phase ++ (g.end ∷ g.filled ∷ [])) ++ frame_words g.frame) ++ run_words g.run) ≡ waiting_from = simp length-append (omega arith) in
    joined (joined (joined (joined p q (omega arith) (omega arith)) r (omega arith) (omega arith)) s (omega arith) (omega arith)) t (omega arith) (omega arith)

pub all_back : (g : Going) {b w : List ℕ} → length b ≡ going_words → length g.waiting ≡ most_calls → ReadBack g.run → phase_of (phase_words g.phase) ≡ g.phase → Put b 0 (parts_of g.phase g) w
    → (going_of w ≡ g) × (length w ≡ going_words)
unfolding laid
all_back g {b} long many run is put =
    (ap going_of put.is ∙ read_back g (drop (0 + length (parts_of g.phase g)) b) many run g.phase is, put.long ∙ long)

-- ---- what any words are
pub phase_taken : (w : List ℕ) → (going_of w).phase ≡ phase_of w
unfolding going_of
phase_taken w = refl

pub ten_taken : (w : List ℕ) → length (going_of w).waiting ≡ most_calls
unfolding going_of
ten_taken w = refl
