-- Tags: what a run has come to, and the motion that is kept.
-- Assumes nothing.
use mathlib.Core.Path.{◌≡◌, refl}
use mathlib.Core.List.{List, [], ◌∷◌}
use Prim.Native.Nat.{ℕ, ◌%◌, ◌<◌}
use native.Mathlib.Omega.{arith}
use Rattle.paused.specs.of_answers.declared.Answer.TheVariants.{Complete, Alarm}
use Rattle.paused.specs.declared.Phase.{Phase}
use Rattle.paused.specs.declared.Phase.TheVariants.{Running, Over}
use Rattle.runwords.specs.Taken.{complete, stopped, phase_by, phase_of}
use Rattle.runwords.specs.Laid.{phase_words, SmallPhase}

-- ---- what the run has come to, laid
abbrev pub Laid : Phase → List ℕ → Type 0
Laid p l = (l ≡ phase_words p) × (phase_of (phase_words p) ≡ p)

pub running_laid : {p : Phase} → p ≡ Running → Laid p (0 ∷ 0 ∷ 0 ∷ 0 ∷ [])
unfolding phase_by
running_laid e = rw e (refl, refl)

pub complete_laid : {p : Phase} {count n : ℕ} → p ≡ Over (Complete count) → n ≡ count → Laid p (complete ∷ 0 ∷ 0 ∷ n ∷ [])
unfolding phase_by
complete_laid e n = rw e (λ i. complete ∷ 0 ∷ 0 ∷ n i ∷ [], refl)

pub stopped_laid : {p : Phase} {alarm place count a q n : ℕ} → p ≡ Over (Alarm alarm place count) → (a ≡ alarm) × (a < 256) → q ≡ place → n ≡ count → Laid p (stopped ∷ a ∷ q ∷ n ∷ [])
unfolding phase_by
stopped_laid {alarm = alarm} {place = place} {count = count} e (a, h) q n =
    let low : alarm % 256 ≡ alarm = omega arith in
    rw e (λ i. stopped ∷ a i ∷ q i ∷ n i ∷ [], λ i. Over (Alarm (low i) place count))

-- what fits
pub small_in : {p q : Phase} → SmallPhase p → p ≡ q → SmallPhase q
small_in h e = rw e at h
