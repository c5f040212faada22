-- What the test of a state tells, part by part.
-- Assumes nothing.
use mathlib.Core.Path.{◌≡◌, refl, sym, ◌∙◌, subst}
use mathlib.Core.Bool.{Bool, true}
use Prim.Native.Nat.{ℕ, ◌≤◌}
use native.Mathlib.Omega.{arith}
use lib.Dec.{leb}
use Rattle.telling.proofs.Tells.{Tells, tells_at_most}
use Rattle.whole.specs.Position.{in_table}
use Rattle.codes.specs.declared.Motion.{Motion}
use Rattle.codes.specs.declared.Motion.TheVariants as motion
use Rattle.acts.specs.declared.Kept.{Kept}
use Rattle.acts.specs.declared.Kept.TheVariants.{Nothing, Of}
use Rattle.acts.specs.Acting.{keep}
use Rattle.state.specs.declared.State.{State}
use Rattle.state.specs.Known.{Numbers, Sound}

-- ---- the motion
-- no motion is kept
pub none_kept : keep Nothing Nothing ≡ Nothing
unfolding keep
none_kept = refl

-- a motion that leaves nothing behind is for its block only, and one that leaves a motion behind is kept
pub not_kept : {k : Kept} {m : Motion} → k ≡ Of m → keep k Nothing ≡ Nothing → keep k Nothing ≡ k → ⊥
not_kept {k} {m} is nothing same = let z : ◌≡◌ {A = ℕ} 0 1 = cc in omega arith

pub kept : {k : Kept} {m n : Motion} → k ≡ Of m → keep k Nothing ≡ Of n → keep k Nothing ≡ k
unfolding keep
kept {k} {m} {n} is some = subst (λ (k : Kept). keep k Nothing ≡ k) (sym is) (same m (subst (λ (k : Kept). keep k Nothing ≡ Of n) is some))
  where
    other : Nothing ≡ Of n → ⊥
    other e = let z : ◌≡◌ {A = ℕ} 0 1 = cc in omega arith

    same : (m : Motion) → keep (Of m) Nothing ≡ Of n → keep (Of m) Nothing ≡ Of m
    same motion.Rapid e = refl
    same motion.Feed e = refl
    same motion.Clockwise e = refl
    same motion.Counterclockwise e = refl
    same motion.Thread e = refl
    same motion.Dwell e = absurd (other e)
    same motion.Turning e = absurd (other e)
    same motion.Threading e = absurd (other e)
    same motion.Grooving e = absurd (other e)
    same motion.ChipBreaking e = absurd (other e)
    same motion.Redrawing e = absurd (other e)

-- ---- the numbers
pub tells_numbers : (s : State) → s.shift_group3 ≤ 5 → s.shift_group5 ≤ 5 → Tells (leb s.correction 99) (Numbers s)
tells_numbers s three five = tells_at_most s.correction 99 (λ h. record { shift_group3 = three; shift_group5 = five; correction = h }) (λ n. n.correction)

-- ---- the parts together
pub tells_sound : (s : State) {test : Bool} → keep s.motion Nothing ≡ s.motion → Numbers s → in_table s.x ≡ true → test ≡ in_table s.z → Tells test (Sound s)
tells_sound s kept numbers x z = ((λ e. record { kept = kept; numbers = numbers; x = x; z = sym z ∙ e }), (λ h. z ∙ h.z))
