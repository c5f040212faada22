-- Rows of depths: a row that rises stays within the depth where it ends, and the pieces of a division make one.
-- Assumes nothing.
use mathlib.Core.Path.{◌≡◌, refl, sym, ap, ◌∙◌}
use mathlib.Core.List.{List, [], ◌∷◌}
use Prim.Native.Nat.{ℕ, zero, suc, ◌+◌, ◌-◌, ◌≤◌}
use native.Mathlib.Nat.{add-zero}
use native.Mathlib.Omega.{arith}
use lib.ListN.{length}
use Rattle.division.specs.Division.{sum}
use Rattle.depths.specs.Depths.{running, cuts}
use Rattle.depths.specs.Promised.{taken, Rises}

-- ---- a row that rises
pub starts : (e x : ℕ) (ys : List ℕ) → Rises e x ys → x ≤ e
unfolding Rises
starts e x [] h = omega arith
starts e x (y ∷ ys) h = omega (arith, h.0, starts e y ys h.1)

-- ---- the pieces of a division, each added to the depth before it
pub running_length : (x : ℕ) (ps : List ℕ) → length (running x ps) ≡ length ps
unfolding running
running_length x [] = refl
running_length x (p ∷ ps) = ap suc (running_length (x + p) ps)

pub running_taken : (x : ℕ) (ps : List ℕ) → taken x (running x ps) ≡ ps
unfolding running taken
running_taken x [] = refl
running_taken x (p ∷ ps) = let by : (x + p) - x ≡ p = omega arith in λ i. by i ∷ running_taken (x + p) ps i

pub running_rises : (x : ℕ) (ps : List ℕ) (e : ℕ) → x + sum ps ≡ e → Rises e x (running x ps)
unfolding running Rises
running_rises x [] e h = omega arith
running_rises x (p ∷ ps) e h = (omega arith, running_rises (x + p) ps e (omega arith))

-- ---- cuts by their number
pub cuts_length : (f : ℕ → ℕ) (k n : ℕ) → length (cuts f k n) ≡ n
unfolding cuts
cuts_length f k zero = refl
cuts_length f k (suc n) = ap suc (cuts_length f (suc k) n)

pub cuts_rise : (f : ℕ → ℕ) (e : ℕ) → ((k : ℕ) → f k ≤ f (suc k)) → (k m : ℕ) → f (k + m) ≡ e → Rises e (f k) (cuts f (suc k) m)
unfolding cuts Rises
cuts_rise f e h k zero l = ap f (sym (add-zero k)) ∙ l
cuts_rise f e h k (suc m) l = (h k, cuts_rise f e h (suc k) m (ap f (shift k m) ∙ l))
  where
    shift : (k m : ℕ) → suc k + m ≡ k + suc m
    shift k m = omega arith
