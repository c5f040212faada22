-- An alarm is above 0, has eight bits and is not 8, whichever it is, and not 21 where no point is asked for: all are read off the list of those that are given.
-- Assumes nothing.
use mathlib.Core.Path.{◌≡◌, refl, sym, subst}
use mathlib.Core.Bool.{Bool, true, false, ◌&&◌, ◌||◌}
use mathlib.Core.List.{List, [], ◌∷◌, ◌++◌}
use Prim.Native.Nat.{ℕ, ◌<◌}
use native.Mathlib.Omega.{arith}
use lib.Dec.{T, eqb, ltb}
use borrow.Author.Tests.{eqb-true, ltb-true}
use Rattle.whole.specs.Among.{among}
use Rattle.alarms.specs.Numbers.{missing_point}
use Rattle.alarms.specs.Given.{always, given, IsAlarm}

either : (a b : Bool) → (a || b) ≡ true → {A : Type 0} → (a ≡ true → A) → (b ≡ true → A) → A
either true b e f g = f e
either false b e f g = g e

-- every number of a row lies above 0 and below 256
within : List ℕ → Bool
within [] = true
within (a ∷ rest) = (ltb 0 a && ltb a 256) && within rest

both : (a b : Bool) → (a && b) ≡ true → (a ≡ true) × (b ≡ true)
both true b e = (refl, e)
both false b e = absurd (subst T (sym e) tt)

one : (row : List ℕ) (n : ℕ) → within row ≡ true → among n row ≡ true → (0 < n) × (n < 256)
unfolding within
one [] n w h = absurd (subst T (sym h) tt)
one (a ∷ rest) n w h =
    let p = both (ltb 0 a && ltb a 256) (within rest) w in
    let q = both (ltb 0 a) (ltb a 256) p.0 in
    either (eqb n a) (among n rest) h (λ e. let s = eqb-true n a e in (omega (arith, s, ltb-true 0 a q.0), omega (arith, s, ltb-true a 256 q.1))) (λ e. one rest n p.1 e)

all_within : (points : Bool) → within (given points) ≡ true
unfolding within
all_within true = refl
all_within false = refl

pub alarm_within : (points : Bool) (n : ℕ) → IsAlarm points n → (0 < n) × (n < 256)
alarm_within points n h = one (given points) n (all_within points) h

pub alarm_above : (points : Bool) (n : ℕ) → IsAlarm points n → n ≡ 0 → ⊥
alarm_above points n h e = omega (arith, (alarm_within points n h).0, e)

-- 02, of 8: "its number is not used again"
pub not_eight : (points : Bool) → IsAlarm points 8 → ⊥
not_eight true h = subst T (sym h) tt
not_eight false h = subst T (sym h) tt

-- 02: "a setting turns missing points into an alarm"
pub not_missing : IsAlarm false missing_point → ⊥
not_missing h = subst T (sym h) tt

-- what is given where no point is asked for is given where it is
among_more : (xs ys : List ℕ) (n : ℕ) → among n xs ≡ true → among n (xs ++ ys) ≡ true
among_more [] ys n h = absurd (subst T (sym h) tt)
among_more (x ∷ xs) ys n h = first (eqb n x) h (λ e. among_more xs ys n e)
  where
    first : (b : Bool) → (b || among n xs) ≡ true → (among n xs ≡ true → among n (xs ++ ys) ≡ true) → (b || among n (xs ++ ys)) ≡ true
    first true e f = refl
    first false e f = f e

pub given_more : (points : Bool) (n : ℕ) → IsAlarm false n → IsAlarm points n
given_more true n h = among_more always (missing_point ∷ []) n h
given_more false n h = h
