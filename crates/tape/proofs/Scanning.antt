-- Laws of `seek_from`, the scan for the first byte that passes a test, for any test: what `position` answers, the step past bytes that do not pass, and its bounds. And of a stretch that holds neither of two bytes.
-- Assumes nothing.
use Prim.Native.Nat.{ℕ, zero, suc, ◌+◌, ◌-◌, ◌<◌, ◌≤◌}
use mathlib.Core.Bool.{Bool, true, false, cond, ◌||◌}
use mathlib.Core.List.{List, [], ◌∷◌}
use mathlib.Core.Path.{◌≡◌, refl, sym, ap, ◌∙◌, subst}
use native.Mathlib.Nat.{add-zero}
use native.Mathlib.Numerals.{add-one}
use native.Mathlib.Omega.{arith}
use borrow.Author.Tests.{ltb-false, eqb-false}
use lib.Dec.{T, eqb, ltb}
use lib.ListN.{length, drop, get_or, drop_of_length-le, length-drop}
use lib.Seq.{drop-cons}
use Rattle.std.proofs.Common.{Option, Some, None, unwrap_or, fold}
use Rattle.std.specs.List.{between, position_or_len}
use Rattle.std.proofs.lemmas.List.Edits.{get_or-between, length-between}
use Rattle.std.proofs.lemmas.List.Recursion.{is_position_or_len}
use Rattle.tape.specs.Lines.{seek, seek_from, Neither}

or_false : (a b : Bool) → (a || b) ≡ false → (a ≡ false) × (b ≡ false)
or_false true b e = absurd (subst T e tt)
or_false false b e = (refl, e)

-- whether one of two bytes stands in a list, as a fold over all of it
module _ (one other : ℕ) where
  abbrev pub or_either : Bool → ℕ → Bool
  or_either found b = found || (eqb b one || eqb b other)

  none_of : (xs : List ℕ) (found : Bool) → fold or_either found xs ≡ false → (found ≡ false) × Neither xs one other 0 (length xs)
  none_of [] found e = (e, λ k l h. absurd (omega (arith, h)))
  none_of (b ∷ xs) found e =
      let rest = none_of xs (or_either found b) e in
      let here = or_false found (eqb b one || eqb b other) rest.0 in
      (here.0, λ k l h. at (or_false (eqb b one) (eqb b other) here.1) rest.1 k h)
    where
      at : (eqb b one ≡ false) × (eqb b other ≡ false) → Neither xs one other 0 (length xs) → (k : ℕ) → k < length (b ∷ xs) → (get_or (b ∷ xs) k 0 ≡ one → ⊥) × (get_or (b ∷ xs) k 0 ≡ other → ⊥)
      at a f zero h = (eqb-false _ _ a.0, eqb-false _ _ a.1)
      at a f (suc k) h = f k (omega arith) (omega (arith, h))

  pub neither_of : (s : List ℕ) (from n : ℕ) → from + n ≤ length s → fold or_either false (between from (from + n) s) ≡ false → Neither s one other from (from + n)
  neither_of s from n r e k l h =
      let part = between from (from + n) s in
      let long : length part ≡ n = omega (arith, length-between s from (from + n) r) in
      let here = (none_of part false e).1 (k - from) (omega arith) (omega (arith, long, h)) in
      let there : get_or part (k - from) 0 ≡ get_or s k 0 = get_or-between s from (from + n) (k - from) 0 (omega arith) ∙ ap (λ (x : ℕ). get_or s x 0) (omega arith) in
      (λ z. here.0 (there ∙ z), λ z. here.1 (there ∙ z))

module _ (t : ℕ → Bool) where
  pub seek_within : (s : List ℕ) → seek t s ≤ length s
  unfolding seek
  seek_within [] = omega arith
  seek_within (b ∷ s) = go (t b) (seek_within s)
    where
      go : (u : Bool) → seek t s ≤ length s → cond u 0 (suc (seek t s)) ≤ suc (length s)
      go true h = omega arith
      go false h = omega arith

  seek_position : (s : List ℕ) → seek t s ≡ position_or_len t s
  unfolding seek
  seek_position s = is_position_or_len (seek t) t refl (λ x xs. ap (cond (t x) 0) (omega arith)) s

  -- where `position` finds the first byte that passes, or nothing
  pub sought : (s : List ℕ) (r : Option ℕ) → r ≡ cond (ltb (position_or_len t s) (length s)) (Some (position_or_len t s)) None → unwrap_or r (length s) ≡ seek t s
  sought s r e = by (ltb (position_or_len t s) (length s)) refl e
    where
      same : seek t s ≡ position_or_len t s
      same = seek_position s

      by : (u : Bool) → ltb (position_or_len t s) (length s) ≡ u → r ≡ cond u (Some (position_or_len t s)) None → unwrap_or r (length s) ≡ seek t s
      by true p q = ap (λ (x : Option ℕ). unwrap_or x (length s)) q ∙ sym same
      by false p q =
          ap (λ (x : Option ℕ). unwrap_or x (length s)) q ∙ omega (arith, same, ltb-false _ _ p, seek_within s)

  seek_hit : (b : ℕ) (s : List ℕ) → t b ≡ true → seek t (b ∷ s) ≡ 0
  unfolding seek
  seek_hit b s e = rw e

  seek_more : (b : ℕ) (s : List ℕ) → t b ≡ false → seek t (b ∷ s) ≡ suc (seek t s)
  unfolding seek
  seek_more b s e = rw e

  module _ (s : List ℕ) (i : ℕ) where
    pub scan_end : length s ≤ i → seek_from t s i ≡ i
    unfolding seek
    scan_end h = rw (drop_of_length-le s) (add-zero i)

    pub scan_hit : i < length s → t (get_or s i 0) ≡ true → seek_from t s i ≡ i
    scan_hit h e = rw (drop-cons s i 0, seek_hit (get_or s i 0) (drop (suc i) s) e) (add-zero i)

    pub scan_more : i < length s → t (get_or s i 0) ≡ false → seek_from t s i ≡ seek_from t s (i + 1)
    scan_more h e = rw (drop-cons s i 0, seek_more (get_or s i 0) (drop (suc i) s) e, add-one i) (omega arith)

    pub scan_within : i ≤ length s → seek_from t s i ≤ length s
    scan_within h = omega (arith, seek_within (drop i s), length-drop i s)

  -- a scan passes over what does not pass its test
  pub scan_past : (n : ℕ) (s : List ℕ) (i j : ℕ) → i + n ≡ j → j ≤ length s → ((k : ℕ) → i ≤ k → k < j → t (get_or s k 0) ≡ false) → seek_from t s i ≡ seek_from t s j
  scan_past zero s i j e h f = ap (seek_from t s) (omega (arith, e))
  scan_past (suc n) s i j e h f =
      scan_more s i (omega (arith, e, h)) (f i (omega arith) (omega (arith, e)))
      ∙ scan_past n s (i + 1) j (omega (arith, e)) h (λ k l m. f k (omega (arith, l)) m)
