-- Laws of lines: steps of `gap_of` along a list, the bounds of `line_at`, and the list of lines opened one line at a time.
-- Assumes nothing.
use Prim.Native.Nat.{ℕ, zero, suc, ◌+◌, ◌-◌, ◌<◌, ◌≤◌}
use mathlib.Core.Bool.{Bool, true, false, cond, not, ◌&&◌, ◌||◌}
use mathlib.Core.List.{List, [], ◌∷◌}
use mathlib.Core.Path.{◌≡◌, refl, ap, ◌∙◌}
use native.Mathlib.Numerals.{add-one}
use native.Mathlib.Omega.{arith}
use borrow.Author.Tests.{ne_eqb, lt-ltb, le-ltb, ltb-true, ltb-false}
use lib.Dec.{eqb, ltb}
use lib.ListN.{length, drop, get_or, drop_of_length-le, length-drop}
use lib.Seq.{drop-cons}
use Rattle.letters.specs.Letters.{cr, space, opening, closing}
use Rattle.tape.specs.declared.line.Line.{Line}
use Rattle.tape.specs.declared.line.Gap.TheVariants.{At, Fault}
use Rattle.tape.specs.Lines.{seek_from, is_line_feed, Neither, line_at, LineIn, gap_of, GapIn, Text, text_at, lines_up, lines}
use Rattle.tape.proofs.Scanning.{scan_within}

-- one law for each way on and each way out of a gap
module _ (s : List ℕ) (i : ℕ) where
  pub gap_open : length s ≤ i → gap_of true i (drop i s) ≡ Fault
  unfolding gap_of
  gap_open h = rw (drop_of_length-le s)

  pub gap_end : length s ≤ i → gap_of false i (drop i s) ≡ At i
  unfolding gap_of
  gap_end h = rw (drop_of_length-le s)

  module _ (h : i < length s) where
    pub gap_return : get_or s i 0 ≡ cr → gap_of true i (drop i s) ≡ Fault
    unfolding gap_of
    gap_return e = rw (drop-cons s i 0, e)

    pub gap_close : get_or s i 0 ≡ closing → gap_of true i (drop i s) ≡ gap_of false (i + 1) (drop (i + 1) s)
    unfolding gap_of
    gap_close e = rw (drop-cons s i 0, e, add-one i)

    pub gap_inside : (get_or s i 0 ≡ cr → ⊥) → (get_or s i 0 ≡ closing → ⊥) → gap_of true i (drop i s) ≡ gap_of true (i + 1) (drop (i + 1) s)
    unfolding gap_of
    gap_inside e f = rw (drop-cons s i 0, ne_eqb _ _ e, ne_eqb _ _ f, add-one i)

    pub gap_begin : get_or s i 0 ≡ opening → gap_of false i (drop i s) ≡ gap_of true (i + 1) (drop (i + 1) s)
    unfolding gap_of
    gap_begin e = rw (drop-cons s i 0, e, add-one i)

    pub gap_space : get_or s i 0 ≡ space → gap_of false i (drop i s) ≡ gap_of false (i + 1) (drop (i + 1) s)
    unfolding gap_of
    gap_space e = rw (drop-cons s i 0, e, add-one i)

    pub gap_word : (get_or s i 0 ≡ opening → ⊥) → (get_or s i 0 ≡ space → ⊥) → gap_of false i (drop i s) ≡ At i
    unfolding gap_of
    gap_word e f = rw (drop-cons s i 0, ne_eqb _ _ e, ne_eqb _ _ f)

-- a comment goes on over bytes that neither close it nor are a CR
pub gap_past : (n : ℕ) (s : List ℕ) (i j : ℕ) → i + n ≡ j → j ≤ length s → Neither s closing cr i j → gap_of true i (drop i s) ≡ gap_of true j (drop j s)
gap_past zero s i j e h f = ap (λ (k : ℕ). gap_of true k (drop k s)) (omega (arith, e))
gap_past (suc n) s i j e h f =
    let here = f i (omega arith) (omega (arith, e)) in
    gap_inside s i (omega (arith, e, h)) here.1 here.0
    ∙ gap_past n s (i + 1) j (omega (arith, e)) h (λ k l m. f k (omega (arith, l)) m)

-- a gap ends where it begins or later, and within the line
gap_at : (inside : Bool) (i : ℕ) (s : List ℕ) (n : ℕ) → i + length s ≤ n → (from : ℕ) → from ≤ i → GapIn (gap_of inside i s) from n
unfolding gap_of
gap_at true i [] n h from f = tt
gap_at false i [] n h from f = omega arith
gap_at true i (b ∷ s) n h from f = go (eqb b cr) (gap_at (not (eqb b closing)) (i + 1) s n (omega arith) from (omega arith))
  where
    go : (t : Bool) → GapIn (gap_of (not (eqb b closing)) (i + 1) s) from n → GapIn (cond t Fault (gap_of (not (eqb b closing)) (i + 1) s)) from n
    go true x = tt
    go false x = x
gap_at false i (b ∷ s) n h from f = go (eqb b opening || eqb b space) (gap_at (eqb b opening) (i + 1) s n (omega arith) from (omega arith))
  where
    go : (t : Bool) → GapIn (gap_of (eqb b opening) (i + 1) s) from n → GapIn (cond t (gap_of (eqb b opening) (i + 1) s) (At i)) from n
    go true x = x
    go false x = omega arith

module _ (s : List ℕ) (i : ℕ) (h : i ≤ length s) where
  pub gap_in : GapIn (gap_of false i (drop i s)) i (length s)
  gap_in = gap_at false i (drop i s) (length s) (omega (arith, length-drop i s)) i (omega arith)

  pub line_in_lem : LineIn (line_at s i) i (length s)
  unfolding line_at
  line_in_lem =
      let n = seek_from is_line_feed s i in
      by n (ltb n (length s)) refl (ltb i n) (eqb (get_or s (n - 1) 0) cr) refl (omega arith) (scan_within is_line_feed s i h)
    where
      by : (n : ℕ) (t : Bool) → ltb n (length s) ≡ t → (u v : Bool) → ltb i n ≡ u → i ≤ n → n ≤ length s
          → LineIn (cond t (record { stop = cond (u && v) (n - 1) n; after = n + 1 }) (record { stop = n; after = n })) i (length s)
      by n true p true true q a b =
          let l : n < length s = ltb-true n (length s) p in
          let m : i < n = ltb-true i n q in
          record { begins = omega arith; text = omega arith; ends = omega arith; onward = λ g. omega arith }
      by n true p true false q a b =
          let l : n < length s = ltb-true n (length s) p in
          record { begins = omega arith; text = omega arith; ends = omega arith; onward = λ g. omega arith }
      by n true p false v q a b =
          let l : n < length s = ltb-true n (length s) p in
          record { begins = omega arith; text = omega arith; ends = omega arith; onward = λ g. omega arith }
      by n false p u v q a b =
          let l : length s ≤ n = ltb-false n (length s) p in
          record { begins = omega arith; text = omega arith; ends = omega arith; onward = λ g. omega arith }

  -- what is the line at a place has its bounds
  pub line_by : {r : Line} → r ≡ line_at s i → (r ≡ line_at s i) × LineIn r i (length s)
  line_by e = (e, rw e line_in_lem)

-- more fuel than there are bytes changes nothing
lines_fuel : (k m : ℕ) (s : List ℕ) (p : ℕ) → p ≤ length s → length s - p ≤ k → length s - p ≤ m → lines_up k s p ≡ lines_up m s p
unfolding lines_up
lines_fuel zero zero s p h a b = refl
lines_fuel zero (suc m) s p h a b = rw (le-ltb p (length s) (omega arith))
lines_fuel (suc k) zero s p h a b = rw (le-ltb p (length s) (omega arith))
lines_fuel (suc k) (suc m) s p h a b =
    go (ltb p (length s)) refl (λ z x y. lines_fuel k m s (line_at s p).after z x y)
  where
    go : (t : Bool) → ltb p (length s) ≡ t
        → ((line_at s p).after ≤ length s → length s - (line_at s p).after ≤ k → length s - (line_at s p).after ≤ m → lines_up k s (line_at s p).after ≡ lines_up m s (line_at s p).after)
        → cond t (text_at s p ∷ lines_up k s (line_at s p).after) [] ≡ cond t (text_at s p ∷ lines_up m s (line_at s p).after) []
    go true e rest =
        let l : p < length s = ltb-true p (length s) e in
        let d : LineIn (line_at s p) p (length s) = line_in_lem s p h in
        let g : p < (line_at s p).after = d.onward l in
        ap (λ (r : List Text). text_at s p ∷ r) (rest d.ends (omega arith) (omega arith))
    go false e rest = refl

up_end : (k : ℕ) (s : List ℕ) (p : ℕ) → length s ≤ p → lines_up k s p ≡ []
unfolding lines_up
up_end zero s p h = refl
up_end (suc k) s p h = rw (le-ltb p (length s) h)

module _ (s : List ℕ) (p : ℕ) where
  pub lines_end : length s ≤ p → lines s p ≡ []
  unfolding lines
  lines_end h = up_end (length s) s p h

  pub lines_more : p < length s → lines s p ≡ text_at s p ∷ lines s (line_at s p).after
  unfolding lines lines_up
  lines_more h = lines_fuel (length s) (suc (length s)) s p (omega arith) (omega arith) (omega arith) ∙ rw (lt-ltb p (length s) h)
