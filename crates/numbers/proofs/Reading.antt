-- The laws of the number reader: `digits_of` along a list, in the form that the loop's invariant takes, and each way out of a number.
-- Assumes nothing.
use mathlib.Core.Path.{◌≡◌, refl, sym, ap, ◌∙◌}
use mathlib.Core.Bool.{Bool, true, false, cond, ◌&&◌, ◌||◌}
use mathlib.Core.List.{List, [], ◌∷◌}
use Prim.Native.Nat.{ℕ, zero, suc, ◌+◌, ◌*◌, ◌-◌, ◌^◌, ◌<◌, ◌≤◌}
use native.Mathlib.Nat.{add-zero, sub-zero, pow-suc, pow-le-pow_right, mul-lt-mul_of_pos_right, one-le-pow}
use native.Mathlib.Numerals.{add-one}
use native.Mathlib.Omega.{arith}
use borrow.Author.Tests.{lt-leb, le-leb, eq-eqb, ne_eqb, lt-ltb, le-ltb}
use lib.Dec.{leb, ltb, eqb}
use lib.IntN.{pos}
use lib.ListN.{length, drop, get_or, drop_of_length-le, length-drop}
use lib.Pow.{pow-add}
use lib.Seq.{drop-cons, drop-drop}
use Rattle.letters.specs.Letters.{plus_sign, minus_sign, point, digit_zero, digit_nine}
use Rattle.numbers.specs.declared.Digits.{Digits}
use Rattle.numbers.specs.declared.Number.TheVariants.{Value, Bad}
use Rattle.numbers.specs.Numbers.{is_digit, digits_of, Run, with_sign, millimetres, behind_digits, unsigned_path, sign_size, path_of, all_digits, digits_in}

-- ---- a byte as a digit
pub low_no : (b : ℕ) → b < digit_zero → is_digit b ≡ false
low_no b h = rw (lt-leb digit_zero b h)

pub high_no : (b : ℕ) → digit_nine < b → is_digit b ≡ false
high_no b h = rw (le-leb digit_zero b (omega arith), lt-leb b digit_nine h)

pub digit_yes : (b : ℕ) → digit_zero ≤ b → b ≤ digit_nine → is_digit b ≡ true
digit_yes b l h = rw (le-leb digit_zero b l, le-leb b digit_nine h)

-- ---- sizes
-- ten to a power
pub ten_more : (n : ℕ) → 10 ^ (n + 1) ≡ 10 ^ n * 10
ten_more n = rw (add-one n) (pow-suc 10 n)

pub ten_up : {n m : ℕ} → n ≤ m → 10 ^ n ≤ 10 ^ m
ten_up h = pow-le-pow_right (omega arith) h

-- the digits behind a point come to less than a millimetre
pub behind_point : (v m : ℕ) → m ≤ 3 → v < 10 ^ m → v * 10 ^ (3 - m) < 1000
behind_point v m h l =
    let e : m + (3 - m) ≡ 3 = omega arith in
    let p : 10 ^ m * 10 ^ (3 - m) ≡ 1000 = sym (pow-add 10 m (3 - m)) ∙ ap (λ (k : ℕ). 10 ^ k) e in
    rw p at (mul-lt-mul_of_pos_right l (one-le-pow (3 - m) 10 (omega arith)))

-- ---- a run of digits
abbrev pub found : ℕ → ℕ → Digits
found v n = record { value = v; count = n }

digits_none : (s : List ℕ) (k v n : ℕ) → k ≡ 0 → digits_of k s v n ≡ found v n
unfolding digits_of
digits_none s k v n e = rw e

digits_nil : (k v n : ℕ) → digits_of k [] v n ≡ found v n
unfolding digits_of
digits_nil zero v n = refl
digits_nil (suc k) v n = refl

digits_no : (b : ℕ) (s : List ℕ) (k v n : ℕ) → is_digit b ≡ false → digits_of k (b ∷ s) v n ≡ found v n
unfolding digits_of
digits_no b s zero v n e = refl
digits_no b s (suc k) v n e = rw e

digits_yes : (b : ℕ) (s : List ℕ) (k v n : ℕ) → is_digit b ≡ true → digits_of (suc k) (b ∷ s) v n ≡ digits_of k s (v * 10 + (b - digit_zero)) (n + 1)
unfolding digits_of
digits_yes b s k v n e = rw e

-- what `digits_of` has to do from the place at + n on, with n of limit digits behind
abbrev pub here : List ℕ → ℕ → ℕ → ℕ → ℕ → Digits
here s at limit v n = digits_of (limit - n) (drop (at + n) s) v n

module _ (s : List ℕ) (at limit : ℕ) where
  pub here_start : digits_of limit (drop at s) 0 0 ≡ here s at limit 0 0
  here_start = rw (sub-zero, add-zero)

  pub here_full : (v n : ℕ) → limit ≤ n → here s at limit v n ≡ found v n
  here_full v n h = digits_none (drop (at + n) s) (limit - n) v n (omega arith)

  pub here_end : (v n : ℕ) → length s ≤ at + n → here s at limit v n ≡ found v n
  here_end v n h = rw (drop_of_length-le s) (digits_nil (limit - n) v n)

  pub here_stop : (v n : ℕ) → at + n < length s → is_digit (get_or s (at + n) 0) ≡ false → here s at limit v n ≡ found v n
  here_stop v n h e = rw (drop-cons s (at + n) 0) (digits_no (get_or s (at + n) 0) (drop (suc (at + n)) s) (limit - n) v n e)

  pub here_more : (v n : ℕ) → n < limit → at + n < length s → is_digit (get_or s (at + n) 0) ≡ true
      → here s at limit v n ≡ here s at limit (v * 10 + (get_or s (at + n) 0 - digit_zero)) (n + 1)
  here_more v n l h e =
      let p : at + (n + 1) ≡ suc (at + n) = omega arith in
      let q : limit - n ≡ suc (limit - (n + 1)) = omega arith in
      rw (drop-cons s (at + n) 0, p, q) (digits_yes (get_or s (at + n) 0) (drop (suc (at + n)) s) (limit - (n + 1)) v n e)

-- ---- a path number behind its sign, by the digits d that stand at a place
module _ (negative : Bool) (s : List ℕ) (at : ℕ) (d : Digits) (r : Run s at 7 d) where
  path_here : unsigned_path negative (drop at s) ≡ behind_digits negative d (drop (at + d.count) s)
  unfolding unsigned_path
  path_here = rw (← r.is, drop-drop d.count at s)

  pub path_end : length s ≤ at + d.count → unsigned_path negative (drop at s) ≡ cond (ltb 0 d.count) (Value (with_sign negative d.value) false) Bad
  path_end h = path_here ∙ rw (drop_of_length-le s)

  pub path_other : at + d.count < length s → (eqb (get_or s (at + d.count) 0) point && leb d.count 4) ≡ false → unsigned_path negative (drop at s) ≡ Bad
  path_other h e = path_here ∙ rw (drop-cons s (at + d.count) 0, e)

  -- a point that stands well, and the digits f behind it
  module _ (f : Digits) (h : at + d.count < length s) (pt : get_or s (at + d.count) 0 ≡ point) (few : d.count ≤ 4) (q : Run s (at + d.count + 1) 3 f) where
    path_point : unsigned_path negative (drop at s) ≡ millimetres negative d f (drop (at + d.count + 1) s)
    path_point = path_here ∙ rw (drop-cons s (at + d.count) 0, eq-eqb _ _ pt, le-leb _ _ few, ← add-one (at + d.count), ← q.is)

    pub path_long : (at + d.count + 1 + f.count ≡ length s → ⊥) → unsigned_path negative (drop at s) ≡ Bad
    path_long n =
        let e : f.count ≡ length (drop (at + d.count + 1) s) → ⊥ = λ x. n (omega (arith, x, length-drop (at + d.count + 1) s)) in
        path_point ∙ rw (ne_eqb _ _ e)

    module _ (w : at + d.count + 1 + f.count ≡ length s) where
      ends : f.count ≡ length (drop (at + d.count + 1) s)
      ends = omega (arith, length-drop (at + d.count + 1) s)

      pub path_bare : d.count + f.count ≡ 0 → unsigned_path negative (drop at s) ≡ Bad
      path_bare z = path_point ∙ rw (eq-eqb _ _ ends, z)

      pub path_good : (d.count + f.count ≡ 0 → ⊥)
          → unsigned_path negative (drop at s) ≡ Value (with_sign negative (d.value * 1000 + f.value * 10 ^ (3 - f.count))) true
      path_good z = path_point ∙ rw (eq-eqb _ _ ends, lt-ltb 0 (d.count + f.count) (omega arith))

-- ---- the sign
pub path_empty : (s : List ℕ) → length s ≡ 0 → path_of s ≡ Bad
unfolding path_of
path_empty [] e = refl
path_empty (b ∷ s) e = absurd (omega (arith, e))

-- the sign's size is at most that of the part
pub sign_fits : (s : List ℕ) → 0 < length s → sign_size (get_or s 0 0) ≤ length s
unfolding sign_size
sign_fits s h = go (eqb (get_or s 0 0) minus_sign || eqb (get_or s 0 0) plus_sign)
  where
    go : (t : Bool) → cond t 1 0 ≤ length s
    go true = omega (arith, h)
    go false = omega arith

pub path_signed : (s : List ℕ) → 0 < length s → unsigned_path (eqb (get_or s 0 0) minus_sign) (drop (sign_size (get_or s 0 0)) s) ≡ path_of s
unfolding path_of sign_size
path_signed [] h = absurd (omega (arith, h))
path_signed (b ∷ s) h = go (eqb b minus_sign) (eqb b plus_sign)
  where
    go : (m p : Bool) → unsigned_path m (drop (cond (m || p) 1 0) (b ∷ s)) ≡ cond m (unsigned_path true s) (cond p (unsigned_path false s) (unsigned_path false (b ∷ s)))
    go true p = refl
    go false true = refl
    go false false = refl

-- ---- digits and nothing else
module _ (limit most : ℕ) (s : List ℕ) (d : Digits) (r : Run s 0 limit d) where
  digits_here : digits_in limit most s ≡ all_digits d most (length s)
  unfolding digits_in
  digits_here = rw (← r.is)

  pub digits_left : (d.count ≡ length s → ⊥) → digits_in limit most s ≡ Bad
  digits_left n = digits_here ∙ rw (ne_eqb _ _ n)

  module _ (w : d.count ≡ length s) where
    pub digits_bare : d.count ≡ 0 → digits_in limit most s ≡ Bad
    digits_bare z = digits_here ∙ rw (eq-eqb _ _ w, le-ltb 0 (length s) (omega arith))

    module _ (z : d.count ≡ 0 → ⊥) where
      digits_some : digits_in limit most s ≡ cond (leb d.value most) (Value (pos d.value) false) Bad
      digits_some = digits_here ∙ rw (eq-eqb _ _ w, lt-ltb 0 (length s) (omega arith))

      pub digits_above : most < d.value → digits_in limit most s ≡ Bad
      digits_above h = digits_some ∙ rw (lt-leb _ _ h)

      pub digits_good : d.value ≤ most → digits_in limit most s ≡ Value (pos d.value) false
      digits_good h = digits_some ∙ rw (le-leb _ _ h)
