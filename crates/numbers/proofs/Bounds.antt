-- The bounds of what was read, by the form of the number.
-- Assumes nothing.
use mathlib.Core.Path.{◌≡◌, refl, sym, subst}
use mathlib.Core.Bool.{Bool, true, false, cond, ◌&&◌}
use mathlib.Core.List.{List, [], ◌∷◌}
use Prim.Native.Nat.{ℕ, zero, suc, ◌+◌, ◌*◌, ◌-◌, ◌^◌, ◌<◌, ◌≤◌}
use native.Mathlib.Omega.{arith}
use borrow.Author.Tests.{leb-true}
use lib.Dec.{T, leb, ltb, eqb}
use lib.IntN.{ℤ, pos}
use lib.ListN.{length, drop}
use Rattle.whole.proofs.Integers.{whole, up_neg, down_neg}
use Rattle.whole.proofs.Positions.{InTable}
use Rattle.letters.specs.Letters.{plus_sign, minus_sign, point, digit_zero, digit_nine}
use Rattle.numbers.specs.declared.Digits.{Digits}
use Rattle.numbers.specs.declared.NumberForm.{NumberForm}
use Rattle.numbers.specs.declared.NumberForm.TheVariants.{Path, TwoDigits, FourDigits, FiveDigits, DNumber}
use Rattle.numbers.specs.declared.Number.{Number}
use Rattle.numbers.specs.declared.Number.TheVariants.{Value, Bad}
use Rattle.numbers.specs.Numbers.{is_digit, digits_of, with_sign, millimetres, behind_digits, unsigned_path, path_of, all_digits, digits_in, number_of}
use Rattle.numbers.proofs.Reading.{behind_point, ten_more, ten_up}

-- a number that is not negative, and below a bound
pub record Below (n : ℕ) (z : ℤ) : Type 0 where
  pub size : ℕ
  pub is : z ≡ pos size
  pub small : size < n

-- what holds of the value that was read, if one was
abbrev pub Read : (ℤ → Type 0) → Number → Type 0
Read P (Value z p) = P z
Read P Bad = Unit {0}

-- ---- tests
pub cond_ind : {A : Type 0} (P : A → Type 0) (t : Bool) (x y : A) → (t ≡ true → P x) → P y → P (cond t x y)
cond_ind P true x y f g = f refl
cond_ind P false x y f g = g

and_le : (t : Bool) (a b : ℕ) → (t && leb a b) ≡ true → a ≤ b
and_le true a b e = leb-true a b e
and_le false a b e = absurd (subst T (sym e) tt)

-- ---- digits and a bound
all_below : (d : Digits) (most n : ℕ) → Read (Below (suc most)) (all_digits d most n)
all_below d most n =
    let v = d.value in
    let P = Read (Below (suc most)) in
    cond_ind P (eqb d.count n && ltb 0 n) _ Bad
    (λ _. cond_ind P (leb v most) _ Bad (λ t. record { size = v; is = refl; small = omega (arith, leb-true v most t) }) tt)
    tt

pub digits_below : (limit most : ℕ) (s : List ℕ) → Read (Below (suc most)) (digits_in limit most s)
unfolding digits_in
digits_below limit most s = all_below (digits_of limit s 0 0) most (length s)

-- ---- a path number
-- at most k digits, and what they can come to
record Few (k : ℕ) (d : Digits) : Type 0 where
  few : d.count ≤ k
  small : d.value < 10 ^ d.count

digits_few : (k : ℕ) (s : List ℕ) (v n : ℕ) → v < 10 ^ n → Few (n + k) (digits_of k s v n)
unfolding digits_of
digits_few zero s v n h = record { few = omega arith; small = h }
digits_few (suc k) [] v n h = record { few = omega arith; small = h }
digits_few (suc k) (b ∷ s) v n h =
    let e : n + 1 + k ≡ n + suc k = omega arith in
    cond_ind (Few (n + suc k)) (is_digit b) _ _
    (λ t. rw e at (digits_few k s (v * 10 + (b - digit_zero)) (n + 1) (omega (arith, and_le (leb digit_zero b) b digit_nine t, ten_more n))))
    (record { few = omega arith; small = h })

signed_in : (negative : Bool) (v : ℕ) → v < 10_000_000 → InTable (with_sign negative v)
signed_in true v h = let u = up_neg (pos v) in let d = down_neg (pos v) in record { low = omega whole; high = omega whole }
signed_in false v h = record { low = omega whole; high = omega whole }

point_in : (negative : Bool) (d f : Digits) (s : List ℕ) → d.count ≤ 4 → d.value < 10 ^ d.count → Few 3 f → Read InTable (millimetres negative d f s)
point_in negative d f s h l w =
    let v = d.value * 1000 + f.value * 10 ^ (3 - f.count) in
    let m : v < 10_000_000 = omega (arith, ten_up {n = d.count} {m = 4} h, behind_point f.value f.count w.few w.small) in
    cond_ind (Read InTable) (eqb f.count (length s) && ltb 0 (d.count + f.count)) _ Bad (λ t. signed_in negative v m) tt

behind_in : (negative : Bool) (d : Digits) (s : List ℕ) → Few 7 d → Read InTable (behind_digits negative d s)
behind_in negative d [] w =
    let m : d.value < 10_000_000 = omega (arith, ten_up {n = d.count} {m = 7} w.few) in
    cond_ind (Read InTable) (ltb 0 d.count) _ Bad (λ t. signed_in negative d.value m) tt
behind_in negative d (b ∷ s) w =
    cond_ind (Read InTable) (eqb b point && leb d.count 4) _ Bad
    (λ t. point_in negative d (digits_of 3 s 0 0) s (and_le (eqb b point) d.count 4 t) w.small (digits_few 3 s 0 0 (omega arith)))
    tt

unsigned_in : (negative : Bool) (s : List ℕ) → Read InTable (unsigned_path negative s)
unfolding unsigned_path
unsigned_in negative s =
    let d = digits_of 7 s 0 0 in
    behind_in negative d (drop d.count s) (digits_few 7 s 0 0 (omega arith))

pub path_in : (s : List ℕ) → Read InTable (path_of s)
unfolding path_of
path_in [] = tt
path_in (b ∷ s) =
    cond_ind (Read InTable) (eqb b minus_sign) _ _ (λ t. unsigned_in true s)
    (cond_ind (Read InTable) (eqb b plus_sign) _ _ (λ t. unsigned_in false s) (unsigned_in false (b ∷ s)))

-- ---- every form
abbrev pub WithinForm : NumberForm → ℤ → Type 0
WithinForm Path z = InTable z
WithinForm TwoDigits z = Below 100 z
WithinForm FourDigits z = Below 10_000 z
WithinForm FiveDigits z = Below 100_000 z
WithinForm DNumber z = Below 32_768 z

pub number_read : (k : NumberForm) (s : List ℕ) → Read (WithinForm k) (number_of k s)
unfolding number_of
number_read Path s = path_in s
number_read TwoDigits s = digits_below 2 99 s
number_read FourDigits s = digits_below 4 9_999 s
number_read FiveDigits s = digits_below 5 99_999 s
number_read DNumber s = digits_below 5 32_767 s
