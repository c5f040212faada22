-- Numbers that are written digit by digit.
-- Assumes nothing.
use mathlib.Core.Path.{◌≡◌, refl, sym, ap, ◌∙◌}
use mathlib.Core.Bool.{true, false}
use mathlib.Core.List.{List, [], ◌∷◌, ◌++◌, append_assoc, append-nil}
use Prim.Native.Nat.{ℕ, zero, suc, ◌+◌, ◌-◌, ◌/◌, ◌%◌, ◌<◌, ◌≤◌}
use native.Mathlib.Omega.{arith}
use lib.IntN.{ℤ, pos, nat_abs}
use lib.ListN.{length, set, length-append}
use lib.Signed.{lt_z}
use Rattle.octets.specs.Bytes.{laid}
use Rattle.octets.proofs.Laying.{laid_nil}
use Rattle.letters.specs.Letters.{minus_sign, digit_zero}
use Rattle.decimal.specs.Decimal.{digits, decimal, signed}
use Rattle.decimal.specs.Wrote.{Wrote}
use Rattle.decimal.proofs.Digits.{digits_none, digits_more, signed_minus, signed_plus}
use Rattle.decimal.proofs.Writing.{before_laid, wrote_as, two_first, two_second, two}

-- ---- the digits of n, written into b from `at` on, the last one first: by now the buffer is c, the digits from the place `to` on are written, and those of `rest` are left
pub record Back (b : List ℕ) (at n : ℕ) (c : List ℕ) (to rest : ℕ) : Type 0 where
  pub done : List ℕ
  pub parts : digits n ≡ digits rest ++ done
  pub place : to ≡ at + length (digits rest)
  pub bytes : c ≡ laid b to done

module _ (b : List ℕ) (at n : ℕ) where
  pub back_begin : {to : ℕ} → to ≡ at + length (digits n) → Back b at n b to n
  back_begin {to} e = record { done = []; parts = sym (append-nil (digits n)); place = e; bytes = sym (laid_nil b to) }

  module _ {c : List ℕ} {to rest : ℕ} (g : Back b at n c to rest) where
    -- the last of the digits that are left stands before those that are written
    last_place : 0 < rest → to ≡ at + length (digits (rest / 10)) + 1
    last_place some = omega (arith, g.place, ap length (digits_more rest some), length-append (digits (rest / 10)) ((digit_zero + rest % 10) ∷ []))

    -- where a place is left, there is a digit left
    pub back_some : at < to → 0 < rest
    back_some h = by rest g.place
      where
        by : (r : ℕ) → to ≡ at + length (digits r) → 0 < r
        by zero e = absurd (omega (arith, h, e, ap length digits_none))
        by (suc r) e = omega arith

    -- and none where none is left
    none_left : to ≤ at → digits rest ≡ []
    none_left h = by (digits rest) g.place
      where
        by : (w : List ℕ) → to ≡ at + length w → w ≡ []
        by [] e = refl
        by (d ∷ w) e = absurd (omega (arith, h, e))

    pub back_room : at + length (digits n) ≤ length b → 0 < rest → (0 < to) × (to ≤ length b)
    back_room fits some = (omega (arith, last_place some), omega (arith, fits, g.place, ap length g.parts, length-append (digits rest) g.done))

    pub back_next : at + length (digits n) ≤ length b → 0 < rest → {m : ℕ} → m ≡ to - 1 → Back b at n (set c m (digit_zero + rest % 10)) m (rest / 10)
    back_next fits some {m} e =
        let l = last_place some in
        let t : to ≡ suc m = omega (arith, l, e) in
        let room = back_room fits some in record {
          done = (digit_zero + rest % 10) ∷ g.done;
          parts = g.parts ∙ ap (λ (w : List ℕ). w ++ g.done) (digits_more rest some) ∙ append_assoc (digits (rest / 10)) ((digit_zero + rest % 10) ∷ []) g.done;
          place = omega (arith, l, e);
          bytes = ap (λ (w : List ℕ). set w m (digit_zero + rest % 10)) (g.bytes ∙ ap (λ (k : ℕ). laid b k g.done) t) ∙ before_laid b m (digit_zero + rest % 10) g.done (omega (arith, t, room.1));
        }

    pub back_ended : {next : ℕ} → next ≡ at + length (digits n) → to ≤ at → Wrote b at (digits n) next c
    back_ended e none =
        let left = none_left none in
        let whole : digits n ≡ g.done = g.parts ∙ ap (λ (w : List ℕ). w ++ g.done) left in
        let here : to ≡ at = omega (arith, g.place, ap length left) in record {
          place = e;
          bytes = g.bytes ∙ ap (λ (k : ℕ). laid b k g.done) here ∙ ap (laid b at) (sym whole);
        }

-- ---- a number that may be below zero, and the byte behind it
module _ (b : List ℕ) (at : ℕ) (z : ℤ) (size behind : ℕ) (is : size ≡ nat_abs z) (fits : at + length (signed z ++ (behind ∷ [])) ≤ length b) where
  abbrev number : List ℕ
  number = decimal size ++ (behind ∷ [])

  module _ (below : lt_z z (pos 0) ≡ true) where
    parts : signed z ++ (behind ∷ []) ≡ (minus_sign ∷ []) ++ number
    parts = ap (λ (l : List ℕ). l ++ (behind ∷ [])) (signed_minus z below ∙ ap (λ (n : ℕ). minus_sign ∷ decimal n) (sym is))

    pub sign_room : at < length b
    sign_room = omega (arith, two_first b at (minus_sign ∷ []) number parts fits)

    module _ {m : ℕ} {c : List ℕ} (sign : Wrote b at (minus_sign ∷ []) m c) where
      pub size_room : m + length number ≤ length c
      size_room = two_second b at (minus_sign ∷ []) number parts fits sign

      pub below_wrote : {r : ℕ} {e : List ℕ} → Wrote c m number r e → Wrote b at (signed z ++ (behind ∷ [])) r e
      below_wrote k = two b at (minus_sign ∷ []) number parts fits sign k

  module _ (above : lt_z z (pos 0) ≡ false) where
    same : signed z ++ (behind ∷ []) ≡ number
    same = ap (λ (l : List ℕ). l ++ (behind ∷ [])) (signed_plus z above ∙ ap decimal (sym is))

    pub plain_room : at + length number ≤ length b
    plain_room = omega (arith, fits, ap length same)

    pub above_wrote : {r : ℕ} {e : List ℕ} → Wrote b at number r e → Wrote b at (signed z ++ (behind ∷ [])) r e
    above_wrote k = wrote_as (sym same) k
