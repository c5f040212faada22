-- Bytes that are written one behind the other.
-- Assumes nothing.
use mathlib.Core.Path.{◌≡◌, refl, sym, ap, ◌∙◌, subst}
use mathlib.Core.List.{List, [], ◌∷◌, ◌++◌, append_assoc}
use Prim.Native.Nat.{ℕ, zero, suc, ◌+◌, ◌≤◌, ◌<◌}
use native.Mathlib.Nat.{add-zero}
use native.Mathlib.Numerals.{add-one}
use native.Mathlib.Omega.{arith}
use lib.ListN.{length, set, drop, take, length-append}
use lib.Seq.{set_split}
use Rattle.octets.specs.Bytes.{laid}
use Rattle.octets.proofs.Laying.{laid_nil, laid_on, length_laid}
use Rattle.decimal.specs.Wrote.{Wrote}

-- ---- one byte
byte_laid : (b : List ℕ) (at x : ℕ) → at < length b → set b at x ≡ laid b at (x ∷ [])
unfolding laid
byte_laid b at x h = set_split b at x h ∙ ap (λ (n : ℕ). take at b ++ (x ∷ drop n b)) (sym (add-one at))

pub byte_wrote : (b : List ℕ) (at x : ℕ) → at < length b → Wrote b at (x ∷ []) (at + 1) (set b at x)
byte_wrote b at x h = record { place = refl; bytes = byte_laid b at x h }

-- a byte before bytes that were written
set_last : (b : List ℕ) (m x : ℕ) (r : List ℕ) → m < length b → set (take (suc m) b ++ r) m x ≡ take m b ++ (x ∷ r)
set_last [] m x r h = absurd (omega (arith, h))
set_last (y ∷ b) zero x r h = refl
set_last (y ∷ b) (suc m) x r h = ap (λ (l : List ℕ). y ∷ l) (set_last b m x r (omega arith))

pub before_laid : (b : List ℕ) (m x : ℕ) (w : List ℕ) → m < length b → set (laid b (suc m) w) m x ≡ laid b m (x ∷ w)
unfolding laid
before_laid b m x w h =
    let e : suc m + length w ≡ m + suc (length w) = omega arith in
    set_last b m x (w ++ drop (suc m + length w) b) h ∙ ap (λ (n : ℕ). take m b ++ (x ∷ (w ++ drop n b))) e

-- ---- nothing
pub nothing_wrote : (b : List ℕ) (at : ℕ) → Wrote b at [] at b
nothing_wrote b at = record { place = sym (add-zero at); bytes = sym (laid_nil b at) }

pub wrote_as : {b : List ℕ} {at : ℕ} {v w : List ℕ} {n : ℕ} {e : List ℕ} → v ≡ w → Wrote b at v n e → Wrote b at w n e
wrote_as {b} {at} {v} {w} {n} {e} h k = subst (λ (l : List ℕ). Wrote b at l n e) h k

-- ---- a text in parts
-- `all` is being written into b from `at` on: by now the buffer is c, the next place is m, and `rest` is still to be written
pub record Going (b : List ℕ) (at : ℕ) (all c : List ℕ) (m : ℕ) (rest : List ℕ) : Type 0 where
  pub done : List ℕ
  pub parts : done ++ rest ≡ all
  pub wrote : Wrote b at done m c
  pub inside : m ≤ length b

pub begin : (b : List ℕ) (at : ℕ) (all : List ℕ) → at ≤ length b → Going b at all b at all
begin b at all h = record { done = []; parts = refl; wrote = nothing_wrote b at; inside = h }

module _ {b : List ℕ} {at : ℕ} {all c : List ℕ} {m : ℕ} where
  pub kept : {rest : List ℕ} → Going b at all c m rest → length c ≡ length b
  kept g = ap length g.wrote.bytes ∙ length_laid b at g.done (omega (arith, g.wrote.place, g.inside))

  total : {rest : List ℕ} → (g : Going b at all c m rest) → length all ≡ length g.done + length rest
  total {rest} g = ap length (sym g.parts) ∙ length-append g.done rest

  -- what is left has room where all has
  pub room : {rest : List ℕ} → Going b at all c m rest → at + length all ≤ length b → m + length rest ≤ length c
  room g h = omega (arith, h, kept g, total g, g.wrote.place)

  pub first_room : (v w : List ℕ) → Going b at all c m (v ++ w) → at + length all ≤ length b → m + length v ≤ length c
  first_room v w g h = omega (arith, room g h, length-append v w)

  on : {rest : List ℕ} (g : Going b at all c m rest) (v : List ℕ) {n : ℕ} {e : List ℕ} → Wrote c m v n e → Wrote b at (g.done ++ v) n e
  on g v {n} {e} k = record {
    place = omega (arith, k.place, g.wrote.place, length-append g.done v);
    bytes = k.bytes ∙ ap (λ (l : List ℕ). laid l m v) g.wrote.bytes ∙ laid_on b at g.done v m (sym g.wrote.place) g.inside;
  }

  -- one part more
  pub next : (v : List ℕ) {w : List ℕ} {n : ℕ} {e : List ℕ} → Going b at all c m (v ++ w) → m + length v ≤ length c → Wrote c m v n e → Going b at all e n w
  next v {w} g h k = record {
    done = g.done ++ v;
    parts = append_assoc g.done v w ∙ g.parts;
    wrote = on g v k;
    inside = omega (arith, h, kept g, k.place);
  }

  -- the last part
  pub last : {rest : List ℕ} {n : ℕ} {e : List ℕ} → Going b at all c m rest → Wrote c m rest n e → Wrote b at all n e
  last {rest} {n} {e} g k = rw g.parts at (on g rest k)

  pub ended : Going b at all c m [] → Wrote b at all m c
  ended g = last g (nothing_wrote c m)

-- ---- a text in two parts, where both have room, and where all has
pub behind : {b : List ℕ} {at : ℕ} (v w : List ℕ) {m n : ℕ} {c e : List ℕ} → Wrote b at v m c → m ≤ length b → Wrote c m w n e → Wrote b at (v ++ w) n e
behind {b} {at} v w {m} {n} {c} {e} one h two = record {
  place = omega (arith, one.place, two.place, length-append v w);
  bytes = two.bytes ∙ ap (λ (l : List ℕ). laid l m w) one.bytes ∙ laid_on b at v w m (sym one.place) h;
}

module _ (b : List ℕ) (at : ℕ) {all : List ℕ} (v w : List ℕ) (parts : all ≡ v ++ w) (fits : at + length all ≤ length b) where
  begun : Going b at all b at (v ++ w)
  begun = subst (λ (l : List ℕ). Going b at all b at l) parts (begin b at all (omega arith))

  pub two_first : at + length v ≤ length b
  two_first = first_room v w begun fits

  module _ {m : ℕ} {c : List ℕ} (one : Wrote b at v m c) where
    pub two_second : m + length w ≤ length c
    two_second = room (next v begun two_first one) fits

    pub two : {n : ℕ} {e : List ℕ} → Wrote c m w n e → Wrote b at all n e
    two k = last (next v begun two_first one) k
