-- Bytes taken from a list one by one, and its parts.
-- Assumes nothing.
use mathlib.Core.Path.{◌≡◌, sym, ap, ◌∙◌}
use mathlib.Core.List.{List, [], ◌∷◌}
use Prim.Native.Nat.{ℕ, suc, ◌+◌, ◌-◌, ◌*◌, ◌<◌, ◌≤◌}
use native.Mathlib.Omega.{arith}
use lib.ListN.{length, get_or, take, drop, length-drop}
use lib.Seq.{drop-cons, take_all}
use Rattle.octets.specs.Bytes.{value_of}
use Rattle.moves.specs.Reading.{number_at}

-- ---- the bytes from a place on
more : (b : List ℕ) (i n : ℕ) → i < length b → suc i ≡ n → drop i b ≡ get_or b i 0 ∷ drop n b
more b i n h e = drop-cons b i 0 h ∙ ap (λ (m : ℕ). get_or b i 0 ∷ drop m b) e

pub four_taken : (b : List ℕ) (at : ℕ) → at + 4 ≤ length b
    → get_or b at 0 ∷ get_or b (at + 1) 0 ∷ get_or b (at + 2) 0 ∷ get_or b (at + 3) 0 ∷ [] ≡ take 4 (drop at b)
four_taken b at h =
    let third = more b (at + 3) (at + 4) (omega arith) (omega arith) in
    let second = more b (at + 2) (at + 3) (omega arith) (omega arith) ∙ ap (λ (l : List ℕ). get_or b (at + 2) 0 ∷ l) third in
    let first = more b (at + 1) (at + 2) (omega arith) (omega arith) ∙ ap (λ (l : List ℕ). get_or b (at + 1) 0 ∷ l) second in
    sym (ap (take 4) (more b at (at + 1) (omega arith) (omega arith) ∙ ap (λ (l : List ℕ). get_or b at 0 ∷ l) first))

pub two_taken : (b : List ℕ) (at : ℕ) → at + 2 ≤ length b → get_or b at 0 ∷ get_or b (at + 1) 0 ∷ [] ≡ take 2 (drop at b)
two_taken b at h =
    let first = more b (at + 1) (at + 2) (omega arith) (omega arith) in
    sym (ap (take 2) (more b at (at + 1) (omega arith) (omega arith) ∙ ap (λ (l : List ℕ). get_or b at 0 ∷ l) first))

pub two_value : (b : List ℕ) (at x y : ℕ) → at + 2 ≤ length b → x ≡ get_or b at 0 → y ≡ get_or b (at + 1) 0 → x + 256 * y ≡ number_at b at 2
two_value b at x y h e f =
    let v : get_or b at 0 + 256 * (get_or b (at + 1) 0 + 256 * 0) ≡ number_at b at 2 = ap value_of (two_taken b at h) in
    omega (arith, v, e, f)

-- ---- a part from a place on
pub part_is : (b : List ℕ) (a : ℕ) → take (length b - a) (drop a b) ≡ drop a b
part_is b a = take_all (length b - a) (drop a b) (omega (arith, length-drop a b))
