-- Words laid one after the other.
-- Assumes nothing.
use mathlib.Core.Path.{◌≡◌, sym, ap, ◌∙◌}
use mathlib.Core.List.{List, [], ◌∷◌, ◌++◌}
use Prim.Native.Nat.{ℕ, suc, ◌+◌, ◌≤◌, ◌<◌}
use native.Mathlib.Omega.{arith}
use lib.ListN.{length, get_or, take, drop, set}
use lib.Seq.{take-suc, set_split, length-take-le}
use Rattle.octets.specs.Bytes.{laid}
use Rattle.octets.proofs.Laying.{length_laid, laid_on}

one_laid : (b : List ℕ) (n x : ℕ) → n < length b → set b n x ≡ laid b n (x ∷ [])
unfolding laid
one_laid b n x h = let one : suc n ≡ n + 1 = omega arith in set_split b n x h ∙ ap (λ (k : ℕ). take n b ++ (x ∷ drop k b)) one

-- one more of the words, stored behind those that are laid
pub next_laid : (b : List ℕ) (at : ℕ) (words : List ℕ) (i : ℕ) → i < length words → at + length words ≤ length b
    → set (laid b at (take i words)) (at + i) (get_or words i 0) ≡ laid b at (take (i + 1) words)
next_laid b at words i h k =
    let l : length (take i words) ≡ i = length-take-le i words (omega arith) in
    let n : length (laid b at (take i words)) ≡ length b = length_laid b at (take i words) (omega arith) in
    let one : i + 1 ≡ suc i = omega arith in
    let more : take (i + 1) words ≡ take i words ++ (get_or words i 0 ∷ []) = ap (λ (k : ℕ). take k words) one ∙ take-suc words i 0 h in
    one_laid (laid b at (take i words)) (at + i) (get_or words i 0) (omega arith)
    ∙ laid_on b at (take i words) (get_or words i 0 ∷ []) (at + i) (ap (λ (m : ℕ). at + m) l) (omega arith)
    ∙ ap (laid b at) (sym more)
