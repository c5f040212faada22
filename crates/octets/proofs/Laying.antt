-- Laws of `laid`, a buffer with some bytes in the place of others.
-- Assumes nothing.
use mathlib.Core.Path.{◌≡◌, sym, ap, ◌∙◌, subst}
use mathlib.Core.List.{List, [], ◌∷◌, ◌++◌, append_assoc, append-nil}
use Prim.Native.Nat.{ℕ, suc, ◌+◌, ◌-◌, ◌≤◌}
use native.Mathlib.Nat.{add-zero, zero-add, add_assoc}
use native.Mathlib.Omega.{arith}
use lib.ListN.{length, get_or, take, drop, set, length-append, length-drop, take-append-drop, drop_of_length-le}
use lib.Seq.{take_at, drop_at, drop-drop, take_all, length-take-le, sets-eq}
use borrow.Rule.Slice.PartMut.{put_mid}
use Rattle.octets.specs.Bytes.{laid}

pub laid_nil : (b : List ℕ) (at : ℕ) → laid b at [] ≡ b
unfolding laid
laid_nil b at = rw (add-zero) (take-append-drop at b)

pub length_laid : (b : List ℕ) (at : ℕ) (w : List ℕ) → at + length w ≤ length b → length (laid b at w) ≡ length b
unfolding laid
length_laid b at w h = simp (length-append, length-take-le at b (omega arith), length-drop) (omega arith)

pub laid_laid : (b : List ℕ) (at : ℕ) (v w : List ℕ) → at + length v ≤ length b → laid (laid b at v) (at + length v) w ≡ laid b at (v ++ w)
unfolding laid
laid_laid b at v w h =
    let n : ℕ = at + length v in
    let p : List ℕ = take at b ++ v in
    let lp : length p ≡ n = simp (length-append, length-take-le at b (omega arith)) in
    let ex : take at b ++ (v ++ drop n b) ≡ p ++ drop n b = sym (append_assoc (take at b) v (drop n b)) in
    let t1 : take n (take at b ++ (v ++ drop n b)) ≡ p = ap (take n) ex ∙ take_at p (drop n b) n lp in
    let d1 : drop n (take at b ++ (v ++ drop n b)) ≡ drop n b = ap (drop n) ex ∙ drop_at p (drop n b) n lp in
    let d2 : drop (n + length w) (take at b ++ (v ++ drop n b)) ≡ drop (at + length (v ++ w)) b =
    sym (drop-drop (length w) n (take at b ++ (v ++ drop n b))) ∙ ap (drop (length w)) d1 ∙ drop-drop (length w) n b
    ∙ ap (λ (k : ℕ). drop k b) (add_assoc at (length v) (length w) ∙ ap (λ (k : ℕ). at + k) (sym (length-append v w))) in
    ap (λ (x : List ℕ). x ++ (w ++ drop (n + length w) (take at b ++ (v ++ drop n b)))) t1
    ∙ ap (λ (x : List ℕ). p ++ (w ++ x)) d2
    ∙ append_assoc (take at b) v (w ++ drop (at + length (v ++ w)) b)
    ∙ ap (λ (x : List ℕ). take at b ++ x) (sym (append_assoc v w (drop (at + length (v ++ w)) b)))

-- a part from `a` on that was lent, and came back with w laid at its front
pub lent : (b : List ℕ) (a : ℕ) (w ys : List ℕ) → ys ≡ laid (take (length b - a) (drop a b)) 0 w → put_mid a (length b - a) b ys ≡ laid b a w
unfolding laid
lent b a w ys e =
    let k : ℕ = length b - a in
    let l : length (drop a b) ≤ k = omega (arith, length-drop a b) in
    ap (λ (x : List ℕ). take a b ++ (x ++ drop k (drop a b))) (e ∙ ap (λ (n : ℕ). w ++ drop n (take k (drop a b))) (zero-add (length w)))
    ∙ ap (λ (x : List ℕ). take a b ++ ((w ++ drop (length w) x) ++ drop k (drop a b))) (take_all k (drop a b) l)
    ∙ ap (λ (x : List ℕ). take a b ++ ((w ++ drop (length w) (drop a b)) ++ x)) (drop_of_length-le (drop a b) l)
    ∙ ap (λ (x : List ℕ). take a b ++ x) (append-nil (w ++ drop (length w) (drop a b)))
    ∙ ap (λ (x : List ℕ). take a b ++ (w ++ x)) (drop-drop (length w) a b)

-- a part of k from `a` on that was lent, and came back with w in its place
pub lent_part : (b : List ℕ) (a k : ℕ) (w ys : List ℕ) → a + k ≤ length b → ys ≡ w → length ys ≡ length (take k (drop a b)) → put_mid a k b ys ≡ laid b a w
unfolding laid
lent_part b a k w ys h e l =
    let room : k ≤ length (drop a b) = omega (arith, length-drop a b) in
    let as_many : k ≡ length w = sym (length-take-le k (drop a b) room) ∙ sym l ∙ ap length e in
    ap (put_mid a k b) e
    ∙ ap (λ (x : List ℕ). take a b ++ (w ++ x)) (drop-drop k a b ∙ ap (λ (n : ℕ). drop (a + n) b) as_many)

-- a part of k bytes from `at` on, into which w was copied
pub copied : (b : List ℕ) (at k : ℕ) (w : List ℕ) → k ≡ length w → put_mid at k b w ≡ laid b at w
unfolding laid
copied b at k w e = ap (λ (x : List ℕ). take at b ++ (w ++ x)) (ap (λ (n : ℕ). drop n (drop at b)) e ∙ drop-drop (length w) at b)

-- four bytes stored one after the other
pub four_laid : (b : List ℕ) (at : ℕ) (w : List ℕ) → length w ≡ 4 → at + 4 ≤ length b
    → set (set (set (set b at (get_or w 0 0)) (at + 1) (get_or w 1 0)) (at + 2) (get_or w 2 0)) (at + 3) (get_or w 3 0) ≡ laid b at w
unfolding laid
four_laid b at [] h k = absurd (omega arith)
four_laid b at (w0 ∷ []) h k = absurd (omega arith)
four_laid b at (w0 ∷ (w1 ∷ [])) h k = absurd (omega arith)
four_laid b at (w0 ∷ (w1 ∷ (w2 ∷ []))) h k = absurd (omega arith)
four_laid b at (w0 ∷ (w1 ∷ (w2 ∷ (w3 ∷ [])))) h k =
    let one : at + 1 ≡ suc at = omega arith in
    let two : at + 2 ≡ suc (suc at) = omega arith in
    let three : at + 3 ≡ suc (suc (suc at)) = omega arith in
    (λ i. set (set (set (set b at w0) (one i) w1) (two i) w2) (three i) w3) ∙ sets-eq (w0 ∷ (w1 ∷ (w2 ∷ (w3 ∷ [])))) b at k
    ∙ append_assoc (take at b) (w0 ∷ (w1 ∷ (w2 ∷ (w3 ∷ [])))) (drop (at + 4) b)
four_laid b at (w0 ∷ (w1 ∷ (w2 ∷ (w3 ∷ (w4 ∷ w))))) h k = absurd (omega arith)

-- bytes laid where others end are laid with them
pub laid_on : (b : List ℕ) (at : ℕ) (v w : List ℕ) (n : ℕ) → at + length v ≡ n → n ≤ length b → laid (laid b at v) n w ≡ laid b at (v ++ w)
laid_on b at v w n e h =
    ap (λ (k : ℕ). laid (laid b at v) k w) (sym e) ∙ laid_laid b at v w (subst (λ (k : ℕ). k ≤ length b) (sym e) h)
