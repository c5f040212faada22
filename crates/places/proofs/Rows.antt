-- Laws of a row of entries whose keys ascend: where a key lies, what is looked up in it, and the row with one entry more.
-- Assumes nothing.
use mathlib.Core.Path.{◌≡◌, refl, sym, ap, ◌∙◌}
use mathlib.Core.Bool.{Bool, true, false, cond}
use mathlib.Core.List.{List, [], ◌∷◌, ◌++◌}
use Prim.Native.Nat.{ℕ, zero, suc, ◌+◌, ◌≤◌, ◌<◌}
use native.Mathlib.Omega.{arith}
use lib.Dec.{ltb, eqb}
use lib.ListN.{length, get_or, take, drop, length-take, length-drop, length-append}
use lib.Seq.{get_or-take, take_at, drop_at}
use borrow.Author.Tests.{ltb-true, ltb-false, lt-ltb, le-ltb, eq-eqb, ne_eqb, eqb-true, eqb-false}
use Rattle.places.specs.declared.Found.{Found}
use Rattle.places.specs.declared.Found.TheVariants.{At, Nowhere}
use Rattle.places.specs.Places.{sixteen_bits, entry_of, key_in, place_in, Above, Row, below, inserted, looked_up}

-- ---- an entry holds its key and its place
module _ (key place : ℕ) (small : place < sixteen_bits) where
  pub entry_key : key_in (entry_of key place) ≡ key
  unfolding key_in
  entry_key = omega arith

  pub entry_place : place_in (entry_of key place) ≡ place
  unfolding place_in
  entry_place = omega arith

-- ---- rows
above_at : (k : ℕ) (row : List ℕ) (i : ℕ) → Above k row → i < length row → k < key_in (get_or row i 0)
above_at k [] i a h = absurd (omega arith)
above_at k (e ∷ es) zero a h = a.0
above_at k (e ∷ es) (suc i) a h = above_at k es i a.1 (omega arith)

above_up : (k m : ℕ) (row : List ℕ) → k ≤ m → Above m row → Above k row
above_up k m [] l a = tt
above_up k m (e ∷ es) l a = (omega (arith, a.0), above_up k m es l a.1)

above_none : (k : ℕ) (row : List ℕ) → Above k row → looked_up k row ≡ Nowhere
unfolding looked_up
above_none k [] a = refl
above_none k (e ∷ es) a = rw (ne_eqb (key_in e) k (λ z. omega (arith, z, a.0))) (above_none k es a.1)

-- ---- where a key lies: two laws for a halving search
pub below_past : (k : ℕ) (row : List ℕ) (i : ℕ) → Row row → i < length row → key_in (get_or row i 0) < k → i < below k row
unfolding below
below_past k [] i r h l = absurd (omega arith)
below_past k (e ∷ es) zero r h l = rw (lt-ltb (key_in e) k l) (omega arith)
below_past k (e ∷ es) (suc i) r h l =
    let m : key_in e < key_in (get_or es i 0) = above_at (key_in e) es i r.0 (omega arith) in
    let b : i < below k es = below_past k es i r.1 (omega arith) l in
    rw (lt-ltb (key_in e) k (omega arith)) (omega arith)

pub below_stop : (k : ℕ) (row : List ℕ) (i : ℕ) → i < length row → k ≤ key_in (get_or row i 0) → below k row ≤ i
unfolding below
below_stop k [] i h l = absurd (omega arith)
below_stop k (e ∷ es) zero h l = rw (le-ltb (key_in e) k l) (omega arith)
below_stop k (e ∷ es) (suc i) h l = go (ltb (key_in e) k) (below_stop k es i (omega arith) l)
  where
    go : (t : Bool) → below k es ≤ i → cond t (suc (below k es)) 0 ≤ suc i
    go true b = omega arith
    go false b = omega arith

pub below_within : (k : ℕ) (row : List ℕ) → below k row ≤ length row
unfolding below
below_within k [] = omega arith
below_within k (e ∷ es) = go (ltb (key_in e) k) (below_within k es)
  where
    go : (t : Bool) → below k es ≤ length es → cond t (suc (below k es)) 0 ≤ suc (length es)
    go true b = omega arith
    go false b = omega arith

-- ---- what is looked up, by the place where the key would lie
pub found_at : (k : ℕ) (row : List ℕ) → below k row < length row → key_in (get_or row (below k row) 0) ≡ k → looked_up k row ≡ At (place_in (get_or row (below k row) 0))
unfolding below looked_up
found_at k [] h q = absurd (omega arith)
found_at k (e ∷ es) h q = go (ltb (key_in e) k) refl h q (λ x y. found_at k es x y)
  where
    go : (t : Bool) → ltb (key_in e) k ≡ t → cond t (suc (below k es)) 0 < suc (length es) → key_in (get_or (e ∷ es) (cond t (suc (below k es)) 0) 0) ≡ k
        → (below k es < length es → key_in (get_or es (below k es) 0) ≡ k → looked_up k es ≡ At (place_in (get_or es (below k es) 0)))
        → cond (eqb (key_in e) k) (At (place_in e)) (looked_up k es) ≡ At (place_in (get_or (e ∷ es) (cond t (suc (below k es)) 0) 0))
    go true p x y ih = rw (ne_eqb (key_in e) k (λ z. omega (arith, z, ltb-true (key_in e) k p))) (ih (omega arith) y)
    go false p x y ih = rw (eq-eqb (key_in e) k y)

pub found_none : (k : ℕ) (row : List ℕ) → Row row → (below k row < length row → key_in (get_or row (below k row) 0) ≡ k → ⊥) → looked_up k row ≡ Nowhere
unfolding below looked_up
found_none k [] r n = refl
found_none k (e ∷ es) r n = go (ltb (key_in e) k) refl n (λ x. found_none k es r.1 x)
  where
    go : (t : Bool) → ltb (key_in e) k ≡ t → (cond t (suc (below k es)) 0 < suc (length es) → key_in (get_or (e ∷ es) (cond t (suc (below k es)) 0) 0) ≡ k → ⊥)
        → ((below k es < length es → key_in (get_or es (below k es) 0) ≡ k → ⊥) → looked_up k es ≡ Nowhere)
        → cond (eqb (key_in e) k) (At (place_in e)) (looked_up k es) ≡ Nowhere
    go true p x ih = rw (ne_eqb (key_in e) k (λ z. omega (arith, z, ltb-true (key_in e) k p))) (ih (λ a b. x (omega arith) b))
    go false p x ih =
        let l : k ≤ key_in e = ltb-false (key_in e) k p in
        rw (ne_eqb (key_in e) k (λ z. x (omega arith) z)) (above_none k es (above_up k (key_in e) es l r.0))

-- ---- the row with one entry more
pub inserted_is : (e : ℕ) (row : List ℕ) → inserted e row ≡ take (below (key_in e) row) row ++ (e ∷ drop (below (key_in e) row) row)
unfolding inserted below
inserted_is e [] = refl
inserted_is e (x ∷ xs) = go (ltb (key_in x) (key_in e)) (inserted_is e xs)
  where
    go : (t : Bool) → inserted e xs ≡ take (below (key_in e) xs) xs ++ (e ∷ drop (below (key_in e) xs) xs)
        → cond t (x ∷ inserted e xs) (e ∷ (x ∷ xs))
        ≡ take (cond t (suc (below (key_in e) xs)) 0) (x ∷ xs) ++ (e ∷ drop (cond t (suc (below (key_in e) xs)) 0) (x ∷ xs))
    go true h = ap (λ (r : List ℕ). x ∷ r) h
    go false h = refl

pub inserted_length : (e : ℕ) (row : List ℕ) → length (inserted e row) ≡ suc (length row)
unfolding inserted
inserted_length e [] = refl
inserted_length e (x ∷ xs) = go (ltb (key_in x) (key_in e)) (inserted_length e xs)
  where
    go : (t : Bool) → length (inserted e xs) ≡ suc (length xs) → length (cond t (x ∷ inserted e xs) (e ∷ (x ∷ xs))) ≡ suc (suc (length xs))
    go true h = ap suc h
    go false h = refl

-- what is looked up in it: the new entry by its own key, all else as before. It holds of every row
pub looked_inserted : (k e : ℕ) (row : List ℕ) → looked_up k (inserted e row) ≡ cond (eqb (key_in e) k) (At (place_in e)) (looked_up k row)
unfolding inserted looked_up
looked_inserted k e [] = refl
looked_inserted k e (x ∷ xs) = go (ltb (key_in x) (key_in e)) refl (looked_inserted k e xs)
  where
    swapped : (s t : Bool) → (s ≡ true → t ≡ true → ⊥) → (a b r : Found) → cond s a (cond t b r) ≡ cond t b (cond s a r)
    swapped true true n a b r = absurd (n refl refl)
    swapped true false n a b r = refl
    swapped false true n a b r = refl
    swapped false false n a b r = refl

    go : (t : Bool) → ltb (key_in x) (key_in e) ≡ t → looked_up k (inserted e xs) ≡ cond (eqb (key_in e) k) (At (place_in e)) (looked_up k xs)
        → looked_up k (cond t (x ∷ inserted e xs) (e ∷ (x ∷ xs))) ≡ cond (eqb (key_in e) k) (At (place_in e)) (cond (eqb (key_in x) k) (At (place_in x)) (looked_up k xs))
    go true p h =
        ap (cond (eqb (key_in x) k) (At (place_in x))) h
        ∙ swapped (eqb (key_in x) k) (eqb (key_in e) k)
        (λ a b. omega (arith, ltb-true (key_in x) (key_in e) p, eqb-true (key_in x) k a, eqb-true (key_in e) k b)) _ _ _
    go false p h = refl

inserted_above : (k e : ℕ) (row : List ℕ) → k < key_in e → Above k row → Above k (inserted e row)
unfolding inserted
inserted_above k e [] l a = (l, tt)
inserted_above k e (x ∷ xs) l a = go (ltb (key_in x) (key_in e)) (inserted_above k e xs l a.1)
  where
    go : (t : Bool) → Above k (inserted e xs) → Above k (cond t (x ∷ inserted e xs) (e ∷ (x ∷ xs)))
    go true h = (a.0, h)
    go false h = (l, a)

-- a key that is not there yet keeps the keys ascending
pub inserted_row : (e : ℕ) (row : List ℕ) → Row row → looked_up (key_in e) row ≡ Nowhere → Row (inserted e row)
unfolding inserted looked_up
inserted_row e [] r n = (tt, tt)
inserted_row e (x ∷ xs) r n = go (ltb (key_in x) (key_in e)) refl (eqb (key_in x) (key_in e)) refl n (λ m. inserted_row e xs r.1 m)
  where
    go : (t : Bool) → ltb (key_in x) (key_in e) ≡ t → (u : Bool) → eqb (key_in x) (key_in e) ≡ u → cond u (At (place_in x)) (looked_up (key_in e) xs) ≡ Nowhere
        → (looked_up (key_in e) xs ≡ Nowhere → Row (inserted e xs)) → Row (cond t (x ∷ inserted e xs) (e ∷ (x ∷ xs)))
    go t p true q m ih = absurd (let z : ◌≡◌ {A = ℕ} 0 1 = cc in omega arith)
    go true p false q m ih = (inserted_above (key_in x) e xs (ltb-true (key_in x) (key_in e) p) r.0, ih m)
    go false p false q m ih =
        let l : key_in e < key_in x = omega (arith, ltb-false (key_in x) (key_in e) p, eqb-false (key_in x) (key_in e) q) in
        ((l, above_up (key_in e) (key_in x) xs (omega arith) r.0), r)

-- ---- the first n entries of a table as the row
module _ (k : ℕ) (t : List ℕ) (n i : ℕ) (h : i < n) (l : n ≤ length t) where
  pub past : Row (take n t) → key_in (get_or t i 0) < k → i < below k (take n t)
  past r e = below_past k (take n t) i r (omega (arith, length-take n t)) (rw (get_or-take n t i 0 h) e)

  pub stop : k ≤ key_in (get_or t i 0) → below k (take n t) ≤ i
  stop e = below_stop k (take n t) i (omega (arith, length-take n t)) (rw (get_or-take n t i 0 h) e)

pub row_within : (k : ℕ) (t : List ℕ) (n : ℕ) → below k (take n t) ≤ n
row_within k t n = omega (arith, below_within k (take n t), length-take n t)

-- what is looked up in it, by the place `at` at which the search ended
module _ (k : ℕ) (t : List ℕ) (n at : ℕ) (is : at ≡ below k (take n t)) where
  pub missed_end : Row (take n t) → n ≤ at → looked_up k (take n t) ≡ Nowhere
  missed_end r h = found_none k (take n t) r (λ l e. omega (arith, l, is, length-take n t))

  module _ (h : at < n) (l : n ≤ length t) where
    entry_at : get_or (take n t) (below k (take n t)) 0 ≡ get_or t at 0
    entry_at = rw (sym is) (get_or-take n t at 0 h)

    pub missed : Row (take n t) → (key_in (get_or t at 0) ≡ k → ⊥) → looked_up k (take n t) ≡ Nowhere
    missed r e = found_none k (take n t) r (λ z q. e (ap key_in (sym entry_at) ∙ q))

    pub hit : key_in (get_or t at 0) ≡ k → looked_up k (take n t) ≡ At (place_in (get_or t at 0))
    hit e = found_at k (take n t) (omega (arith, is, length-take n t)) (ap key_in entry_at ∙ e) ∙ ap (λ (x : ℕ). At (place_in x)) entry_at

-- a table x that is t with an entry e more in its row of n entries
module _ (t x : List ℕ) (n e : ℕ) (l : n < length t) (is : x ≡ inserted e (take n t) ++ drop (n + 1) t) where
  row_size : length (inserted e (take n t)) ≡ n + 1
  row_size = omega (arith, inserted_length e (take n t), length-take n t)

  pub taken_row : take (n + 1) x ≡ inserted e (take n t)
  taken_row = rw is (take_at (inserted e (take n t)) (drop (n + 1) t) (n + 1) row_size)

  pub behind_row : drop (n + 1) x ≡ drop (n + 1) t
  behind_row = rw is (drop_at (inserted e (take n t)) (drop (n + 1) t) (n + 1) row_size)

  pub still_row : Row (take n t) → looked_up (key_in e) (take n t) ≡ Nowhere → Row (take (n + 1) x)
  still_row r m = rw taken_row (inserted_row e (take n t) r m)

  pub same_size : length x ≡ length t
  same_size = ap length is ∙ omega (arith, length-append (inserted e (take n t)) (drop (n + 1) t), row_size, length-drop (n + 1) t)
