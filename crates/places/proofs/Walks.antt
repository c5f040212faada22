-- What is looked up in the table equals what the walk along the lines finds. 02, request 8: "Prove that each finding equals the first layout's walk along the tape".
-- Assumes nothing.
use mathlib.Core.Path.{◌≡◌, refl, sym, ap, ◌∙◌, subst}
use mathlib.Core.Bool.{Bool, true, false, cond}
use mathlib.Core.List.{List, [], ◌∷◌}
use Prim.Native.Nat.{ℕ, ◌≤◌, ◌<◌}
use native.Mathlib.Omega.{arith}
use lib.Dec.{T, ltb, eqb}
use borrow.Author.Tests.{eq-eqb, ne_eqb, eqb-true, eqb-false, ltb-true, ltb-false}
use Rattle.places.specs.declared.Found.{Found}
use Rattle.places.specs.declared.Found.TheVariants.{At, Nowhere}
use Rattle.places.specs.Places.{sixteen_bits, line_key, block_key, entry_of, key_in, Row, inserted, looked_up, is_at, is_held, highest_slot, block_in}
use Rattle.places.specs.Lines.{Kind, program, block, passed, Line, no_program, program_after, row_after, tabled, Fresh, Accepted, program_here, walked_program, block_here, walked_block, behind_here, behind}
use Rattle.places.proofs.Rows.{entry_key, entry_place, looked_inserted, inserted_row}

-- ---- keys
pub line_keys : (m n : ℕ) → line_key m ≡ line_key n → m ≡ n
line_keys m n e = omega arith

pub line_block : (m p n : ℕ) → n < no_program → line_key m ≡ block_key p n → ⊥
line_block m p n h e = omega arith

pub block_line : (p n m : ℕ) → n < no_program → block_key p n ≡ line_key m → ⊥
block_line p n m h e = omega arith

pub block_programs : (c m p n : ℕ) → m < no_program → n < no_program → block_key c m ≡ block_key p n → c ≡ p
block_programs c m p n h l e = omega arith

pub block_numbers : (p m n : ℕ) → block_key p m ≡ block_key p n → m ≡ n
block_numbers p m n e = omega arith

-- ---- one entry more
module _ (key place : ℕ) (small : place < sixteen_bits) (row : List ℕ) where
  pub looked_own : looked_up key (inserted (entry_of key place) row) ≡ At place
  looked_own =
      looked_inserted key (entry_of key place) row
      ∙ rw (eq-eqb (key_in (entry_of key place)) key (entry_key key place small)) (ap At (entry_place key place small))

  pub looked_other : (k : ℕ) → (key ≡ k → ⊥) → looked_up k (inserted (entry_of key place) row) ≡ looked_up k row
  looked_other k n =
      looked_inserted k (entry_of key place) row ∙ rw (ne_eqb (key_in (entry_of key place)) k (λ z. n (sym (entry_key key place small) ∙ z)))

  pub still : Row row → looked_up key row ≡ Nowhere → Row (inserted (entry_of key place) row)
  still r n = inserted_row (entry_of key place) row r (ap (λ (k : ℕ). looked_up k row) (entry_key key place small) ∙ n)

  pub held_own : is_held key (inserted (entry_of key place) row) ≡ true
  unfolding is_held
  held_own = ap is_at looked_own

  pub held_other : (k : ℕ) → (key ≡ k → ⊥) → is_held k (inserted (entry_of key place) row) ≡ is_held k row
  unfolding is_held
  held_other k n = ap is_at (looked_other k n)

pub not_held : (k : ℕ) (row : List ℕ) → is_held k row ≡ false → looked_up k row ≡ Nowhere
unfolding is_held
not_held k row e = by (looked_up k row) e
  where
    by : (f : Found) → is_at f ≡ false → f ≡ Nowhere
    by Nowhere e = refl
    by (At q) e = absurd (subst T e tt)

-- ---- one line more
not_both : (f : Found) (q : ℕ) → f ≡ Nowhere → f ≡ At q → ⊥
not_both f q a b = let z : ◌≡◌ {A = ℕ} 0 1 = cc in omega arith

other_than : (k key : ℕ) (row : List ℕ) (q : ℕ) → looked_up key row ≡ Nowhere → looked_up k row ≡ At q → key ≡ k → ⊥
other_than k key row q n a e = not_both (looked_up k row) q (ap (λ (x : ℕ). looked_up x row) (sym e) ∙ n) a

module _ (p : ℕ) (row : List ℕ) where
  row_step : (kind : Kind) (place : ℕ) → Fresh p row kind → place < sixteen_bits → Row row → Row (row_after p row kind place)
  unfolding row_after
  row_step (program n) place f s r = still (line_key n) place s row r f.1
  row_step (block n) place f s r = still (block_key p n) place s row r f.1
  row_step passed place f s r = r

  -- what was found is found as before
  kept_step : (k q : ℕ) (kind : Kind) (place : ℕ) → Fresh p row kind → place < sixteen_bits → looked_up k row ≡ At q → looked_up k (row_after p row kind place) ≡ At q
  unfolding row_after
  kept_step k q (program n) place f s a = looked_other (line_key n) place s row k (other_than k (line_key n) row q f.1 a) ∙ a
  kept_step k q (block n) place f s a = looked_other (block_key p n) place s row k (other_than k (block_key p n) row q f.1 a) ∙ a
  kept_step k q passed place f s a = a

-- ---- some lines more
pub tabled_row : (ls : List Line) (p : ℕ) (row : List ℕ) → Accepted p row ls → Row row → Row (tabled p row ls)
unfolding tabled
tabled_row [] p row a r = r
tabled_row (l ∷ ls) p row a r = tabled_row ls (program_after p l.kind) (row_after p row l.kind l.place) a.2 (row_step p row l.kind l.place a.0 a.1 r)

kept : (ls : List Line) (p : ℕ) (row : List ℕ) (k q : ℕ) → Accepted p row ls → looked_up k row ≡ At q → looked_up k (tabled p row ls) ≡ At q
unfolding tabled
kept [] p row k q a e = e
kept (l ∷ ls) p row k q a e = kept ls (program_after p l.kind) (row_after p row l.kind l.place) k q a.2 (kept_step p row k q l.kind l.place a.0 a.1 e)

-- ---- a program
program_found : (n : ℕ) (ls : List Line) (p : ℕ) (row : List ℕ) → Accepted p row ls → looked_up (line_key n) row ≡ Nowhere
    → looked_up (line_key n) (tabled p row ls) ≡ walked_program n ls
unfolding tabled walked_program row_after
program_found n [] p row a e = e
program_found n (l ∷ ls) p row a e = by l.kind l.place a.0 a.1 a.2 (λ c r b f. program_found n ls c r b f)
  where
    by : (kind : Kind) (place : ℕ) → Fresh p row kind → place < sixteen_bits → Accepted (program_after p kind) (row_after p row kind place) ls
        → ((c : ℕ) (r : List ℕ) → Accepted c r ls → looked_up (line_key n) r ≡ Nowhere → looked_up (line_key n) (tabled c r ls) ≡ walked_program n ls)
        → looked_up (line_key n) (tabled (program_after p kind) (row_after p row kind place) ls) ≡ program_here n kind place (walked_program n ls)
    by (program m) place f s b rest = which (eqb m n) refl
      where
        which : (t : Bool) → eqb m n ≡ t → looked_up (line_key n) (tabled m (inserted (entry_of (line_key m) place) row) ls) ≡ cond t (At place) (walked_program n ls)
        which true q = kept ls m (inserted (entry_of (line_key m) place) row) (line_key n) place b (ap (λ (x : ℕ). looked_up (line_key x) (inserted (entry_of (line_key m) place) row)) (sym (eqb-true m n q)) ∙ looked_own (line_key m) place s row)
        which false q = rest m (inserted (entry_of (line_key m) place) row) b (looked_other (line_key m) place s row (line_key n) (λ z. eqb-false m n q (line_keys m n z)) ∙ e)
    by (block m) place f s b rest = rest p (inserted (entry_of (block_key p m) place) row) b (looked_other (block_key p m) place s row (line_key n) (block_line p m n f.0) ∙ e)
    by passed place f s b rest = rest p row b e

-- ---- a block
-- no line behind the next program's is one of the program p, which has its line already
none_behind : (p n q : ℕ) (ls : List Line) (c : ℕ) (row : List ℕ) → n < no_program → (c ≡ p → ⊥) → Accepted c row ls → looked_up (line_key p) row ≡ At q → looked_up (block_key p n) row ≡ Nowhere
    → looked_up (block_key p n) (tabled c row ls) ≡ Nowhere
unfolding tabled row_after
none_behind p n q [] c row small apart a has e = e
none_behind p n q (l ∷ ls) c row small apart a has e =
    by l.kind l.place a.0 a.1 a.2 (kept_step c row (line_key p) q l.kind l.place a.0 a.1 has) (λ d r x b h f. none_behind p n q ls d r small x b h f)
  where
    by : (kind : Kind) (place : ℕ) → Fresh c row kind → place < sixteen_bits → Accepted (program_after c kind) (row_after c row kind place) ls → looked_up (line_key p) (row_after c row kind place) ≡ At q
        → ((d : ℕ) (r : List ℕ) → (d ≡ p → ⊥) → Accepted d r ls → looked_up (line_key p) r ≡ At q → looked_up (block_key p n) r ≡ Nowhere → looked_up (block_key p n) (tabled d r ls) ≡ Nowhere)
        → looked_up (block_key p n) (tabled (program_after c kind) (row_after c row kind place) ls) ≡ Nowhere
    by (program m) place f s b h rest =
        rest m (inserted (entry_of (line_key m) place) row) (λ z. other_than (line_key p) (line_key m) row q f.1 has (ap line_key z)) b h
        (looked_other (line_key m) place s row (block_key p n) (line_block m p n small) ∙ e)
    by (block m) place f s b h rest =
        rest c (inserted (entry_of (block_key c m) place) row) apart b h
        (looked_other (block_key c m) place s row (block_key p n) (λ z. apart (block_programs c m p n f.0 small z)) ∙ e)
    by passed place f s b h rest = rest c row apart b h e

-- the program p is the present one
block_here_lem : (p n q : ℕ) (ls : List Line) (row : List ℕ) → n < no_program → Accepted p row ls → looked_up (line_key p) row ≡ At q → looked_up (block_key p n) row ≡ Nowhere
    → looked_up (block_key p n) (tabled p row ls) ≡ walked_block n ls
unfolding tabled walked_block row_after
block_here_lem p n q [] row small a has e = e
block_here_lem p n q (l ∷ ls) row small a has e =
    by l.kind l.place a.0 a.1 a.2 (kept_step p row (line_key p) q l.kind l.place a.0 a.1 has) (λ r b h f. block_here_lem p n q ls r small b h f)
  where
    by : (kind : Kind) (place : ℕ) → Fresh p row kind → place < sixteen_bits → Accepted (program_after p kind) (row_after p row kind place) ls → looked_up (line_key p) (row_after p row kind place) ≡ At q
        → ((r : List ℕ) → Accepted p r ls → looked_up (line_key p) r ≡ At q → looked_up (block_key p n) r ≡ Nowhere → looked_up (block_key p n) (tabled p r ls) ≡ walked_block n ls)
        → looked_up (block_key p n) (tabled (program_after p kind) (row_after p row kind place) ls) ≡ block_here n kind place (walked_block n ls)
    by (program m) place f s b h rest =
        none_behind p n q ls m (inserted (entry_of (line_key m) place) row) small (λ z. other_than (line_key p) (line_key m) row q f.1 has (ap line_key z)) b h
        (looked_other (line_key m) place s row (block_key p n) (line_block m p n small) ∙ e)
    by (block m) place f s b h rest = which (eqb m n) refl
      where
        which : (t : Bool) → eqb m n ≡ t → looked_up (block_key p n) (tabled p (inserted (entry_of (block_key p m) place) row) ls) ≡ cond t (At place) (walked_block n ls)
        which true z = kept ls p (inserted (entry_of (block_key p m) place) row) (block_key p n) place b
            (ap (λ (x : ℕ). looked_up (block_key p x) (inserted (entry_of (block_key p m) place) row)) (sym (eqb-true m n z)) ∙ looked_own (block_key p m) place s row)
        which false z = rest (inserted (entry_of (block_key p m) place) row) b h
            (looked_other (block_key p m) place s row (block_key p n) (λ y. eqb-false m n z (block_numbers p m n y)) ∙ e)
    by passed place f s b h rest = rest row b h e

-- the program p is still to come
block_ahead : (p n : ℕ) (ls : List Line) (c : ℕ) (row : List ℕ) → n < no_program → (c ≡ p → ⊥) → Accepted c row ls → looked_up (block_key p n) row ≡ Nowhere
    → looked_up (block_key p n) (tabled c row ls) ≡ walked_block n (behind p ls)
unfolding tabled walked_block behind row_after
block_ahead p n [] c row small apart a e = e
block_ahead p n (l ∷ ls) c row small apart a e = by l.kind l.place a.0 a.1 a.2 (λ d r x b f. block_ahead p n ls d r small x b f)
  where
    by : (kind : Kind) (place : ℕ) → Fresh c row kind → place < sixteen_bits → Accepted (program_after c kind) (row_after c row kind place) ls
        → ((d : ℕ) (r : List ℕ) → (d ≡ p → ⊥) → Accepted d r ls → looked_up (block_key p n) r ≡ Nowhere → looked_up (block_key p n) (tabled d r ls) ≡ walked_block n (behind p ls))
        → looked_up (block_key p n) (tabled (program_after c kind) (row_after c row kind place) ls) ≡ walked_block n (behind_here p kind ls (behind p ls))
    by (program m) place f s b rest = which (eqb m p) refl
      where
        none : looked_up (block_key p n) (inserted (entry_of (line_key m) place) row) ≡ Nowhere
        none = looked_other (line_key m) place s row (block_key p n) (line_block m p n small) ∙ e

        which : (t : Bool) → eqb m p ≡ t → looked_up (block_key p n) (tabled m (inserted (entry_of (line_key m) place) row) ls) ≡ walked_block n (cond t ls (behind p ls))
        which true z =
            let same : m ≡ p = eqb-true m p z in
            let r : List ℕ = inserted (entry_of (line_key m) place) row in
            ap (λ (x : ℕ). looked_up (block_key p n) (tabled x r ls)) same
            ∙ block_here_lem p n place ls r small (subst (λ (x : ℕ). Accepted x r ls) same b) (ap (λ (x : ℕ). looked_up (line_key x) r) (sym same) ∙ looked_own (line_key m) place s row) none
        which false z = rest m (inserted (entry_of (line_key m) place) row) (eqb-false m p z) b none
    by (block m) place f s b rest =
        rest c (inserted (entry_of (block_key c m) place) row) apart b
        (looked_other (block_key c m) place s row (block_key p n) (λ z. apart (block_programs c m p n f.0 small z)) ∙ e)
    by passed place f s b rest = rest c row apart b e

-- ---- the numbers of accepted lines are small, so that a walk for another finds nothing
abbrev SmallKind : Kind → Type 0
SmallKind (program n) = n < no_program
SmallKind (block n) = n < no_program
SmallKind passed = Unit {0}

abbrev Small : List Line → Type 0
Small [] = Unit {0}
Small (l ∷ ls) = SmallKind l.kind × Small ls

small_kind : (p : ℕ) (row : List ℕ) (kind : Kind) → Fresh p row kind → SmallKind kind
small_kind p row (program n) f = f.0
small_kind p row (block n) f = f.0
small_kind p row passed f = tt

small : (ls : List Line) (p : ℕ) (row : List ℕ) → Accepted p row ls → Small ls
small [] p row a = tt
small (l ∷ ls) p row a = (small_kind p row l.kind a.0, small ls (program_after p l.kind) (row_after p row l.kind l.place) a.2)

small_behind : (n : ℕ) (ls : List Line) → Small ls → Small (behind n ls)
unfolding behind
small_behind n [] s = tt
small_behind n (l ∷ ls) s = by l.kind (small_behind n ls s.1)
  where
    by : (kind : Kind) → Small (behind n ls) → Small (behind_here n kind ls (behind n ls))
    by (program m) rest = which (eqb m n)
      where
        which : (t : Bool) → Small (cond t ls (behind n ls))
        which true = s.1
        which false = rest
    by (block m) rest = rest
    by passed rest = rest

no_block : (n : ℕ) (ls : List Line) → no_program ≤ n → Small ls → walked_block n ls ≡ Nowhere
unfolding walked_block
no_block n [] h s = refl
no_block n (l ∷ ls) h s = by l.kind s.0 (no_block n ls h s.1)
  where
    by : (kind : Kind) → SmallKind kind → walked_block n ls ≡ Nowhere → block_here n kind l.place (walked_block n ls) ≡ Nowhere
    by (program m) k rest = refl
    by (block m) k rest = rw (ne_eqb m n (λ z. omega (arith, z, k))) rest
    by passed k rest = rest

program_small : (n q : ℕ) (ls : List Line) → Small ls → walked_program n ls ≡ At q → n < no_program
unfolding walked_program
program_small n q [] s e = absurd (not_both Nowhere q refl e)
program_small n q (l ∷ ls) s e = by l.kind s.0 e (λ z. program_small n q ls s.1 z)
  where
    by : (kind : Kind) → SmallKind kind → program_here n kind l.place (walked_program n ls) ≡ At q → (walked_program n ls ≡ At q → n < no_program) → n < no_program
    by (program m) k z rest = which (eqb m n) refl z
      where
        which : (t : Bool) → eqb m n ≡ t → cond t (At l.place) (walked_program n ls) ≡ At q → n < no_program
        which true y z = omega (arith, eqb-true m n y, k)
        which false y z = rest z
    by (block m) k z rest = rest z
    by passed k z rest = rest z

-- ---- THE LAWS: the table of some accepted lines, from nothing
nothing : (k : ℕ) → looked_up k [] ≡ Nowhere
unfolding looked_up
nothing k = refl

module _ (ls : List Line) (accepted : Accepted no_program [] ls) where
  pub table_row : Row (tabled no_program [] ls)
  table_row = tabled_row ls no_program [] accepted tt

  pub table_program : (n : ℕ) → looked_up (line_key n) (tabled no_program [] ls) ≡ walked_program n ls
  table_program n = program_found n ls no_program [] accepted (nothing (line_key n))

  pub table_block : (p q n : ℕ) → walked_program p ls ≡ At q → block_in p n (tabled no_program [] ls) ≡ walked_block n (behind p ls)
  unfolding block_in
  table_block p q n e = by (ltb n highest_slot) refl
    where
      all : Small ls
      all = small ls no_program [] accepted

      by : (t : Bool) → ltb n highest_slot ≡ t → cond t (looked_up (block_key p n) (tabled no_program [] ls)) Nowhere ≡ walked_block n (behind p ls)
      by true z =
          block_ahead p n ls no_program [] (ltb-true n highest_slot z) (λ y. omega (arith, y, program_small p q ls all e)) accepted (nothing (block_key p n))
      by false z = sym (no_block n (behind p ls) (ltb-false n highest_slot z) (small_behind p ls all))
