-- The tests of the code are those of the definitions.
-- Assumes nothing.
use mathlib.Core.Path.{◌≡◌, refl, sym, ap, ◌∙◌}
use mathlib.Core.Bool.{Bool, true, false, cond, not, ◌&&◌, ◌||◌}
use mathlib.Core.List.{List}
use Prim.Native.Nat.{ℕ, suc, ◌+◌, ◌-◌, ◌<◌, ◌≤◌}
use native.Mathlib.Omega.{arith}
use lib.Dec.{ltb, eqb}
use lib.ListN.{length, get_or, drop}
use lib.Seq.{drop-drop, get_or-drop}
use borrow.Author.Tests.{ltb-false, eqb-true, not-false, eq-eqb, ne_eqb}
use Rattle.moves.specs.Form.{header_size, program_at}
use Rattle.moves.specs.Kinds.{is_arc, in_turn}
use Rattle.moves.specs.Reading.{version_in, record_in, count_in}
use Rattle.lawful.specs.Right.{is_right, right_from}
use Rattle.lawful.specs.Versions.{first_version, size_in, limit_in, start_in}
use Rattle.judging.specs.Judging.{mark_wrong, length_wrong, records_every, spare_zero, spares_zero, version_named}
use Rattle.lawful.specs.declared.Version.{Version}
use Rattle.lawful.specs.declared.Version.TheVariants.{One, Two}

one_zero : ◌≡◌ {A = ℕ} 1 0 → ⊥
one_zero e = omega (arith, e)

-- ---- two tests of which none is true, and two that are true
pub none_true : (p q : Bool) → (p || q) ≡ false → (p ≡ false) × (q ≡ false)
none_true false q h = (refl, h)
none_true true q h = (h, absurd (one_zero (ap {B = ℕ} (λ (t : Bool). cond t 1 0) h)))

pub both_true : (p q : Bool) → (p && q) ≡ true → (p ≡ true) × (q ≡ true)
both_true true q h = (refl, h)
both_true false q h = (h, absurd (one_zero (ap {B = ℕ} (λ (t : Bool). cond t 0 1) h)))

-- ---- the header
module _ (b : List ℕ) where
  pub long_enough : mark_wrong b ≡ false → header_size ≤ length b
  unfolding mark_wrong
  long_enough h = ltb-false (length b) header_size (none_true (ltb (length b) header_size) _ h).0

  module _ (v : Version) (n : ℕ) (e : n ≡ count_in b) where
    pub right_length : length_wrong v b ≡ false → length b ≡ start_in v n
    unfolding length_wrong
    right_length h =
        let k = (none_true (ltb (limit_in v) (count_in b)) _ h).1 in
        eqb-true (length b) (start_in v (count_in b)) (not-false _ (none_true (not (eqb (length b) (start_in v (count_in b)))) _ k).0) ∙ ap (start_in v) (sym e)

    pub right_count : length_wrong v b ≡ false → n ≤ limit_in v
    unfolding length_wrong
    right_count h = omega (arith, e, ltb-false (limit_in v) (count_in b) (none_true (ltb (limit_in v) (count_in b)) _ h).0)

-- ---- where the records of a version stand
pub next_start : (v : Version) (k : ℕ) → start_in v k + size_in v ≡ start_in v (k + 1)
next_start One k = omega arith
next_start Two k = omega arith

pub within : (v : Version) (k n : ℕ) → k < n → start_in v k + size_in v ≤ start_in v n
within One k n h = omega arith
within Two k n h = omega arith

pub whole_what : (v : Version) → program_at ≤ size_in v
whole_what One = omega arith
whole_what Two = omega arith

-- ---- the records, one after the other, each of so many bytes
module _ (size : ℕ) where
  -- what is still to be asked of n records, at the front of some bytes
  abbrev pub asked : Bool → ℕ → List ℕ → Bool
  asked due n b = spares_zero size n b && right_from due (records_every size n b)

  -- what is asked of the first
  abbrev pub first : Bool → List ℕ → Bool
  first due b = spare_zero b && (in_turn due (record_in b).kind && is_right (record_in b))

  asked_first_lem : (due : Bool) (n : ℕ) (b : List ℕ) → asked due (suc n) b ≡ (first due b && asked (is_arc (record_in b).kind) n (drop size b))
  unfolding spares_zero right_from records_every
  asked_first_lem due n b =
      in_pairs (spare_zero b) (spares_zero size n (drop size b)) (in_turn due (record_in b).kind && is_right (record_in b)) (right_from (is_arc (record_in b).kind) (records_every size n (drop size b)))
    where
      in_pairs : (p q r s : Bool) → ((p && q) && (r && s)) ≡ ((p && r) && (q && s))
      in_pairs true true r s = refl
      in_pairs true false true s = refl
      in_pairs true false false s = refl
      in_pairs false q r s = refl

  kind_at : (b : List ℕ) (i : ℕ) → (record_in (drop i b)).kind ≡ get_or b i 0
  unfolding record_in
  kind_at b i = get_or-drop i b 0 0 ∙ ap (λ (m : ℕ). get_or b m 0) (omega arith)

  module _ (b : List ℕ) (count : ℕ) where
    -- what is still to be asked from record k on, whose first byte stands at `at`
    abbrev pub asked_from : Bool → ℕ → ℕ → Bool
    asked_from due k at = asked due (count - k) (drop at b)

    module _ (due : Bool) (k at : ℕ) (h : k < count) where
      asked_next : asked_from due k at ≡ (first due (drop at b) && asked_from (is_arc (record_in (drop at b)).kind) (k + 1) (at + size))
      asked_next =
          let n : ℕ = count - (k + 1) in
          let e : count - k ≡ suc n = omega arith in
          ap (λ (m : ℕ). asked due m (drop at b)) e
          ∙ asked_first_lem due n (drop at b)
          ∙ ap (λ (l : List ℕ). first due (drop at b) && asked (is_arc (record_in (drop at b)).kind) n l) (drop-drop size at b)

      -- the first is wrong
      pub first_wrong : first due (drop at b) ≡ false → asked_from due k at ≡ false
      first_wrong w = asked_next ∙ ap (λ (q : Bool). q && asked_from (is_arc (record_in (drop at b)).kind) (k + 1) (at + size)) w

      -- the first is right, and the others are left
      pub first_right : first due (drop at b) ≡ true → (next : Bool) → next ≡ is_arc (get_or b at 0) → asked_from due k at ≡ asked_from next (k + 1) (at + size)
      first_right w next e =
          asked_next
          ∙ ap (λ (q : Bool). q && asked_from (is_arc (record_in (drop at b)).kind) (k + 1) (at + size)) w
          ∙ ap (λ (q : Bool). asked_from q (k + 1) (at + size)) (ap is_arc (kind_at b at) ∙ sym e)

    -- none is left
    pub none_left : (due : Bool) (k at : ℕ) → count ≤ k → asked_from due k at ≡ not due
    unfolding spares_zero right_from records_every
    none_left due k at h =
        let e : count - k ≡ 0 = omega arith in
        ap (λ (m : ℕ). asked due m (drop at b)) e

-- ---- the version that the header names
module _ (b : List ℕ) where
  pub named_first : (n : ℕ) → n ≡ version_in b → n ≡ first_version → One ≡ version_named b
  named_first n e k = ap (λ (t : Bool). cond t One Two) (sym (eq-eqb (version_in b) first_version (sym e ∙ k)))

  pub named_second : (n : ℕ) → n ≡ version_in b → (n ≡ first_version → ⊥) → Two ≡ version_named b
  named_second n e k = ap (λ (t : Bool). cond t One Two) (sym (ne_eqb (version_in b) first_version (λ z. k (e ∙ z))))
