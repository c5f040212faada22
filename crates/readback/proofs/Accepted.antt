-- What is known of a list that was judged good, and which of its ways a reading takes.
-- Assumes nothing.
use mathlib.Core.Path.{◌≡◌, refl, sym, ap, ◌∙◌, subst}
use mathlib.Core.Bool.{Bool, true, false, cond}
use mathlib.Core.List.{List}
use Prim.Native.Nat.{ℕ, ◌+◌, ◌<◌, ◌≤◌}
use native.Mathlib.Omega.{arith}
use lib.Dec.{ltb, eqb}
use lib.ListN.{length}
use borrow.Author.Tests.{ltb-true, ltb-false, lt-ltb, le-ltb, eqb-true}
use Rattle.moves.specs.Form.{header_size, version}
use Rattle.moves.specs.Reading.{version_in, count_in}
use Rattle.moves.specs.declared.Record.{Record}
use Rattle.moves.specs.declared.Origin.{Origin}
use Rattle.judging.specs.declared.Refusal.{Refusal}
use Rattle.judging.specs.declared.Refusal.TheVariants.{BadMark, BadVersion, BadLength, BadRecord, BadIndex}
use Rattle.lawful.specs.Versions.{first_version, number_of, size_in, limit_in, start_in}
use Rattle.judging.specs.Judging.{mark_wrong, length_wrong, records_wrong, judged_as, judged, version_named}
use Rattle.readback.specs.Lists.{found_at, picked_from, read_of, held_by, read_as, read_judged}
use Rattle.lawful.specs.declared.Version.{Version}
use Rattle.lawful.specs.declared.Version.TheVariants.{One, Two}
use Rattle.std.specs.Prelude.{Option, Result, Ok, Err}
use Rattle.judging.proofs.Judges.{right_length, right_count, within, named_first, named_second}

-- no test refuses it
pub record Passed (v : Version) (b : List ℕ) (n : ℕ) : Type 0 where
  pub mark : mark_wrong b ≡ false
  pub version : version_in b ≡ number_of v
  pub length : length_wrong v b ≡ false
  pub records : records_wrong v b ≡ false
  pub count : n ≡ count_in b

-- what comes of judging
abbrev Judged : Type 0
Judged = Result (Version × ℕ) Refusal

no_refusal : (why : Refusal) (n : ℕ) (v : Version) → ◌≡◌ {A = Judged} (Err why) (Ok (v, n)) → ⊥
no_refusal why n v h = cc

same : (p q : Version × ℕ) → ◌≡◌ {A = Judged} (Ok p) (Ok q) → p ≡ q
same p q h = cc

passed_by_lem : (v w : Version) (l r : Bool) (k n : ℕ) → ◌≡◌ {A = Judged} (cond l (Err BadLength) (cond r (Err BadRecord) (Ok (v, k)))) (Ok (w, n))
    → (l ≡ false) × (r ≡ false) × (n ≡ k) × (v ≡ w)
passed_by_lem v w true r k n h = absurd (no_refusal BadLength n w h)
passed_by_lem v w false true k n h = absurd (no_refusal BadRecord n w h)
passed_by_lem v w false false k n h =
    let e = same (v, k) (w, n) h in (refl, refl, sym (ap (λ (p : Version × ℕ). p.1) e), ap (λ (p : Version × ℕ). p.0) e)

module _ (b : List ℕ) (n : ℕ) where
  as_passed : (v w : Version) → mark_wrong b ≡ false → version_in b ≡ number_of v → judged_as v b ≡ Ok (w, n) → Passed w b n
  unfolding judged_as
  as_passed v w m e h =
      let p = passed_by_lem v w (length_wrong v b) (records_wrong v b) (count_in b) n h in
      subst (λ (u : Version). Passed u b n) p.3 (record { mark = m; version = e; length = p.0; records = p.1; count = p.2 })

  by_version : (w : Version) (m p q : Bool) → mark_wrong b ≡ m → eqb (version_in b) first_version ≡ p → eqb (version_in b) version ≡ q
      → cond m (Err BadMark) (cond p (judged_as One b) (cond q (judged_as Two b) (Err BadVersion))) ≡ Ok (w, n) → Passed w b n
  by_version w true p q m e f h = absurd (no_refusal BadMark n w h)
  by_version w false true q m e f h = as_passed One w m (eqb-true (version_in b) first_version e) h
  by_version w false false true m e f h = as_passed Two w m (eqb-true (version_in b) version f) h
  by_version w false false false m e f h = absurd (no_refusal BadVersion n w h)

  module _ (v : Version) (good : judged b ≡ Ok (v, n)) where
    pub passed : Passed v b n
    unfolding judged
    passed = by_version v (mark_wrong b) (eqb (version_in b) first_version) (eqb (version_in b) version) refl refl refl good

    -- it is as long as its records are, and has no more than the limit
    pub good_length : length b ≡ start_in v n
    good_length = right_length b v n passed.count passed.length

    pub good_count : n ≤ limit_in v
    good_count = right_count b v n passed.count passed.length

    -- EACH OF ITS RECORDS LIES IN IT: who has judged the list takes them one after the other
    pub has : (k : ℕ) → k < n → start_in v k + size_in v ≤ length b
    has k h = omega (arith, good_length, within v k n h)

    -- a reading of record k
    pub found : (k : ℕ) → k < n → Ok (found_at v b k) ≡ read_of b k
    unfolding read_of
    found k h = sym (ap (picked_from b k) good ∙ ap (λ (t : Bool). cond t (Ok (found_at v b k)) (Err BadIndex)) (lt-ltb k n h))

    pub no_such : (k : ℕ) → n ≤ k → Err BadIndex ≡ read_of b k
    unfolding read_of
    no_such k h = sym (ap (picked_from b k) good ∙ ap (λ (t : Bool). cond t (Ok (found_at v b k)) (Err BadIndex)) (le-ltb k n h))

    -- a reading of any k, where it is known what the records within the count are
    pub every_k : (k : ℕ) (x : Result (Record × Option Origin) Refusal) → (k < n → Ok (found_at v b k) ≡ x) → (n ≤ k → Err BadIndex ≡ x) → read_of b k ≡ x
    every_k k x there none = by_test (ltb k n) refl
      where
        by_test : (t : Bool) → ltb k n ≡ t → read_of b k ≡ x
        by_test true e = let h = ltb-true k n e in sym (found k h) ∙ there h
        by_test false e = let h = ltb-false k n e in sym (no_such k h) ∙ none h

-- A RECORD OF A LIST THAT WAS JUDGED is read without judging it again
held_many : (v : Version) (b : List ℕ) (n : ℕ) → length b ≡ start_in v n → held_by v b ≡ n
held_many One b n e = omega (arith, e)
held_many Two b n e = omega (arith, e)

none_held : (v : Version) (b : List ℕ) → length b < header_size → held_by v b ≡ 0
none_held One b h = omega (arith, h)
none_held Two b h = omega (arith, h)

module _ (b : List ℕ) where
  module _ (v : Version) (h : ℕ) (many : h ≡ held_by v b) where
    pub held_found : (k : ℕ) → k < h → Ok (found_at v b k) ≡ read_as v b k
    unfolding read_as
    held_found k m = ap (λ (t : Bool). cond t (Ok (found_at v b k)) (Err BadIndex)) (sym (lt-ltb k (held_by v b) (omega (arith, many, m))))

    pub not_held : (k : ℕ) → h ≤ k → Err BadIndex ≡ read_as v b k
    unfolding read_as
    not_held k m = ap (λ (t : Bool). cond t (Ok (found_at v b k)) (Err BadIndex)) (sym (le-ltb k (held_by v b) (omega (arith, many, m))))

  -- under a header's length nothing is held
  pub too_short : (k : ℕ) → length b < header_size → Err BadIndex ≡ read_judged b k
  unfolding read_judged
  too_short k h = let v = version_named b in not_held v 0 (sym (none_held v b h)) k (omega arith)

  named : (v : Version) → version_in b ≡ number_of v → version_named b ≡ v
  named One e = sym (named_first b (version_in b) refl e)
  named Two e = sym (named_second b (version_in b) refl (λ z. omega (arith, e, z)))

  pub once_judged : (v : Version) (n : ℕ) → judged b ≡ Ok (v, n) → (k : ℕ) → read_judged b k ≡ read_of b k
  unfolding read_judged
  once_judged v n good k =
      let many : n ≡ held_by v b = sym (held_many v b n (good_length b n v good)) in
      ap (λ (u : Version). read_as u b k) (named v (passed b n v good).version)
      ∙ sym (every_k b n v good k (read_as v b k) (λ h. held_found v n many k h) (λ h. not_held v n many k h))
