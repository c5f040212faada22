-- A text that is a jump alone has the words G27 and L, and no other.
-- Assumes nothing.
use mathlib.Core.Path.{◌≡◌, refl, sym, ap, ◌∙◌, subst}
use mathlib.Core.Bool.{Bool, true, false, cond, not, ◌&&◌, ◌||◌}
use mathlib.Core.List.{List, [], ◌∷◌}
use Prim.Native.Nat.{ℕ, zero, suc, ◌+◌, ◌-◌, ◌*◌, ◌≤◌, ◌<◌}
use native.Mathlib.Omega.{arith}
use borrow.Author.Tests.{eqb-true, lt-ltb, leb-true}
use lib.Dec.{T, eqb, leb, ltb}
use lib.IntN.{ℤ, pos}
use lib.ListN.{length, get_or, take, drop, length-drop}
use lib.Seq.{get_or-drop, take_all, take-length, drop-drop}
use Rattle.letters.specs.Letters.{space, opening, equals, digit_zero, digit_nine, letter_d, letter_g, letter_l, letter_p}
use Rattle.numbers.specs.declared.Digits.{Digits}
use Rattle.numbers.specs.declared.NumberForm.{NumberForm}
use Rattle.numbers.specs.declared.NumberForm.TheVariants.{TwoDigits, FiveDigits}
use Rattle.numbers.specs.declared.Number.{Number}
use Rattle.numbers.specs.declared.Number.TheVariants.{Value, Bad}
use Rattle.numbers.specs.Numbers.{is_digit, digits_of, digits_in, number_of}
use Rattle.tape.specs.Lines.{seek, seek_from, gap_of}
use Rattle.tape.specs.declared.line.Gap.{Gap}
use Rattle.tape.specs.declared.line.Gap.TheVariants as gap
use Rattle.addresses.specs.declared.Index.TheVariants as index
use Rattle.addresses.specs.declared.Address.{Address}
use Rattle.addresses.specs.declared.Address.TheVariants.{Known}
use Rattle.addresses.specs.declared.NextWord.TheVariants.{Word, End}
use Rattle.addresses.specs.Words.{capital, ends_number, form_of, word_by, number_word, behind_index, indexed_word, addressed, word_at, behind_gap, next_word, words_from}
use Rattle.block.specs.Words.{no_words, is_program_address, put_word, gather}
use Rattle.block.proofs.Lines.{rest_word, rest_none}
use Rattle.addresses.proofs.Ranges.{within, T_false}
use Rattle.jumping.specs.declared.Jumping.{Jumping}
use Rattle.jumping.specs.declared.Jumping.TheVariants.{To, Other}
use Rattle.jumping.specs.Jumping.{is_front, to_by, jump_in, g_word, l_word, jump_words}

both : (a b : Bool) → a && b ≡ true → (a ≡ true) × (b ≡ true)
both true b e = (refl, e)
both false b e = absurd (subst (λ (t : Bool). T (not t)) e tt)

-- ---- digits end no number
digit_goes_on : (b : ℕ) → is_digit b ≡ true → ends_number b ≡ false
unfolding ends_number
digit_goes_on b e =
    let h = both (leb digit_zero b) (leb b digit_nine) e in
    T_false (ends_number b) (within (λ n. not (ends_number n)) 48 10 b tt (leb-true digit_zero b h.0) (omega (arith, leb-true b digit_nine h.1)))

-- a part that is all digits has no byte that ends a number
digits_through : (k : ℕ) (s : List ℕ) (v n : ℕ) → (digits_of k s v n).count ≡ n + length s → seek ends_number s ≡ length s
unfolding digits_of seek
digits_through k [] v n e = refl
digits_through zero (b ∷ s) v n e = absurd (omega (arith, e))
digits_through (suc k) (b ∷ s) v n e = by (is_digit b) refl e (λ h. digits_through k s (v * 10 + (b - digit_zero)) (n + 1) h)
  where
    by : (t : Bool) → is_digit b ≡ t → (cond t (digits_of k s (v * 10 + (b - digit_zero)) (n + 1)) (record { value = v; count = n })).count ≡ n + suc (length s)
        → ((digits_of k s (v * 10 + (b - digit_zero)) (n + 1)).count ≡ n + 1 + length s → seek ends_number s ≡ length s) → seek ends_number (b ∷ s) ≡ suc (length s)
    by true d h more = ap (λ (t : Bool). cond t 0 (suc (seek ends_number s))) (digit_goes_on b d) ∙ ap suc (more (omega (arith, h)))
    by false d h more = absurd (omega (arith, h))

-- a number of five digits at most is all digits
record Told (s : List ℕ) (n : ℕ) : Type 0 where
  is : number_of FiveDigits s ≡ Value (pos n) false
  through : seek ends_number s ≡ length s

told : (s : List ℕ) (n : ℕ) → to_by (number_of FiveDigits s) ≡ To n → Told s n
unfolding number_of digits_in
told s n e = by (eqb d.count (length s) && ltb 0 (length s)) (leb d.value 99_999) refl refl e
  where
    d : Digits
    d = digits_of 5 s 0 0

    by : (t u : Bool) → (eqb d.count (length s) && ltb 0 (length s)) ≡ t → leb d.value 99_999 ≡ u → to_by (cond t (cond u (Value (pos d.value) false) Bad) Bad) ≡ To n → Told s n
    by true true f g h =
        let same : d.value ≡ n = cc in
        record {
          is = ap (λ (t : Bool). cond t (cond (leb d.value 99_999) (Value (pos d.value) false) Bad) Bad) f ∙ ap (λ (t : Bool). cond t (Value (pos d.value) false) Bad) g ∙ ap (λ (k : ℕ). Value (pos k) false) same;
          through =
              let all = eqb-true d.count (length s) (both (eqb d.count (length s)) (ltb 0 (length s)) f).0 in
              digits_through 5 s 0 0 (omega (arith, all));
        }
    by true false f g h = let z : ◌≡◌ {A = ℕ} 0 1 = cc in absurd (omega (arith, z))
    by false u f g h = let z : ◌≡◌ {A = ℕ} 0 1 = cc in absurd (omega (arith, z))

-- ---- a word behind one space
module _ (s : List ℕ) (i a m : ℕ) (rest : List ℕ) (v : ℤ) (form : NumberForm) (shape : drop i s ≡ space ∷ a ∷ rest) (ends : seek ends_number rest ≡ m)
    (number : number_of form (take m rest) ≡ Value v false) (capitals : capital a ≡ a) (known : form_of a ≡ Known form) (bare : (eqb a letter_p || eqb a letter_d) ≡ false)
    (here : (eqb a opening || eqb a space) ≡ false) where
  behind : drop (i + 1 + 1) s ≡ rest
  behind = let n : i + 1 + 1 ≡ i + 2 = omega arith in ap (λ (k : ℕ). drop k s) n ∙ sym (drop-drop 2 i s) ∙ ap (drop 2) shape

  address : get_or s (i + 1) 0 ≡ a
  address = sym (get_or-drop i s 1 0) ∙ ap (λ (t : List ℕ). get_or t 1 0) shape

  long : i + 1 < length s
  long =
      let n : length s - i ≡ suc (suc (length rest)) = sym (length-drop i s) ∙ ap length shape in
      omega (arith, n)

  gapped : gap_of false i (drop i s) ≡ gap.At (i + 1)
  unfolding gap_of
  gapped = ap (gap_of false i) shape ∙ ap (λ (t : Bool). cond t (gap_of (eqb a opening) (i + 1 + 1) rest) (gap.At (i + 1))) here

  at_address : next_word s i ≡ word_at s (i + 1)
  unfolding next_word
  at_address =
      ap (λ (g : Gap). behind_gap g (λ p. cond (ltb p (length s)) (word_at s p) End)) gapped ∙ ap (λ (t : Bool). cond t (word_at s (i + 1)) End) (lt-ltb (i + 1) (length s) long)

  last : seek_from ends_number s (i + 1 + 1) ≡ i + 1 + 1 + m
  last = ap (λ (t : List ℕ). i + 1 + 1 + seek ends_number t) behind ∙ ap (λ (k : ℕ). i + 1 + 1 + k) ends

  by_address : word_at s (i + 1) ≡ indexed_word s a form (i + 1 + 1) (i + 1 + 1 + m)
  unfolding word_at
  by_address =
      (λ j. addressed s (capital (address j)) (form_of (capital (address j))) (i + 1 + 1) (last j))
      ∙ (λ j. addressed s (capitals j) (form_of (capitals j)) (i + 1 + 1) (i + 1 + 1 + m))
      ∙ ap (λ (x : Address). addressed s a x (i + 1 + 1) (i + 1 + 1 + m)) known

  part : take (i + 1 + 1 + m - (i + 1 + 1)) (drop (i + 1 + 1) s) ≡ take m rest
  part = let n : i + 1 + 1 + m - (i + 1 + 1) ≡ m = omega arith in (λ j. take (n j) (behind j))

  by_number : indexed_word s a form (i + 1 + 1) (i + 1 + 1 + m) ≡ Word (record { address = a; index = 0; value = v; pointed = false }) (i + 1 + 1 + m)
  unfolding indexed_word number_word
  by_number =
      ap (λ (t : Bool). behind_index s a form (cond t (cond (ltb (i + 1 + 1 + m - (i + 1 + 1)) 2) index.Bad (cond (is_digit (get_or s (i + 1 + 1) 0) && eqb (get_or s (i + 1 + 1 + 1) 0) equals) (index.At (get_or s (i + 1 + 1) 0 - digit_zero) (i + 1 + 1 + 2)) index.Bad)) (index.At 0 (i + 1 + 1))) (i + 1 + 1 + m)) bare
      ∙ ap (λ (x : Number). word_by a 0 x (i + 1 + 1 + m)) (ap (number_of form) part ∙ number)

  pub plain_word : next_word s i ≡ Word (record { address = a; index = 0; value = v; pointed = false }) (i + 1 + 1 + m)
  plain_word = at_address ∙ by_address ∙ by_number

-- ---- the text ` G27 L`
record Fronted (t : List ℕ) : Type 0 where
  b0 : get_or t 0 0 ≡ space
  b1 : get_or t 1 0 ≡ letter_g
  b2 : get_or t 2 0 ≡ 50
  b3 : get_or t 3 0 ≡ 55
  b4 : get_or t 4 0 ≡ space
  b5 : get_or t 5 0 ≡ letter_l

fronted : (t : List ℕ) → is_front t ≡ true → Fronted t
unfolding is_front
fronted t e =
    let is : ℕ → ℕ → Bool = λ k b. eqb (get_or t k 0) b in
    let o = both (is 2 50 && is 3 55) ((is 0 space && is 1 letter_g) && (is 4 space && is 5 letter_l)) e in
    let n = both (is 2 50) (is 3 55) o.0 in
    let p = both (is 0 space && is 1 letter_g) (is 4 space && is 5 letter_l) o.1 in
    let g = both (is 0 space) (is 1 letter_g) p.0 in
    let l = both (is 4 space) (is 5 letter_l) p.1 in
    record {
      b0 = eqb-true (get_or t 0 0) space g.0;
      b1 = eqb-true (get_or t 1 0) letter_g g.1;
      b2 = eqb-true (get_or t 2 0) 50 n.0;
      b3 = eqb-true (get_or t 3 0) 55 n.1;
      b4 = eqb-true (get_or t 4 0) space l.0;
      b5 = eqb-true (get_or t 5 0) letter_l l.1;
    }

none_there : (b : ℕ) → 0 ≡ suc b → ⊥
none_there b e = omega (arith, e)

spelt : (t : List ℕ) → Fronted t → t ≡ space ∷ letter_g ∷ 50 ∷ 55 ∷ space ∷ letter_l ∷ drop 6 t
spelt [] f = absurd (none_there 75 f.b5)
spelt (a ∷ []) f = absurd (none_there 75 f.b5)
spelt (a ∷ b ∷ []) f = absurd (none_there 75 f.b5)
spelt (a ∷ b ∷ c ∷ []) f = absurd (none_there 75 f.b5)
spelt (a ∷ b ∷ c ∷ d ∷ []) f = absurd (none_there 75 f.b5)
spelt (a ∷ b ∷ c ∷ d ∷ e ∷ []) f = absurd (none_there 75 f.b5)
spelt (a ∷ b ∷ c ∷ d ∷ e ∷ g ∷ t) f = λ j. f.b0 j ∷ f.b1 j ∷ f.b2 j ∷ f.b3 j ∷ f.b4 j ∷ f.b5 j ∷ t

pub front_long : (t : List ℕ) → is_front t ≡ true → 6 ≤ length t
front_long t e = let n : length t ≡ suc (suc (suc (suc (suc (suc (length (drop 6 t))))))) = ap length (spelt t (fronted t e)) in omega (arith, n)

-- what the code's tests tell of it
pub too_short : (t : List ℕ) → length t < 6 → false ≡ is_front t
too_short t h = by (is_front t) refl
  where
    by : (b : Bool) → is_front t ≡ b → false ≡ b
    by true e = absurd (omega (arith, h, front_long t e))
    by false e = refl

pub another : (a b c : Bool) → (not a || not b) ≡ true → false ≡ ((a && b) && c)
another true true c e = absurd (subst (λ (t : Bool). T (not t)) e tt)
another true false c e = refl
another false b c e = refl

pub the_same : (a b c : Bool) → (not a || not b) ≡ false → c ≡ ((a && b) && c)
the_same true true c e = refl
the_same true false c e = absurd (subst T e tt)
the_same false b c e = absurd (subst T e tt)

-- the part from a place to the end is the rest from there
pub part_is : (t : List ℕ) (a : ℕ) → take (length t - a) (drop a t) ≡ drop a t
part_is t a = take_all (length t - a) (drop a t) (omega (arith, length-drop a t))

pub jump_by : (t : List ℕ) (b : Bool) {r : Jumping} → is_front t ≡ b → r ≡ cond b (to_by (number_of FiveDigits (drop 6 t))) Other → r ≡ jump_in t
unfolding jump_in
jump_by t b e q = q ∙ ap (λ (x : Bool). cond x (to_by (number_of FiveDigits (drop 6 t))) Other) (sym e)

-- ---- the block of such a text
module _ (s : List ℕ) (i n : ℕ) (within_line : i ≤ length s) (front : is_front (drop i s) ≡ true) (number : to_by (number_of FiveDigits (drop 6 (drop i s))) ≡ To n) where
  shape : drop i s ≡ space ∷ letter_g ∷ 50 ∷ 55 ∷ space ∷ letter_l ∷ drop 6 (drop i s)
  shape = spelt (drop i s) (fronted (drop i s) front)

  number_told : Told (drop 6 (drop i s)) n
  number_told = told (drop 6 (drop i s)) n number

  g_word_lem : next_word s i ≡ Word g_word (i + 1 + 1 + 2)
  unfolding seek ends_number digits_of digits_in number_of capital form_of
  g_word_lem = plain_word s i letter_g 2 (50 ∷ 55 ∷ space ∷ letter_l ∷ drop 6 (drop i s)) (pos 27) TwoDigits shape refl refl refl refl refl refl

  -- behind G27
  tail_shape : drop (i + 1 + 1 + 2) s ≡ space ∷ letter_l ∷ drop 6 (drop i s)
  tail_shape = let n : i + 1 + 1 + 2 ≡ i + 4 = omega arith in ap (λ (k : ℕ). drop k s) n ∙ sym (drop-drop 4 i s) ∙ ap (drop 4) shape

  l_word_lem : next_word s (i + 1 + 1 + 2) ≡ Word (l_word n) (i + 1 + 1 + 2 + 1 + 1 + length (drop 6 (drop i s)))
  unfolding capital form_of
  l_word_lem =
      plain_word s (i + 1 + 1 + 2) letter_l (length (drop 6 (drop i s))) (drop 6 (drop i s)) (pos n) FiveDigits tail_shape number_told.through
      (ap (number_of FiveDigits) (take-length (drop 6 (drop i s))) ∙ number_told.is) refl refl refl refl

  size : length s - i ≡ 6 + length (drop 6 (drop i s))
  size = let e : length (drop i s) ≡ suc (suc (suc (suc (suc (suc (length (drop 6 (drop i s)))))))) = ap length shape in omega (arith, length-drop i s, e)

  pub jump_words_lem : gather no_words (words_from s i) ≡ record { block = jump_words n; faulty = false }
  unfolding is_program_address jump_words
  jump_words_lem =
      rest_word s i within_line no_words g_word_lem refl
      ∙ rest_word s (i + 1 + 1 + 2) (omega (arith, size)) (put_word no_words g_word) l_word_lem refl
      ∙ rest_none s (i + 1 + 1 + 2 + 1 + 1 + length (drop 6 (drop i s))) (omega (arith, size)) (put_word (put_word no_words g_word) (l_word n)) (omega (arith, size))

-- a text that is a jump alone, read as such
pub jump_block : (s : List ℕ) (i n : ℕ) → i ≤ length s → jump_in (drop i s) ≡ To n → gather no_words (words_from s i) ≡ record { block = jump_words n; faulty = false }
unfolding jump_in
jump_block s i n h e = by (is_front (drop i s)) refl e
  where
    by : (t : Bool) → is_front (drop i s) ≡ t → cond t (to_by (number_of FiveDigits (drop 6 (drop i s)))) Other ≡ To n → gather no_words (words_from s i) ≡ record { block = jump_words n; faulty = false }
    by true f q = jump_words_lem s i n h f q
    by false f q = let z : ◌≡◌ {A = ℕ} 0 1 = cc in absurd (omega (arith, z))
