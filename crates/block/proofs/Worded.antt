-- The numbers of a block that was read: what a word's address takes bounds what its slot holds.
-- Assumes nothing.
use mathlib.Core.Path.{◌≡◌, refl, sym, ap, subst}
use mathlib.Core.Bool.{true}
use mathlib.Core.List.{List, [], ◌∷◌}
use Prim.Native.Nat.{ℕ, zero, suc, ◌≤◌, ◌<◌}
use native.Mathlib.Omega.{arith}
use lib.Dec.{eqb}
use lib.IntN.{ℤ, pos, nat_abs}
use lib.ListN.{length, get_or, set, replicate}
use Rattle.whole.specs.Position.{in_table}
use Rattle.whole.proofs.Integers.{whole, abs}
use Rattle.whole.proofs.Positions.{InTable, in_table_lem}
use Rattle.letters.specs.Letters.{letter_d, letter_f, letter_g, letter_i, letter_k, letter_l, letter_m, letter_n, letter_p, letter_s, letter_t, letter_u, letter_w, letter_x, letter_z}
use Rattle.addresses.specs.Words.{Words, word, ended, faulty, onward, form_of, next_word, words_up, words_from}
use Rattle.addresses.specs.declared.Word.{Word}
use Rattle.addresses.specs.declared.NextWord.{NextWord}
use Rattle.addresses.specs.declared.NextWord.TheVariants as next
use Rattle.numbers.proofs.Bounds.{cond_ind}
use Rattle.addresses.proofs.Within.{WordIn, NextWithin, word_within}
use Rattle.codes.specs.declared.Code.{Code}
use Rattle.codes.specs.declared.Code.TheVariants as code
use Rattle.block.specs.declared.Block.{Block}
use Rattle.block.specs.declared.Slot.{Slot}
use Rattle.block.specs.declared.Slot.TheVariants.{At, Late, Unknown}
use Rattle.block.specs.declared.Rest.{Rest}
use Rattle.codes.specs.Codes.{g_code, m_code}
use Rattle.block.specs.Slots.{slots, x_slot, z_slot, u_slot, w_slot, i_slot, k_slot, f_slot, s_slot, t_slot, m_slot, p_slot, d_slot, l_slot, g_slot}
use Rattle.block.specs.Words.{code_slot, number_in, slot_of, no_words, put_in, put_word, is_program_address, faulty_rest, gather, line_by, line_of}
use Rattle.block.specs.Worded.{Worded}
use Rattle.block.proofs.Heads.{size_below, taken, eqb_is}
use Rattle.codes.proofs.Tables.{CodeIn, m_groups}

-- ---- what the slot k may hold: X Z U W I K lie first, D0 to D9 in a row
record Holds (k : ℕ) (z : ℤ) : Type 0 where
  path : k ≤ k_slot → in_table z ≡ true
  setting : d_slot 0 ≤ k → k < d_slot 10 → nat_abs z < 32_768
  any : nat_abs z < 10_000_000

abbrev SlotHolds : Slot → ℤ → Type 0
SlotHolds (At k) z = Holds k z
SlotHolds Late z = Unit {0}
SlotHolds Unknown z = Unit {0}

path_small : (z : ℤ) → InTable z → nat_abs z < 10_000_000
path_small z h = omega (whole, abs z, h.low, h.high)

-- a slot of X Z U W I K, one of D, and one of neither
path_holds : (k : ℕ) (z : ℤ) → k ≤ k_slot → InTable z → Holds k z
path_holds k z l h = record { path = λ _. in_table_lem z h; setting = λ a _. absurd (omega (arith, l, a)); any = path_small z h }

setting_holds : (k : ℕ) (z : ℤ) → d_slot 0 ≤ k → nat_abs z < 32_768 → Holds k z
setting_holds k z l h = record { path = λ a. absurd (omega (arith, l, a)); setting = λ _ _. h; any = omega arith }

other_below : (k : ℕ) (z : ℤ) → f_slot ≤ k → k < d_slot 0 → nat_abs z < 10_000_000 → Holds k z
other_below k z l h s = record { path = λ a. absurd (omega (arith, l, a)); setting = λ a _. absurd (omega (arith, h, a)); any = s }

other_above : (k : ℕ) (z : ℤ) → d_slot 10 ≤ k → nat_abs z < 10_000_000 → Holds k z
other_above k z h s = record { path = λ a. absurd (omega (arith, h, a)); setting = λ _ a. absurd (omega (arith, h, a)); any = s }

g_holds : (c : Code) (z : ℤ) → nat_abs z < 10_000_000 → SlotHolds (code_slot c g_slot) z
g_holds (code.Of g m) z s = other_above (g_slot g) z (omega arith) s
g_holds code.Unknown z s = tt

m_holds : (c : Code) (z : ℤ) → nat_abs z < 10_000_000 → CodeIn c 4 → SlotHolds (code_slot c m_slot) z
m_holds (code.Of g m) z s h = other_below (m_slot g) z (omega arith) (omega arith) s
m_holds code.Unknown z s h = tt

few : (z : ℤ) {n : ℕ} → nat_abs z < n → n ≤ 10_000_000 → nat_abs z < 10_000_000
few z h l = omega (arith, h, l)

slot_holds : (w : Word) → WordIn w → SlotHolds (slot_of w) w.value
unfolding slot_of form_of
slot_holds w i =
    let a = w.address in
    let z = w.value in
    let P : Slot → Type 0 = λ s. SlotHolds s z in
    cond_ind P (eqb a letter_x) _ _ (λ t. path_holds x_slot z (omega arith) (taken w letter_x i (eqb_is a letter_x t)))
    (cond_ind P (eqb a letter_z) _ _ (λ t. path_holds z_slot z (omega arith) (taken w letter_z i (eqb_is a letter_z t)))
    (cond_ind P (eqb a letter_u) _ _ (λ t. path_holds u_slot z (omega arith) (taken w letter_u i (eqb_is a letter_u t)))
    (cond_ind P (eqb a letter_w) _ _ (λ t. path_holds w_slot z (omega arith) (taken w letter_w i (eqb_is a letter_w t)))
    (cond_ind P (eqb a letter_i) _ _ (λ t. path_holds i_slot z (omega arith) (taken w letter_i i (eqb_is a letter_i t)))
    (cond_ind P (eqb a letter_k) _ _ (λ t. path_holds k_slot z (omega arith) (taken w letter_k i (eqb_is a letter_k t)))
    (cond_ind P (eqb a letter_f) _ _ (λ t. other_below f_slot z (omega arith) (omega arith) (few z (size_below (taken w letter_f i (eqb_is a letter_f t))) (omega arith)))
    (cond_ind P (eqb a letter_s) _ _ (λ t. other_below s_slot z (omega arith) (omega arith) (few z (size_below (taken w letter_s i (eqb_is a letter_s t))) (omega arith)))
    (cond_ind P (eqb a letter_t) _ _ (λ t. other_below t_slot z (omega arith) (omega arith) (few z (size_below (taken w letter_t i (eqb_is a letter_t t))) (omega arith)))
    (cond_ind P (eqb a letter_l) _ _ (λ t. other_above l_slot z (omega arith) (few z (size_below (taken w letter_l i (eqb_is a letter_l t))) (omega arith)))
    (cond_ind P (eqb a letter_p) _ _ (λ t. other_below (p_slot w.index) z (omega arith) (omega (arith, i.index)) (path_small z (taken w letter_p i (eqb_is a letter_p t))))
    (cond_ind P (eqb a letter_d) _ _ (λ t. setting_holds (d_slot w.index) z (omega arith) (size_below (taken w letter_d i (eqb_is a letter_d t))))
    (cond_ind P (eqb a letter_g) _ _ (λ t. g_holds (g_code (number_in w)) z (few z (size_below (taken w letter_g i (eqb_is a letter_g t))) (omega arith)))
    (cond_ind P (eqb a letter_m) _ _ (λ t. m_holds (m_code (number_in w)) z (few z (size_below (taken w letter_m i (eqb_is a letter_m t))) (omega arith)) (m_groups (number_in w)))
    (cond_ind P (eqb a letter_n) _ _ (λ _. tt) tt))))))))))))))

-- ---- a block whose slots hold what they may
abbrev Held : List ℤ → Type 0
Held zs = (k : ℕ) → Holds k (get_or zs k (pos 0))

zero_holds : (k : ℕ) → Holds k (pos 0)
unfolding in_table
zero_holds k = record { path = λ _. refl; setting = λ _ _. omega arith; any = omega arith }

zeros : (n k : ℕ) → get_or (replicate n (pos 0)) k (pos 0) ≡ pos 0
zeros zero zero = refl
zeros zero (suc k) = refl
zeros (suc n) zero = refl
zeros (suc n) (suc k) = zeros n k

none_held : Held no_words.value
unfolding no_words
none_held k = subst (Holds k) (sym (zeros slots k)) (zero_holds k)

-- what holds of the number that is set, and of each number before, holds of each after
set_keeps : (P : ℤ → Type 0) (zs : List ℤ) (k j : ℕ) (z : ℤ) → (k ≡ j → P z) → P (get_or zs j (pos 0)) → P (get_or (set zs k z) j (pos 0))
set_keeps P [] k j z f g = g
set_keeps P (y ∷ zs) zero zero z f g = f refl
set_keeps P (y ∷ zs) zero (suc j) z f g = g
set_keeps P (y ∷ zs) (suc k) zero z f g = g
set_keeps P (y ∷ zs) (suc k) (suc j) z f g = set_keeps P zs k j z (λ e. f (ap suc e)) g

set_held : (zs : List ℤ) (k : ℕ) (z : ℤ) → Holds k z → Held zs → Held (set zs k z)
set_held zs k z h f j = set_keeps (Holds j) zs k j z (λ e. subst (λ (n : ℕ). Holds n z) e h) (f j)

put_held : (k : Slot) (b : Block) (w : Word) → SlotHolds k w.value → Held b.value → Held (put_in k b w).value
put_held (At k) b w h f = set_held b.value k w.value h f
put_held Late b w h f = f
put_held Unknown b w h f = f

-- ---- the words of a line
abbrev Each : Words → Type 0
Each (word w ws) = WordIn w × Each ws
Each ended = Unit {0}
Each faulty = Unit {0}

each_onward : (n : NextWord) (f : ℕ → Words) → NextWithin n → ((end : ℕ) → Each (f end)) → Each (onward n f)
each_onward (next.Word w end) f i g = (i, g end)
each_onward next.End f i g = tt
each_onward next.Fault f i g = tt

each_word : (k : ℕ) (s : List ℕ) (i : ℕ) → Each (words_up k s i)
unfolding words_up
each_word zero s i = tt
each_word (suc k) s i = each_onward (next_word s i) (λ end. words_up k s end) (word_within s i) (λ end. each_word k s end)

gather_held : (b : Block) (ws : Words) → Held b.value → Each ws → Held (gather b ws).block.value
unfolding gather faulty_rest put_word
gather_held b ended f e = f
gather_held b faulty f e = none_held
gather_held b (word w ws) f e =
    cond_ind (λ (r : Rest). Held r.block.value) (is_program_address w.address) faulty_rest _ (λ _. none_held)
    (gather_held (put_in (slot_of w) b w) ws (put_held (slot_of w) b w (slot_holds w e.0) f) e.1)

line_held : (s : List ℕ) (n : NextWord) → Held (line_by s n).block.value
unfolding gather faulty_rest words_from
line_held s next.Fault = none_held
line_held s next.End = none_held
line_held s (next.Word w end) = gather_held no_words (words_up (suc (length s)) s end) none_held (each_word (suc (length s)) s end)

pub worded : (s : List ℕ) → Worded (line_of s).block
unfolding line_of
worded s =
    let h = line_held s (next_word s 0) in
    record { paths = λ k l. (h k).path l; each = λ k. (h k).any; settings = λ i l. (h (d_slot i)).setting (omega arith) (omega (arith, l)) }
