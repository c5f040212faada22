-- Parts that are put into the words one behind the other.
-- Assumes nothing.
use mathlib.Core.Path.{◌≡◌, refl, sym, ap, ◌∙◌, subst}
use mathlib.Core.List.{List, [], ◌∷◌, ◌++◌, append_assoc}
use Prim.Native.Nat.{ℕ, zero, suc, ◌+◌, ◌*◌, ◌≤◌, ◌<◌}
use native.Mathlib.Omega.{arith}
use lib.ListN.{length, get_or, take, drop, set, length-set}
use native.Mathlib.Numerals.{add-one}
use lib.Seq.{sets-eq, take_all, length-take-le}
use lib.IntN.{ℤ, pos, negsuc}
use mathlib.Core.Bool.{Bool, true, false}
use mir.Syntax.{w32}
use mir.Val.{SFits}
use Rattle.std.specs.Int.{from_bool, cast_unsigned}
use Rattle.octets.specs.Bytes.{word_of, signed_bytes, laid}
use Rattle.octets.proofs.Laying.{laid_nil, laid_on, four_laid}
use Rattle.octets.proofs.LittleEndian.{read_back, word_fits, signed_read_back}
use Rattle.ahead.specs.Ahead.{most_calls}
use Rattle.runwords.specs.of_taking.declared.Run.{Run}
use Rattle.runwords.specs.of_resuming.declared.Waiting.{Waiting}
use Rattle.runwords.specs.of_paused.Kept.{nobody}
use Rattle.runwords.specs.Taken.{going_words, end_from, frame_from, run_from, waiting_from, waiting_words}
use Rattle.runwords.specs.Laid.{kept_tag, yes_word, signed_word, run_words, ReadBack, words_of, all_words, Put}

pub none_put : (b : List ℕ) (from : ℕ) → Put b from [] b
none_put b from = record { is = sym (laid_nil b from); long = refl }

-- another name of a part
pub named : {b v w e : List ℕ} {from : ℕ} → v ≡ w → Put b from v e → Put b from w e
named e p = rw e at p

-- a part is put where the one before it ends
pub joined : {b m e v w : List ℕ} {from n : ℕ} → Put b from v m → Put m n w e → from + length v ≡ n → n ≤ length b → Put b from (v ++ w) e
joined {b} {m} {e} {v} {w} {from} {n} p q at fits =
    record { is = q.is ∙ ap (λ (l : List ℕ). laid l n w) p.is ∙ laid_on b from v w n at fits; long = q.long ∙ p.long }

pub four_put : (b : List ℕ) (at : ℕ) (w : List ℕ) → length w ≡ 4 → at + 4 ≤ length b
    → Put b at w (set (set (set (set b at (get_or w 0 0)) (at + 1) (get_or w 1 0)) (at + 2) (get_or w 2 0)) (at + 3) (get_or w 3 0))
four_put b at w h k = record { is = four_laid b at w h k; long = simp length-set }

pub two_put : (b : List ℕ) (end filled : ℕ) → length b ≡ going_words → Put b end_from (end ∷ filled ∷ []) (set (set b end_from end) (end_from + 1) filled)
unfolding laid
two_put b end filled h =
    record {
      is = sets-eq (end ∷ filled ∷ []) b end_from (omega arith) ∙ append_assoc (take end_from b) (end ∷ filled ∷ []) (drop frame_from b);
      long = simp length-set;
    }

-- ---- the programs that wait
pub words_length : (l : List Waiting) → length (all_words l) ≡ length l * waiting_words
words_length [] = refl
words_length (p ∷ l) = let e = words_length l in omega arith

-- one more of them
pub one_more : (l : List Waiting) (k : ℕ) → k < length l → all_words (take k l) ++ words_of (get_or l k nobody) ≡ all_words (take (suc k) l)
one_more [] k h = absurd (omega arith)
one_more (p ∷ l) zero h = refl
one_more (p ∷ l) (suc k) h = ap (λ (r : List ℕ). words_of p ++ r) (one_more l k (omega arith))

-- what holds where k of them are laid
abbrev pub LaidTo : List ℕ → List Waiting → ℕ → List ℕ → Type 0
LaidTo b ws k m = Put b waiting_from (all_words (take k ws)) m × (k ≤ most_calls)

pub next_laid : {b m e four : List ℕ} (ws : List Waiting) (k : ℕ) → length ws ≡ most_calls → length b ≡ going_words → k < most_calls → LaidTo b ws k m → Put m (waiting_from + k * waiting_words) four e
    → four ≡ words_of (get_or ws k nobody) → LaidTo b ws (k + 1) e
next_laid ws k n l h p q is =
    let long = words_length (take k ws) in
    let few : length (take k ws) ≡ k = length-take-le k ws (omega arith) in
    let put = joined p.0 q (omega arith) (omega arith) in
    (rw (add-one, ← one_more ws k (omega arith), ← is) put, omega arith)

pub all_laid : {b m : List ℕ} (ws : List Waiting) (k : ℕ) → length ws ≡ most_calls → most_calls ≤ k → LaidTo b ws k m → Put b waiting_from (all_words ws) m
all_laid {b} {m} ws k n h p = subst (λ (l : List Waiting). Put b waiting_from (all_words l) m) (take_all k ws (omega arith)) p.0

-- ---- numbers and flags as words
pub yes_is : (b : Bool) → from_bool b ≡ yes_word b
yes_is true = refl
yes_is false = refl

unsigned_is : (z : ℤ) → cast_unsigned w32 z ≡ word_of z
unsigned_is (pos n) = refl
unsigned_is (negsuc n) = refl

pub word_is : (z : ℤ) → SFits w32 z → cast_unsigned w32 z ≡ signed_word z
unfolding signed_bytes
word_is z f = unsigned_is z ∙ sym (read_back 4 (word_of z) (word_fits z f))

pub run_back : (r : Run) → SFits w32 r.state.x → SFits w32 r.state.z → ReadBack r
run_back r f g = record { x = signed_read_back r.state.x f; z = signed_read_back r.state.z g }

-- ---- the run, in three parts
pub run_put : (r : Run) {b d m e : List ℕ} {count motion g96 g95 due x z : ℕ} → length b ≡ going_words → Put b run_from (r.blocks_left ∷ count ∷ motion ∷ g96 ∷ []) d
    → Put d (run_from + 4) (g95 ∷ r.state.shift_group3 ∷ r.state.shift_group5 ∷ r.state.correction ∷ []) m → Put m (run_from + 8) (r.state.f ∷ due ∷ x ∷ z ∷ []) e
    → count ≡ r.count → motion ≡ kept_tag r.state.motion → g96 ≡ yes_word r.state.g96 → g95 ≡ yes_word r.state.g95 → due ≡ yes_word r.state.rapid_due
    → x ≡ signed_word r.state.x → z ≡ signed_word r.state.z → Put b run_from (run_words r) e
run_put r {b} {d} {m} {e} h p q o count motion g96 g95 due x z =
    let s = r.state in
    subst (λ (l : List ℕ). Put b run_from l e)
    (λ i.
    r.blocks_left ∷ count i ∷ motion i ∷ g96 i ∷ g95 i ∷ s.shift_group3 ∷ s.shift_group5 ∷ s.correction ∷ s.f ∷ due i ∷ x i ∷ z i ∷ [])
    (joined (joined p q refl (omega arith)) o refl (omega arith))
