-- Where enough is lent, 3 and 22 do not come.
-- Assumes nothing.
use mathlib.Core.Path.{◌≡◌, refl, sym, ap, subst, ◌∙◌}
use mathlib.Core.Bool.{Bool, true, false, cond, not, ◌&&◌}
use mathlib.Core.List.{List, [], ◌∷◌, ◌++◌}
use Prim.Native.Nat.{ℕ, suc, ◌+◌, ◌≤◌, ◌<◌}
use native.Mathlib.Omega.{arith}
use lib.Dec.{ltb, leb, eqb, T}
use lib.ListN.{length, length-append}
use borrow.Author.Tests.{le-ltb, lt-leb, eqb-false, not-true}
use Rattle.alarms.specs.Numbers.{bad_settings, tape_too_long, buffer_too_short, no_program, bad_byte_or_number, bad_line_start, line_too_long, word_rules, missing_point, places_too_short}
use Rattle.moves.specs.Form.{header_size}
use Rattle.reading.specs.Filling.{most_places}
use Rattle.tape.specs.Lines.{Text}
use Rattle.block.specs.Words.{line_of}
use Rattle.demands.specs.of_taking.Steps.{Step}
use Rattle.demands.specs.of_answers.Answers.{number_of}
use Rattle.demands.specs.of_answers.declared.Answer.{Answer}
use Rattle.demands.specs.of_interpreter.Answers.{Result}
use Rattle.demands.proofs.of_interpreter.Staying.{all_stay}
use Rattle.alarmed.specs.Order.{Row, Refused}
use Rattle.alarmed.specs.Tests.{Input, settings_bad, too_long, too_short, unopened, input_order, Line, overlong, unreadable, point_missing, start_bad, rules_broken, is_entry, table_full, line_order, block_order}
use Rattle.alarmed.specs.Walking.{block, early}
use Rattle.alarmed.specs.Alarmed.{lines_of, Sofar, at_first, as_line, Accepted, none, one, Reached, refuses, Stands, input, line, main, run, list, answered}
use Rattle.alarmed.specs.Never.{NeverShort, NeverFull}
use Rattle.alarmed.proofs.Orders.{first, refused_first}
use Rattle.alarmed.proofs.Alone.{alarms_stand}

-- ---- a number that an order does not give
behind : (t : Bool) (n m y : ℕ) → (n ≡ m → ⊥) → cond t n y ≡ m → y ≡ m
behind true n m y d e = absurd (d e)
behind false n m y d e = e

-- one test, which is computed; an order gives 0 where no test says yes
abbrev lacks : {A : Type 0} → ℕ → List (Row A) → Bool
lacks n [] = not (eqb 0 n)
lacks n (r ∷ rs) = not (eqb r.number n) && lacks n rs

both : (a b : Bool) → (a && b) ≡ true → (a ≡ true) × (b ≡ true)
both true b e = (refl, e)
both false b e = absurd (subst T (sym e) tt)

absent : {A : Type 0} (n : ℕ) (rs : List (Row A)) → lacks n rs ≡ true → (x : A) → first rs x ≡ n → ⊥
unfolding first
absent n [] l x e = eqb-false 0 n (not-true (eqb 0 n) l) e
absent n (r ∷ rs) l x e =
    let k = both (not (eqb r.number n)) (lacks n rs) l in
    absent n rs k.1 x (behind (r.test x) r.number n (first rs x) (eqb-false r.number n (not-true (eqb r.number n) k.0)) e)

-- ---- 3
not_short : (i : Input) → header_size ≤ i.bytes → first input_order i ≡ buffer_too_short → ⊥
unfolding first too_short
not_short i h e =
    let room : too_short i ≡ false = le-ltb i.bytes header_size h in
    let third = behind (too_long i) tape_too_long buffer_too_short _ (λ z. omega (arith, z)) (behind (settings_bad i) bad_settings buffer_too_short _ (λ z. omega (arith, z)) e) in
    let fourth : cond (unopened i) no_program 0 ≡ buffer_too_short = ap (λ (t : Bool). cond t buffer_too_short (cond (unopened i) no_program 0)) (sym room) ∙ third in
    omega (arith, behind (unopened i) no_program buffer_too_short 0 (λ z. omega (arith, z)) fourth)

stands_short : (i : Input) → header_size ≤ i.bytes → {a : Answer} {v : List Step} → Stands i a v → number_of a ≡ buffer_too_short → ⊥
stands_short i h (input r) e = not_short i h (refused_first i r ∙ e)
stands_short i h (line p (refuses {h = k} {line = t} at r)) e = absent buffer_too_short line_order refl (as_line i k t) (refused_first (as_line i k t) r ∙ e)
stands_short i h (main p r m) e = omega (arith, e)
stands_short i h (run p r m w (block f x)) e = absent buffer_too_short block_order refl _ (refused_first _ x ∙ e)
stands_short i h (run p r m w (early f)) e = omega (arith, e)
stands_short i h (list p r m w d) e = omega (arith, e)

pub never_short : NeverShort
never_short i h place count e = stands_short i h (alarms_stand i).stands (ap number_of e)

-- ---- 22
-- no more entries than lines
one_more : (b : Bool) (n m : ℕ) → n + cond b 1 0 + m ≤ n + suc m
one_more true n m = omega arith
one_more false n m = omega arith

few : {i : Input} {h k : Sofar} {ts : List Text} → Accepted i h ts k → k.entries ≤ h.entries + length ts
few none = omega arith
few {i} {h} {k} (one {t = t} {ts = ts} p l a) = omega (arith, few a, one_more (is_entry (line_of t.bytes).head) h.entries (length ts))

reached_few : {i : Input} {k : Sofar} {t : Text} → Reached i at_first (lines_of i.tape) k t → k.entries ≤ length (lines_of i.tape)
reached_few {i} {k} {t} r = omega (arith, few r.accepted, ap length r.are, length-append r.before (t ∷ r.behind))

not_full : (l : Line) → l.entries < l.size → first line_order l ≡ places_too_short → ⊥
unfolding first table_full
not_full l h e =
    let no = lt-leb l.size l.entries h in
    let last =
    behind (rules_broken l) word_rules places_too_short _ (λ z. omega (arith, z)) (behind (start_bad l) bad_line_start places_too_short _ (λ z. omega (arith, z))
    (behind (point_missing l) missing_point places_too_short _ (λ z. omega (arith, z)) (behind (unreadable l) bad_byte_or_number places_too_short _ (λ z. omega (arith, z))
    (behind (overlong l) line_too_long places_too_short _ (λ z. omega (arith, z)) e)))) in
    by (is_entry (line_of l.text).head) (ap (λ (t : Bool). cond (is_entry (line_of l.text).head && t) places_too_short 0) (sym no) ∙ last)
  where
    by : (b : Bool) → cond (b && false) places_too_short 0 ≡ places_too_short → ⊥
    by true z = omega (arith, z)
    by false z = omega (arith, z)

stands_full : (i : Input) → length (lines_of i.tape) < i.size → {a : Answer} {v : List Step} → Stands i a v → number_of a ≡ places_too_short → ⊥
stands_full i h (input r) e = absent places_too_short input_order refl i (refused_first i r ∙ e)
stands_full i h (line p (refuses {h = k} {line = t} at r)) e = not_full (as_line i k t) (omega (arith, reached_few at, h)) (refused_first (as_line i k t) r ∙ e)
stands_full i h (main p r m) e = omega (arith, e)
stands_full i h (run p r m w (block f x)) e = absent places_too_short block_order refl _ (refused_first _ x ∙ e)
stands_full i h (run p r m w (early f)) e = omega (arith, e)
stands_full i h (list p r m w d) e = omega (arith, e)

-- a table of more entries than the tape has lines is never full, and of all that are long enough for every tape the answer is the same
pub never_full : NeverFull
never_full i long place count e =
    let more : ℕ = most_places + suc (length (lines_of i.tape)) in
    let j : Input = record { tape = i.tape; table = i.table; settings = i.settings; size = more; bytes = i.bytes } in
    let same : answered i ≡ answered j = all_stay i.tape i.table i.settings i.size long i.bytes ∙ sym (all_stay i.tape i.table i.settings more (omega arith) i.bytes) in
    stands_full j (omega arith) (alarms_stand j).stands (ap (λ (x : Result). number_of x.answer) (sym same) ∙ ap number_of e)
