-- A part of the state that is laid into its words: that part is the new one, and the two others are as they were.
-- Assumes nothing.
use mathlib.Core.Path.{◌≡◌, sym, ap, ◌∙◌}
use mathlib.Core.List.{List, [], ◌++◌, append-nil}
use Prim.Native.Nat.{ℕ, ◌+◌, ◌-◌, ◌≤◌}
use native.Mathlib.Nat.{zero-add}
use native.Mathlib.Omega.{arith}
use lib.ListN.{length, take, drop, length-drop, drop_of_length-le}
use lib.Seq.{take_at, drop_at, drop-drop, take-take, take-add, take-append-le, length-take-le}
use borrow.Rule.Slice.PartMut.{put_mid}
use Rattle.octets.specs.Bytes.{laid}
use Rattle.octets.proofs.Laying.{lent, length_laid}
use Rattle.cyclewords.specs.Sizes.{due_words}
use Rattle.planwords.specs.Plan.{plan_words}
use Rattle.runlaid.specs.of_runwords.Taken.{going_words}
use Rattle.statewords.specs.State.{state_words, due_in, plan_in, going_in}

-- ---- what stands before the words that were laid, where they are, and behind them
before : (w : List ℕ) (at : ℕ) (p : List ℕ) (n : ℕ) → n ≤ at → at ≤ length w → take n (laid w at p) ≡ take n w
unfolding laid
before w at p n h k =
    let l = length-take-le at w k in
    take-append-le n (take at w) (p ++ drop (at + length p) w) (omega (arith, l)) ∙ take-take n at w h

there : (w : List ℕ) (at : ℕ) (p : List ℕ) → at ≤ length w → drop at (laid w at p) ≡ p ++ drop (at + length p) w
unfolding laid
there w at p k = drop_at (take at w) (p ++ drop (at + length p) w) at (length-take-le at w k)

behind : (w : List ℕ) (at : ℕ) (p : List ℕ) (n : ℕ) → length p ≡ n → at ≤ length w → drop (at + n) (laid w at p) ≡ drop (at + n) w
behind w at p n e k =
    sym (drop-drop n at (laid w at p)) ∙ ap (drop n) (there w at p k) ∙ drop_at p (drop (at + length p) w) n e ∙ ap (λ (i : ℕ). drop (at + i) w) e

-- the words of what is due are as many as they take
pub length_due : (w : List ℕ) → length w ≡ state_words → length (due_in w) ≡ due_words
length_due w h = length-take-le due_words w (omega arith)

-- the words of the plan are those of the first two parts without the first
plan_of_two : (w : List ℕ) → length w ≡ state_words → plan_in w ≡ drop due_words (take (due_words + plan_words) w)
plan_of_two w h =
    sym (ap (drop due_words) (take-add due_words plan_words w) ∙ drop_at (due_in w) (plan_in w) due_words (length-take-le due_words w (omega arith)))

-- ---- the three parts, where one is laid
pub record Parts (d p g v : List ℕ) : Type 0 where
  pub due : due_in v ≡ d
  pub plan : plan_in v ≡ p
  pub going : going_in v ≡ g

pub due_laid : (w d : List ℕ) → length w ≡ state_words → length d ≡ due_words → Parts d (plan_in w) (going_in w) (laid w 0 d)
due_laid w d h e =
    let past : drop due_words (laid w 0 d) ≡ drop due_words w = behind w 0 d due_words e (omega arith) in
    record {
      due = ap (take due_words) (there w 0 d (omega arith)) ∙ take_at d (drop (0 + length d) w) due_words e;
      plan = ap (take plan_words) past;
      going = sym (drop-drop plan_words due_words (laid w 0 d)) ∙ ap (drop plan_words) past ∙ drop-drop plan_words due_words w;
    }

pub plan_laid : (w p : List ℕ) → length w ≡ state_words → length p ≡ plan_words → Parts (due_in w) p (going_in w) (laid w due_words p)
plan_laid w p h e =
    record {
      due = before w due_words p due_words (omega arith) (omega arith);
      plan = ap (take plan_words) (there w due_words p (omega arith)) ∙ take_at p (drop (due_words + length p) w) plan_words e;
      going = behind w due_words p plan_words e (omega arith);
    }

pub going_laid : (w g : List ℕ) → length w ≡ state_words → length g ≡ going_words → Parts (due_in w) (plan_in w) g (laid w (due_words + plan_words) g)
unfolding laid
going_laid w g h e =
    let two : ℕ = due_words + plan_words in
    let v : List ℕ = laid w two g in
    let none : drop (two + length g) w ≡ [] = drop_of_length-le w {i = two + length g} (omega arith) in
    let same : take two v ≡ take two w = before w two g two (omega arith) (omega arith) in
    record {
      due = before w two g due_words (omega arith) (omega arith);
      plan = plan_of_two v (length_laid w two g (omega arith) ∙ h) ∙ ap (drop due_words) same ∙ sym (plan_of_two w h);
      going = there w two g (omega arith) ∙ ap (λ (r : List ℕ). g ++ r) none ∙ append-nil g;
    }

-- the last part was lent, and came back whole
pub going_lent : (w g : List ℕ) → length w ≡ state_words → length g ≡ going_words → put_mid (due_words + plan_words) (length w - (due_words + plan_words)) w g ≡ laid w (due_words + plan_words) g
unfolding laid
going_lent w g h e =
    let two : ℕ = due_words + plan_words in
    let k : ℕ = length w - two in
    let part : List ℕ = take k (drop two w) in
    let few : length part ≤ length g = omega (arith, length-take-le k (drop two w) (omega (arith, length-drop two w))) in
    lent w two g g (sym (append-nil g) ∙ ap (λ (r : List ℕ). g ++ r) (sym (drop_of_length-le part {i = length g} few) ∙ ap (λ (n : ℕ). drop n part) (sym (zero-add (length g)))))
