-- The laws of offsets and targets: the numbers of the table and their sums fit an `i32`, and no lawful target is refused.
-- Assumes nothing.
use mathlib.Core.Path.{◌≡◌, ap, ◌∙◌}
use mathlib.Core.Bool.{true, false, cond}
use mathlib.Core.List.{List}
use Prim.Native.Nat.{ℕ, zero, suc, ◌+◌, ◌-◌, ◌*◌, ◌≤◌}
use native.Mathlib.Omega.{arith}
use lib.Dec.{eqb}
use lib.IntN.{ℤ, pos, ◌+ℤ◌, ◌*ℤ◌}
use lib.Signed.{◌≤ℤ◌}
use lib.ListN.{get_or}
use borrow.Author.Tests.{ne_eqb}
use mir.Syntax.{w32}
use mir.Val.{SFits, to_z, of_z}
use mir.Facts.{to_z-of_z}
use Rattle.whole.specs.Position.{placed}
use Rattle.whole.specs.declared.position.Placed.{Placed}
use Rattle.whole.specs.declared.position.Placed.TheVariants.{At}
use Rattle.whole.proofs.Integers.{whole, add_in}
use Rattle.whole.proofs.Held.{Holds, held, is, sum, sum_need}
use Rattle.whole.proofs.Positions.{InTable, in_range, placed_at, w_placed, u_placed}
use Rattle.block.specs.Slots.{x_slot, z_slot, w_slot, has}
use Rattle.block.specs.declared.Block.{Block}
use Rattle.targets.specs.declared.Pair.{Pair}
use Rattle.settings.specs.Known.{Table}
use Rattle.state.specs.Known.{place_or, offset_least, offset_greatest, Sent}
use Rattle.targets.specs.Target.{pair_of, correction_pair, offset_of}
use Rattle.state.specs.declared.State.{State}

pub zero_in : InTable (pos 0)
zero_in = record { low = omega whole; high = omega whole }

-- ---- the numbers of a pair
pub record PairIn (p : Pair) : Type 0 where
  pub x : InTable p.x
  pub z : InTable p.z

pub pair_in : (table : List ℤ) → Table table → (i : ℕ) → PairIn (pair_of table i)
unfolding pair_of
pair_in table h zero = record { x = zero_in; z = zero_in }
pair_in table h (suc i) =
    let e : eqb (suc i) 0 ≡ false = ne_eqb (suc i) 0 (λ z. omega (arith, z)) in
    let k = 2 * (suc i - 1) in
    rw e (record { x = in_range (get_or table k (pos 0)) (h.each k); z = in_range (get_or table (k + 1) (pos 0)) (h.each (k + 1)) })

pub correction_le : (c : ℕ) → c ≤ 99 → correction_pair c ≤ 104
unfolding correction_pair
correction_le zero h = omega arith
correction_le (suc c) h = rw (ne_eqb (suc c) 0 (λ z. omega (arith, z))) (omega arith)

-- ---- their sums fit
pub table_fits : (a : ℤ) → InTable a → SFits w32 a
table_fits a h = omega whole

module _ (a b : ℤ) (ha : InTable a) (hb : InTable b) where
  two_fit : SFits w32 (a +ℤ b)
  two_fit = omega (whole, add_in a b)

  -- as the machine adds them: each is read back from its bits
  two : Holds w32 (of_z w32 (to_z w32 (of_z w32 a) +ℤ to_z w32 (of_z w32 b))) (a +ℤ b)
  two = sum (held (table_fits a ha)) (held (table_fits b hb)) two_fit

  pub two_need : SFits w32 (to_z w32 (of_z w32 a) +ℤ to_z w32 (of_z w32 b))
  two_need = sum_need (held (table_fits a ha)) (held (table_fits b hb)) two_fit

  module _ (c : ℤ) (hc : InTable c) where
    three_fit : SFits w32 (a +ℤ b +ℤ c)
    three_fit = omega (whole, add_in a b, add_in (a +ℤ b) c)

    pub three_need : SFits w32 (to_z w32 (of_z w32 (to_z w32 (of_z w32 a) +ℤ to_z w32 (of_z w32 b))) +ℤ to_z w32 (of_z w32 c))
    three_need = sum_need two (held (table_fits c hc)) three_fit

    pub three_is : to_z w32 (of_z w32 (to_z w32 (of_z w32 (to_z w32 (of_z w32 a) +ℤ to_z w32 (of_z w32 b))) +ℤ to_z w32 (of_z w32 c))) ≡ a +ℤ b +ℤ c
    three_is = is (sum two (held (table_fits c hc)) three_fit)

-- ---- the offset in force is between the two bounds of an offset, so that a caller may ask for a target with it
pub record Offset (offset : ℤ) : Type 0 where
  pub low : offset_least ≤ℤ offset
  pub high : offset ≤ℤ offset_greatest

three_between : (a b c : ℤ) → InTable a → InTable b → InTable c → Offset (a +ℤ b +ℤ c)
three_between a b c ha hb hc = let n = add_in a b in let m = add_in (a +ℤ b) c in record { low = omega whole; high = omega whole }

module _ (table : List ℤ) (h : Table table) (s : State) where
  first_in : PairIn (pair_of table s.shift_group3)
  first_in = pair_in table h s.shift_group3

  second_in : PairIn (pair_of table s.shift_group5)
  second_in = pair_in table h s.shift_group5

  tool_in : PairIn (pair_of table (correction_pair s.correction))
  tool_in = pair_in table h (correction_pair s.correction)

  pub offset_x : Offset (offset_of table s).x
  unfolding offset_of
  offset_x = three_between _ _ _ first_in.x second_in.x tool_in.x

  pub offset_z : Offset (offset_of table s).z
  unfolding offset_of
  offset_z = three_between _ _ _ first_in.z second_in.z tool_in.z

-- ---- where a block sends an axis: by its absolute word in the slot k, by d, which its incremental word in the slot k + 2 says, or nowhere
abbrev pub goal : Block → ℕ → ℤ → ℤ → ℤ → ℤ
goal b k d present offset = cond (has b k) (get_or b.value k (pos 0) +ℤ offset) (cond (has b (k + 2)) (present +ℤ d) present)

-- what is known of the axis
pub record Going (b : Block) (k : ℕ) (present offset : ℤ) : Type 0 where
  pub at : InTable present
  pub word : InTable (get_or b.value k (pos 0))
  pub step : InTable (get_or b.value (k + 2) (pos 0))
  pub offset_fits : SFits w32 offset
  pub low : offset_least ≤ℤ offset
  pub high : offset ≤ℤ offset_greatest

module _ (s : State) (b : Block) (offset : ℤ) (h : Sent s b offset) where
  words : (k : ℕ) → k ≤ w_slot → InTable (get_or b.value k (pos 0))
  words k l = in_range (get_or b.value k (pos 0)) (h.words k l)

  offset_fits : SFits w32 offset
  offset_fits = omega whole

  pub going_x : Going b x_slot s.x offset
  going_x = record {
    at = in_range s.x h.x;
    word = words 0 (omega arith);
    step = words 2 (omega arith);
    offset_fits = offset_fits;
    low = h.low;
    high = h.high;
  }

  pub going_z : Going b z_slot s.z offset
  going_z = record {
    at = in_range s.z h.z;
    word = words 1 (omega arith);
    step = words 3 (omega arith);
    offset_fits = offset_fits;
    low = h.low;
    high = h.high;
  }

-- ---- its three ways, as the machine computes them: a lawful target is placed
-- a number as it is read back from its bits
abbrev read : ℤ → ℤ
read z = to_z w32 (of_z w32 z)

module _ (b : Block) (k : ℕ) (present offset : ℤ) (g : Going b k present offset) where
  abbrev word : ℤ
  word = get_or b.value k (pos 0)

  abbrev step : ℤ
  step = get_or b.value (k + 2) (pos 0)

  present_is : read present ≡ present
  present_is = to_z-of_z (table_fits present g.at)

  step_is : read step ≡ step
  step_is = to_z-of_z (table_fits step g.step)

  at_word : placed (word +ℤ offset) ≡ At (record { um = word +ℤ offset })
  at_word =
      let n = add_in word offset in
      let w = g.word in
      placed_at (word +ℤ offset) (omega whole) (omega whole)

  pub by_word : (d : ℤ) → has b k ≡ true → place_or (placed (read word +ℤ read offset)) (read present) ≡ goal b k d present offset
  by_word d h =
      (λ i. place_or (placed (to_z-of_z (table_fits word g.word) i +ℤ to_z-of_z g.offset_fits i)) (read present))
      ∙ ap (λ (p : Placed). place_or p (read present)) at_word
      ∙ simp h

  -- by an incremental word that counts double, and by one that counts once
  pub by_double : has b k ≡ false → has b (k + 2) ≡ true → place_or (placed (read present +ℤ pos 2 *ℤ read step)) (read present) ≡ goal b k (pos 2 *ℤ step) present offset
  by_double h t =
      (λ i. place_or (placed (present_is i +ℤ pos 2 *ℤ step_is i)) (read present))
      ∙ ap (λ (p : Placed). place_or p (read present)) (u_placed present step g.at g.step)
      ∙ simp (h, t)

  pub by_single : has b k ≡ false → has b (k + 2) ≡ true → place_or (placed (read present +ℤ read step)) (read present) ≡ goal b k step present offset
  by_single h t =
      (λ i. place_or (placed (present_is i +ℤ step_is i)) (read present))
      ∙ ap (λ (p : Placed). place_or p (read present)) (w_placed present step g.at g.step)
      ∙ simp (h, t)

  pub by_none : (d : ℤ) → has b k ≡ false → has b (k + 2) ≡ false → read present ≡ goal b k d present offset
  by_none d h t = present_is ∙ simp (h, t)
