-- The laws of what is known between two blocks: a block's words keep it, it is all that a target asks for, and no target is far away.
-- Assumes nothing.
use mathlib.Core.Path.{◌≡◌, refl}
use mathlib.Core.Bool.{Bool, true, false, cond, ◌&&◌}
use mathlib.Core.List.{List, [], ◌∷◌}
use Prim.Native.Nat.{ℕ, zero, suc, ◌+◌, ◌≤◌, ◌<◌}
use native.Mathlib.Omega.{arith}
use lib.Dec.{leb}
use borrow.Author.Tests.{leb-true}
use lib.IntN.{ℤ, pos, nat_abs, ◌+ℤ◌, ◌-ℤ◌, ◌*ℤ◌}
use lib.ListN.{get_or, take, drop}
use Rattle.whole.specs.Position.{in_table}
use Rattle.whole.proofs.Positions.{InTable}
use Rattle.whole.proofs.Integers.{whole, add_in, sub_in, up_mul, down_mul, abs}
use Rattle.acts.specs.Acting.{keep, shift_by}
use Rattle.acts.specs.declared.Kept.{Kept}
use Rattle.acts.specs.declared.Kept.TheVariants.{Nothing, Of}
use Rattle.codes.specs.Codes.{Row, look, g_rows, g_code}
use Rattle.block.specs.Slots.{x_slot, z_slot, u_slot, w_slot, t_slot, has, code_in, g_in}
use Rattle.block.specs.Worded.{Worded}
use Rattle.codes.specs.declared.Code.TheVariants as code
use Rattle.codes.specs.declared.Motion.TheVariants as motion
use Rattle.block.specs.declared.Block.{Block}
use Rattle.state.specs.declared.State.{State}
use Rattle.state.specs.Modal.{at_start, block_motion, correction_after, settled}
use Rattle.settings.specs.Known.{Table}
use Rattle.state.specs.Known.{Sound, Sent}
use Rattle.targets.specs.Target.{offset_of, word_in, target_x, target_z}
use Rattle.targets.proofs.Sending.{Offset, offset_x, offset_z, goal, Going, going_x, going_z}

-- ---- a shift called by a G number is at most 5
module _ (before : ℕ) (l : before ≤ 5) where
  abbrev Shifts : ℕ → List Row → Type 0
  Shifts n [] = Unit {0}
  Shifts n (r ∷ rs) = (r.low ≤ n → n ≤ r.high → shift_by (code.Of r.group (r.meaning n)) before ≤ 5) × Shifts n rs

  shifts : (n : ℕ) (rs : List Row) → Shifts n rs → shift_by (look rs n) before ≤ 5
  unfolding shift_by
  shifts n [] h = l
  shifts n (r ∷ rs) h = go (leb r.low n) (leb n r.high) refl refl (shifts n rs h.1)
    where
      go : (a b : Bool) → leb r.low n ≡ a → leb n r.high ≡ b → shift_by (look rs n) before ≤ 5
          → shift_by (cond (a && b) (code.Of r.group (r.meaning n)) (look rs n)) before ≤ 5
      go true true p q k = h.0 (leb-true r.low n p) (leb-true n r.high q)
      go true false p q k = k
      go false b p q k = k

  -- `omega` takes few rows at a time
  both : (k : ℕ) (rs : List Row) (n : ℕ) → Shifts n (take k rs) → Shifts n (drop k rs) → Shifts n rs
  both zero rs n a b = b
  both (suc k) [] n a b = tt
  both (suc k) (r ∷ rs) n a b = (a.0, both k rs n a.1 b)

  shift_few : (n : ℕ) → shift_by (g_code n) before ≤ 5
  unfolding g_code shift_by
  shift_few n = shifts n g_rows (both 9 g_rows n (omega arith) (omega arith))

  shift_after : (b : Block) (k : ℕ) → shift_by (g_in b k) before ≤ 5
  unfolding g_in shift_by
  shift_after b k = go (has b k)
    where
      go : (t : Bool) → shift_by (cond t (g_code (code_in b k)) code.Unknown) before ≤ 5
      go true = shift_few (code_in b k)
      go false = l

-- ---- a number that a block's word gives, else the one before
either : (t : Bool) (x y n : ℕ) → x ≤ n → y ≤ n → cond t x y ≤ n
either true x y n h k = h
either false x y n h k = k

correction_after_lem : (before : ℕ) (b : Block) → before ≤ 99 → correction_after before b ≤ 99
unfolding correction_after
correction_after_lem before b h = either (has b t_slot) _ before 99 (omega arith) h

-- ---- what is kept of a motion function is kept
keep_kept : (m before : Kept) → keep before Nothing ≡ before → keep (keep m before) Nothing ≡ keep m before
unfolding keep
keep_kept Nothing before e = e
keep_kept (Of motion.Rapid) before e = refl
keep_kept (Of motion.Feed) before e = refl
keep_kept (Of motion.Clockwise) before e = refl
keep_kept (Of motion.Counterclockwise) before e = refl
keep_kept (Of motion.Thread) before e = refl
keep_kept (Of motion.Dwell) before e = e
keep_kept (Of motion.Turning) before e = e
keep_kept (Of motion.Threading) before e = e
keep_kept (Of motion.Grooving) before e = e
keep_kept (Of motion.ChipBreaking) before e = e
keep_kept (Of motion.Redrawing) before e = e

pub settled_sound : (s : State) (b : Block) → Sound s → Sound (settled s b)
unfolding settled
settled_sound s b h = record {
  kept = keep_kept (block_motion s.motion b) s.motion h.kept;
  numbers = record {
    shift_group3 = shift_after s.shift_group3 h.numbers.shift_group3 b _;
    shift_group5 = shift_after s.shift_group5 h.numbers.shift_group5 b _;
    correction = correction_after_lem s.correction b h.numbers.correction;
  };
  x = h.x;
  z = h.z;
}

pub start_sound : (x z : ℤ) → in_table x ≡ true → in_table z ≡ true → Sound (at_start x z)
unfolding keep
start_sound x z hx hz = record { kept = refl; numbers = record { shift_group3 = omega arith; shift_group5 = omega arith; correction = omega arith }; x = hx; z = hz }

-- ---- it is what a target asks for, with the offset of the table
sent_with : (s : State) (b : Block) (o : ℤ) → Sound s → Worded b → Offset o → Sent s b o
sent_with s b o h w f = record { x = h.x; z = h.z; words = λ k l. w.paths k (omega arith); low = f.low; high = f.high }

pub sent_by : (table : List ℤ) (s : State) (b : Block) → Table table → Sound s → Worded b
    → Sent (settled s b) b (offset_of table (settled s b)).x × Sent (settled s b) b (offset_of table (settled s b)).z
sent_by table s b t h w =
    let n = settled s b in
    let k = settled_sound s b h in
    (sent_with n b (offset_of table n).x k w (offset_x table t n), sent_with n b (offset_of table n).z k w (offset_z table t n))

-- ---- no target is far away: an axis, its words in the slots k and k + 2, of which the second moves it by d
module _ (b : Block) (k : ℕ) (d present offset : ℤ) (g : Going b k present offset) (l : nat_abs d < 20_000_000) where
  near : nat_abs (goal b k d present offset -ℤ present) < 100_000_000
  near = go (has b k) (has b (k + 2))
    where
      word : ℤ
      word = get_or b.value k (pos 0)

      by_word : nat_abs (word +ℤ offset -ℤ present) < 100_000_000
      by_word = let w = g.word in omega (whole, add_in word offset, sub_in (word +ℤ offset) present, abs (word +ℤ offset -ℤ present))

      by_step : nat_abs (present +ℤ d -ℤ present) < 100_000_000
      by_step = omega (whole, add_in present d, sub_in (present +ℤ d) present, abs (present +ℤ d -ℤ present), abs d)

      by_none : nat_abs (present -ℤ present) < 100_000_000
      by_none = omega (whole, sub_in present present, abs (present -ℤ present))

      go : (t u : Bool) → nat_abs (cond t (word +ℤ offset) (cond u (present +ℤ d) present) -ℤ present) < 100_000_000
      go true u = by_word
      go false true = by_step
      go false false = by_none

-- a word of the table's range, doubled and not
double_small : (z : ℤ) → InTable z → nat_abs (pos 2 *ℤ z) < 20_000_000
double_small z h = omega (whole, up_mul 2 z, down_mul 2 z, abs (pos 2 *ℤ z))

small : (z : ℤ) → InTable z → nat_abs z < 20_000_000
small z h = omega (whole, abs z)

pub near_x : (s : State) (b : Block) (o : ℤ) → Sent s b o → nat_abs (target_x s b o -ℤ s.x) < 100_000_000
unfolding target_x
near_x s b o h = let g = going_x s b o h in near b x_slot (pos 2 *ℤ word_in b u_slot) s.x o g (double_small (word_in b u_slot) g.step)

pub near_z : (s : State) (b : Block) (o : ℤ) → Sent s b o → nat_abs (target_z s b o -ℤ s.z) < 100_000_000
unfolding target_z
near_z s b o h = let g = going_z s b o h in near b z_slot (word_in b w_slot) s.z o g (small (word_in b w_slot) g.step)
