-- What is known before a block is known after it, whether it is done or refused; and what is known before the first.
-- Assumes nothing.
use mathlib.Core.Path.{◌≡◌, refl, sym, ap, subst}
use mathlib.Core.List.{List}
use Prim.Native.Nat.{ℕ, zero, suc, ◌-◌, ◌≤◌}
use native.Mathlib.Omega.{arith}
use lib.IntN.{ℤ, pos}
use lib.ListN.{get_or, replicate}
use Rattle.whole.specs.Position.{in_table}
use Rattle.block.specs.declared.Block.{Block}
use Rattle.settings.specs.Known.{Table, InRange}
use Rattle.panel.specs.Listmoves.{listmoves, no_offsets}
use Rattle.settings.specs.Wrong.{table_size}
use Rattle.settings.specs.declared.Settings.{Settings}
use Rattle.state.specs.Known.{Sound}
use Rattle.state.specs.declared.State.{State}
use Rattle.machine.specs.Blocks.{outcome_of}
use Rattle.machine.specs.declared.BlockDone.{BlockDone}
use Rattle.machine.specs.declared.BlockOutcome.TheVariants.{Done}
use Rattle.machine.proofs.Running.{was_done, done_few, sound_after}

-- ---- a table of zeros
zeros : (n k : ℕ) → get_or (replicate n (pos 0)) k (pos 0) ≡ pos 0
zeros zero zero = refl
zeros zero (suc k) = refl
zeros (suc n) zero = refl
zeros (suc n) (suc k) = zeros n k

pub table_right : Table no_offsets
unfolding in_table
table_right = record { size = refl; each = λ i. ap in_table (zeros table_size i) }

-- ---- the settings
pub range_right : InRange listmoves
unfolding in_table
range_right = record { retract = omega arith; x = record { lowest = refl; highest = refl }; z = record { lowest = refl; highest = refl }; empty_cuts = omega arith }

-- ---- a block that was done
pub carried : (table : List ℤ) (set : Settings) (s : State) (b : Block) (room k : ℕ) → set ≡ listmoves → Sound s → k ≤ room → {d : BlockDone}
    → outcome_of table set s b room k ≡ Done d → Sound d.state × (d.count ≤ room)
carried table set s b room k e h few is =
    let w = was_done table set s b room k is in
    (subst Sound (sym w.state) (sound_after table set s b (room - k) w.well (subst InRange (sym e) range_right) h), omega (arith, w.count, few, done_few table set s b (room - k) w.well))
