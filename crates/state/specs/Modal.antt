-- 01, "Running a block": "At the start: no motion function, G97, G95, G53, G56, tool correction 0, no F." "T is turret position times 100 plus correction number; correction 0 is none."
-- "F is one register for feed and pitch." "The first traverse after a T word or any word of group 3 or 5 must be G00 with a path word (001). .. A block's own G and T words act before its
-- move."
use Rattle.std.specs.Prelude.{Bool, true, false, cond, ◌||◌, ℕ, ◌%◌, ℤ}
use Rattle.acts.specs.Acting.{keep, motion_by, shift_by, cutting_by, revolution_by}
use Rattle.acts.specs.declared.Kept.{Kept}
use Rattle.acts.specs.declared.Kept.TheVariants.{Nothing}
use Rattle.block.specs.Slots.{f_slot, t_slot, motion_slot, speed_mode_slot, feed_mode_slot, shift3_slot, shift5_slot, has, code_in, g_in}
use Rattle.block.specs.declared.Block.{Block}
use Rattle.state.specs.declared.State.{State}

-- "At the start: no motion function, G97, G95, G53, G56, tool correction 0, no F." No G00 is due
abbrev pub at_start : ℤ → ℤ → State
at_start x z =
    record { motion = Nothing; g96 = false; g95 = true; shift_group3 = 0; shift_group5 = 0; correction = 0; f = 0; rapid_due = false; x = x; z = z }

-- a block's motion: that of its own word of group 0, else the kept one
unfoldable pub block_motion : Kept → Block → Kept
block_motion before b = motion_by (g_in b motion_slot) before

-- ---- T, F, and the due G00
unfoldable pub correction_after : ℕ → Block → ℕ
correction_after before b = cond (has b t_slot) (code_in b t_slot % 100) before

unfoldable pub feed_after : ℕ → Block → ℕ
feed_after before b = cond (has b f_slot) (code_in b f_slot) before

unfoldable pub due_after : Bool → Block → Bool
due_after before b = before || (has b t_slot || (has b shift3_slot || has b shift5_slot))

-- the state with a block's words acted, before its move
unfoldable pub settled : State → Block → State
settled s b = record {
  motion = keep (block_motion s.motion b) s.motion;
  g96 = cutting_by (g_in b speed_mode_slot) s.g96;
  g95 = revolution_by (g_in b feed_mode_slot) s.g95;
  shift_group3 = shift_by (g_in b shift3_slot) s.shift_group3;
  shift_group5 = shift_by (g_in b shift5_slot) s.shift_group5;
  correction = correction_after s.correction b;
  f = feed_after s.f b;
  rapid_due = due_after s.rapid_due b;
  x = s.x;
  z = s.z;
}
