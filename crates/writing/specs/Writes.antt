-- 01: "Records of a block, in order: speed if S, tool if T, M of group 0, M of group 3, motion or dwell, then M00 or M30. M17 gives none." Records before the move carry the position
-- before it; M00 and M30 the one after.
use Rattle.std.specs.Prelude.{Bool, cond, not, ◌&&◌, List, [], ◌∷◌, ◌++◌, ℕ, ◌+◌, ℤ}
use Rattle.moves.specs.Kinds.{tool, miscellaneous, speed}
use Rattle.moves.specs.declared.Record.{Record}
use Rattle.acts.specs.Acting.{returns_by}
use Rattle.block.specs.Slots.{has, s_slot, t_slot, spindle_slot, flow_slot, coolant_slot, code_in, m_in}
use Rattle.block.specs.declared.Block.{Block}
use Rattle.state.specs.declared.State.{State}
use Rattle.asking.specs.Judge.{doing}
use Rattle.deeds.specs.declared.Deed.{Deed}
use Rattle.deeds.specs.declared.Deed.TheVariants as deed

-- a record where it is wanted
unfoldable pub one_if : Bool → Record → List Record
one_if t r = cond t (r ∷ []) []

-- how many records that is
abbrev pub number_if : Bool → ℕ
number_if t = cond t 1 0

-- the records of S, of T and of an M word in the slot k, at the place where the axes stand
unfoldable pub speed_of : State → Block → Record
speed_of s b = speed s.x s.z (code_in b s_slot) s.g96

unfoldable pub tool_of : State → Block → Record
tool_of s b = tool s.x s.z (code_in b t_slot)

unfoldable pub m_of : State → Block → ℕ → Record
m_of s b k = miscellaneous s.x s.z (code_in b k)

-- "speed if S, tool if T, M of group 0, M of group 3", in the state that the block's words have settled
unfoldable pub speed_and_tool : State → Block → List Record
speed_and_tool s b = one_if (has b s_slot) (speed_of s b) ++ one_if (has b t_slot) (tool_of s b)

unfoldable pub spindle_and_coolant : State → Block → List Record
spindle_and_coolant s b = one_if (has b spindle_slot) (m_of s b spindle_slot) ++ one_if (has b coolant_slot) (m_of s b coolant_slot)

-- the state, standing elsewhere; the second: whether a G00 is due
unfoldable pub moved : State → Bool → ℤ → ℤ → State
moved s due x z =
    record { motion = s.motion; g96 = s.g96; g95 = s.g95; shift_group3 = s.shift_group3; shift_group5 = s.shift_group5; correction = s.correction; f = s.f; rapid_due = due; x = x; z = z }

-- the state after the deed: a move and an arc end at their target, a cycle where it began; after a G00 with a path word none is due
unfoldable pub done : State → Deed → State
done s deed.Nothing = s
done s deed.Nowhere = s
done s (deed.Dwell r) = s
done s (deed.Straight m) = moved s (s.rapid_due && not m.rapid) m.goes.x m.goes.z
done s (deed.Round r) = moved s s.rapid_due r.arc.end.x r.arc.end.z
done s (deed.Cycle c) = s

-- "then M00 or M30. M17 gives none", in the state after the deed
unfoldable pub stops : Block → Bool
stops b = has b flow_slot && not (returns_by (m_in b flow_slot))

unfoldable pub stopping : State → Block → List Record
stopping s b = one_if (stops b) (m_of s b flow_slot)

-- the records of a block, of the settled state and the deed
unfoldable pub writes : State → Block → Deed → List Record
writes s b d = speed_and_tool s b ++ (spindle_and_coolant s b ++ (doing d ++ stopping (done s d) b))

-- how many there are beside the deed's
unfoldable pub other_count : Block → ℕ
other_count b = (number_if (has b s_slot) + number_if (has b t_slot)) + (number_if (has b spindle_slot) + number_if (has b coolant_slot)) + number_if (stops b)
