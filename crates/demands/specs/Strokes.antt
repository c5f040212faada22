-- THE LAW OF THE FOUR CYCLES, of every block of a run that opens one, said as demand 3 is. 02, request 9: "State one law for G84, G86, G87 and G88: the depths add up to the stroke." Which way in a block
-- asks for is read off its words and the state before it, and not off what the block did; the depths are read off the records that the step wrote (`strokes`).
use Rattle.std.specs.Prelude.{◌≡◌, Bool, true, cond, ◌||◌, List, ℕ, ℤ, length}
use Rattle.moves.specs.Reading.{records_in}
use Rattle.codes.specs.Codes.{turning_number, grooving_number, chip_breaking_number, redrawing_number}
use Rattle.block.specs.Slots.{group_zero_is}
use Rattle.block.specs.declared.Block.{Block}
use Rattle.settings.specs.declared.Settings.{Settings}
use Rattle.axes.specs.Axis.{distance, side, net}
use Rattle.axes.specs.declared.Axis.{Axis}
use Rattle.strokes.specs.Strokes.{Inward, DepthsAddUp}
use Rattle.state.specs.Modal.{settled}
use Rattle.targets.specs.Target.{offset_of}
use Rattle.state.specs.declared.State.{State}
use Rattle.targets.specs.declared.Pair.{Pair}
use Rattle.scaling.specs.Wanted.{z_before_x, x_axis_wanted, z_axis_wanted}
use Rattle.interpreter.specs.of_taking.Steps.{Task, Step, block_on}
use Rattle.interpreter.specs.Answers.{interpretation, buffer_of}
use Rattle.demands.specs.Demands.{Each, EachFrom, StandsIn, task}

-- the G word of group 0 that applies is one of the four
unfoldable pub opens_cutting : Block → Bool
opens_cutting b = (group_zero_is b turning_number || group_zero_is b grooving_number) || (group_zero_is b chip_breaking_number || group_zero_is b redrawing_number)

-- the way in along an axis, so far
abbrev pub way_in : Bool → Axis → ℕ → Inward
way_in facing a far = record { facing = facing; start = a.start; side = side a; stroke = far }

-- the axis that G84 and G86 go in along: "X or U before Z or W is longitudinal, else facing"; "alongside (X before Z)"
abbrev pub first_axis : Block → State → Pair → Axis
first_axis b s offset = cond (z_before_x b) (z_axis_wanted b s offset) (x_axis_wanted b s offset)

-- G84: the infeed less the allowance. G86: the depth. G87 and G88: "Z or W is the target"
unfoldable pub inward_wanted : Block → State → Pair → Inward
inward_wanted b s offset =
    cond (group_zero_is b turning_number) (way_in (z_before_x b) (first_axis b s offset) (net (first_axis b s offset)))
    (cond (group_zero_is b grooving_number) (way_in (z_before_x b) (first_axis b s offset) (distance (first_axis b s offset)))
    (way_in true (z_axis_wanted b s offset) (distance (z_axis_wanted b s offset))))

-- in the state s before the block, as `wanted_in` is
unfoldable pub inward_in : List ℤ → State → Block → Inward
inward_in table s b = inward_wanted b (settled s b) (offset_of table (settled s b))

-- a step whose block is one of the four keeps the law
abbrev pub Deepens : Task → Step → Type 0
Deepens t st =
    opens_cutting (block_on t.tape st.place) ≡ true
    → DepthsAddUp (inward_in t.table st.before.state (block_on t.tape st.place)) st.records

-- THE LAW, of every tape, table and settings, and every length of the table of places and of the buffer: every such cycle that the run opened, in the main program, in subprograms and in repeats
abbrev pub DepthLaw : List ℕ → List ℤ → Settings → ℕ → ℕ → Type 0
DepthLaw tape table set size bytes = Each (Deepens (task tape table set size bytes)) (interpretation tape table set size bytes).steps

-- such a cycle in the buffer: it starts where the records before it have left the axes, and the depths of its records add up
pub record AddsUpIn (t : Task) (e : List ℕ) (st : Step) (k : ℕ) : Type 0 where
  pub stands : StandsIn t e st k
  pub adds_up : DepthsAddUp (inward_in t.table st.before.state (block_on t.tape st.place)) (records_in e k (length st.records))

abbrev pub DeepensIn : Task → List ℕ → Step → ℕ → Type 0
DeepensIn t e st k = opens_cutting (block_on t.tape st.place) ≡ true → AddsUpIn t e st k

-- of every tape, table, settings, length of the table of places and buffer b, said of the bytes that are in the buffer after the run
abbrev pub DepthLawInBuffer : List ℕ → List ℤ → Settings → ℕ → List ℕ → Type 0
DepthLawInBuffer tape table set size b =
    EachFrom (DeepensIn (task tape table set size (length b)) (buffer_of tape table set size b)) 0 (interpretation tape table set size (length b)).steps
