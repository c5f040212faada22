-- DEMAND 3'S OWN WORDS, and those of the promises of threads and of arcs: the cycle that a G84 block asks for, the thread that a G85 block asks for, and the arc that a block asks for under G02 or G03, from the words that apply in it, the offset in force, and the state after its own G, T and F words and before its move: the axes
-- stand there where they stood before the block. Nothing here is cited by what says how a G84, a G85 or an arc is done, nor cites it (`turning_of`, `thread_of`, `round_of`, `target_x`). That it is done so is proved: proofs/Wanted.antt, and of an arc that of `deeds`.
use Rattle.std.specs.Prelude.{Bool, true, false, cond, ℕ, ◌+◌, ◌*◌, ltb, ℤ, pos, nat_abs, ◌+ℤ◌, ◌*ℤ◌, get_or}
use Rattle.block.specs.Slots.{has, x_slot, z_slot, u_slot, w_slot, i_slot, k_slot, d_slot}
use Rattle.block.specs.declared.Block.{Block}
use Rattle.state.specs.declared.State.{State}
use Rattle.targets.specs.declared.Pair.{Pair}
use Rattle.axes.specs.declared.Axis.{Axis}
use Rattle.arcs.specs.declared.Arc.{Arc}
use Rattle.turning.specs.declared.Turning.{Turning}
use Rattle.threading.specs.Bits.{is_nominal, rule_of}
use Rattle.threading.specs.declared.Thread.{Thread}

-- the number of a word, and its place among the words of its block; both are 0 where a block that was read has no such word
abbrev pub word_number : Block → ℕ → ℤ
word_number b slot = get_or b.value slot (pos 0)

abbrev pub word_place : Block → ℕ → ℕ
word_place b slot = get_or b.place slot 0

-- "Target of X or Z = word + offset. Target of U or W = present machine position + word (U doubled). An axis without a word stays at its machine position."
abbrev pub x_target_wanted : Block → State → Pair → ℤ
x_target_wanted b s offset =
    cond (has b x_slot) (word_number b x_slot +ℤ offset.x)
    (cond (has b u_slot) (s.x +ℤ pos 2 *ℤ word_number b u_slot)
    s.x)

abbrev pub z_target_wanted : Block → State → Pair → ℤ
z_target_wanted b s offset =
    cond (has b z_slot) (word_number b z_slot +ℤ offset.z)
    (cond (has b w_slot) (s.z +ℤ word_number b w_slot)
    s.z)

-- D0, D2, D3: numbers without a sign. "Missing D0 and D2 are 0." "No D3, or 0: one pass."
abbrev pub d_number : Block → ℕ → ℕ
d_number b index = nat_abs (word_number b (d_slot index))

-- the two axes, each from where it stands to its target. 02: "D0 is per side, as U and D3 are. In document 01 the X allowance is 2 x D0, longitudinal and facing." D2 is the allowance on Z
abbrev pub x_axis_wanted : Block → State → Pair → Axis
x_axis_wanted b s offset = record { start = s.x; target = x_target_wanted b s offset; allowance = 2 * d_number b 0 }

abbrev pub z_axis_wanted : Block → State → Pair → Axis
z_axis_wanted b s offset = record { start = s.z; target = z_target_wanted b s offset; allowance = d_number b 2 }

-- "X or U before Z or W is longitudinal, else facing; the order is that of the words that apply": a block that runs has one of X and U and one of Z and W (else alarm 9), and the place of the
-- other is 0
abbrev pub z_before_x : Block → Bool
z_before_x b = ltb (word_place b z_slot + word_place b w_slot) (word_place b x_slot + word_place b u_slot)

-- "Longitudinal: the infeed is the X distance from start to target, and E is the infeed less D0; the end line is the Z target moved back toward the start by D2. .. d = 2 x D3 (D3 is per side).
-- .. Facing: exchange the axes, E from Z less D2, end line from X and D0, d = D3." F and G95 are no part of demand 3
unfoldable pub wanted : Block → State → Pair → Turning
wanted b s offset =
    cond (z_before_x b)
    (record { facing = true; infeed = z_axis_wanted b s offset; path = x_axis_wanted b s offset; division = d_number b 3; f = s.f; g95 = s.g95 })
    (record { facing = false; infeed = x_axis_wanted b s offset; path = z_axis_wanted b s offset; division = 2 * d_number b 3; f = s.f; g95 = s.g95 })

-- ---- 02, G85: "longitudinal and facing G85 (word order as G84) .. D6 is the depth per side, F the pitch. D7 counts as bits .. missing is 0"; no allowance is left
abbrev pub x_bare_wanted : Block → State → Pair → Axis
x_bare_wanted b s offset = record { start = s.x; target = x_target_wanted b s offset; allowance = 0 }

abbrev pub z_bare_wanted : Block → State → Pair → Axis
z_bare_wanted b s offset = record { start = s.z; target = z_target_wanted b s offset; allowance = 0 }

-- "Empty cuts repeat the last pass D4 times, else as a new setting says"
unfoldable pub thread_wanted : Block → State → Pair → ℕ → Thread
thread_wanted b s offset setting = record {
  facing = z_before_x b;
  infeed = cond (z_before_x b) (z_bare_wanted b s offset) (x_bare_wanted b s offset);
  path = cond (z_before_x b) (x_bare_wanted b s offset) (z_bare_wanted b s offset);
  rule = rule_of (d_number b 7);
  nominal = is_nominal (d_number b 7);
  d3 = d_number b 3;
  d6 = d_number b 6;
  empty = cond (has b (d_slot 4)) (d_number b 4) setting;
  pitch = s.f;
}

-- ---- 02, G02 and G03: "I and K, numbers like X, give the centre from the start, per side, missing is 0": on X, which is a diameter, I counts twice; no offset is in it
unfoldable pub arc_wanted : Bool → Block → State → Pair → Arc
arc_wanted clockwise b s offset = record {
  clockwise = clockwise;
  start = record { x = s.x; z = s.z };
  end = record { x = x_target_wanted b s offset; z = z_target_wanted b s offset };
  centre = record { x = s.x +ℤ pos 2 *ℤ word_number b i_slot; z = s.z +ℤ word_number b k_slot };
}
