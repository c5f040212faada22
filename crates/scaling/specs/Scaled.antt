-- THE NUMBERS OF A CYCLE, from its block's words. 01: "G84 (001: X or U before Z or W is longitudinal, else facing; the order is
-- that of the words that apply). .. E is the infeed less D0; the end line is the Z target moved back toward the start by D2. .. d = 2 x D3 (D3 is per side). .. Facing: exchange the axes, E
-- from Z less D2, end line from X and D0, d = D3. .. Missing D0 and D2 are 0." 02, in the place of "D0 is counted on the diameter": "D0 is per side, as U and D3 are. In document 01 the X
-- allowance is 2 x D0, longitudinal and facing." G86: "alongside (X before Z)", "divides its X depth with 2 x D3", "a rapid back by twice the retract", "Facing: exchange axes, .. tool width
-- 2 x D5, overlap 200, depth piece D3, single retract."
-- 02, G85: "(word order as G84) .. D6 is the depth per side, F the pitch. D7 counts as bits .. missing is 0. .. Empty cuts repeat the last pass D4 times, else as a new setting says".
-- 02, G87 and G88: "Z or W is the target; the first bite is D3, each next one the former x (100 - D5) / 100 .. not under D6 .. missing D5 and D6 are 0. G87 draws back by the retract .. D4 dwells at the target".
use Rattle.std.specs.Prelude.{Bool, true, false, cond, ℕ, ◌+◌, ◌*◌, ltb, get_or}
use Rattle.block.specs.Slots.{has, x_slot, z_slot, d_slot, code_in}
use Rattle.block.specs.declared.Block.{Block}
use Rattle.axes.specs.declared.Axis.{Axis}
use Rattle.grooving.specs.declared.Groove.{Groove}
use Rattle.grooving.specs.declared.Way.{Way}
use Rattle.drilling.specs.declared.Bore.{Bore}
use Rattle.turning.specs.declared.Turning.{Turning}
use Rattle.threading.specs.Bits.{is_nominal, rule_of}
use Rattle.threading.specs.declared.Thread.{Thread}
use Rattle.scaling.specs.declared.Sending.{Sending}

-- where the word of an axis stands: that of X or U, and that of Z or W; a block has one of each at most, and the place of the other is 0
abbrev pub place_on : Block → ℕ → ℕ
place_on b k = get_or b.place k 0 + get_or b.place (k + 2) 0

-- "X or U before Z or W is longitudinal, else facing"
unfoldable pub is_facing : Block → Bool
is_facing b = ltb (place_on b z_slot) (place_on b x_slot)

-- the D word of an index; "Missing D0 and D2 are 0"
abbrev pub d_word : Block → ℕ → ℕ
d_word b i = code_in b (d_slot i)

-- the axes of a turning cycle; 02: "the X allowance is 2 x D0, longitudinal and facing"
abbrev pub x_axis : Block → Sending → Axis
x_axis b s = record { start = s.x; target = s.x_target; allowance = 2 * d_word b 0 }

abbrev pub z_axis : Block → Sending → Axis
z_axis b s = record { start = s.z; target = s.z_target; allowance = d_word b 2 }

-- the cycle, of its axes and D3: "d = 2 x D3 (D3 is per side)"; "Facing: exchange the axes, .. d = D3"
abbrev pub turning_by : Sending → Bool → Axis → Axis → ℕ → Turning
turning_by s facing x z d3 =
    cond facing
    (record { facing = true; infeed = z; path = x; division = d3; f = s.f; g95 = s.g95 })
    (record { facing = false; infeed = x; path = z; division = 2 * d3; f = s.f; g95 = s.g95 })

unfoldable pub turning_of : Block → Sending → Turning
turning_of b s = turning_by s (is_facing b) (x_axis b s) (z_axis b s) (d_word b 3)

-- the axes of a thread, which leaves no allowance
abbrev pub x_bare : Sending → Axis
x_bare s = record { start = s.x; target = s.x_target; allowance = 0 }

abbrev pub z_bare : Sending → Axis
z_bare s = record { start = s.z; target = s.z_target; allowance = 0 }

-- the empty cuts: D4, and where there is none, the setting
unfoldable pub empty_cuts : Block → ℕ → ℕ
empty_cuts b setting = cond (has b (d_slot 4)) (d_word b 4) setting

unfoldable pub thread_of : Block → Sending → Thread
thread_of b s = record {
  facing = is_facing b;
  infeed = cond (is_facing b) (z_bare s) (x_bare s);
  path = cond (is_facing b) (x_bare s) (z_bare s);
  rule = rule_of (d_word b 7);
  nominal = is_nominal (d_word b 7);
  d3 = d_word b 3;
  d6 = d_word b 6;
  empty = empty_cuts b s.empty_cuts;
  pitch = s.f;
}

-- the ways of a groove
abbrev pub x_way : Sending → Way
x_way s = record { start = s.x; target = s.x_target }

abbrev pub z_way : Sending → Way
z_way s = record { start = s.z; target = s.z_target }

-- "overlap at least 1/10 mm"
abbrev pub overlap : ℕ
overlap = 100

unfoldable pub groove_of : Block → Sending → Groove
groove_of b s =
    cond (is_facing b)
    (record { facing = true; depth = z_way s; width = x_way s; tool = 2 * d_word b 5; overlap = 2 * overlap; piece = d_word b 3; back = s.retract; dwell = d_word b 4; f = s.f; g95 = s.g95 })
    (record { facing = false; depth = x_way s; width = z_way s; tool = d_word b 5; overlap = overlap; piece = 2 * d_word b 3; back = 2 * s.retract; dwell = d_word b 4; f = s.f; g95 = s.g95 })

-- G87, and G88 where `full`; it goes in along Z where the tool stands on X, and the retract counts once
unfoldable pub bore_of : Bool → Block → Sending → Bore
bore_of full b s = record {
  full = full;
  x = s.x;
  start = s.z;
  target = s.z_target;
  first = d_word b 3;
  less = d_word b 5;
  least = d_word b 6;
  dwell = d_word b 4;
  back = s.retract;
  f = s.f;
  g95 = s.g95;
}
