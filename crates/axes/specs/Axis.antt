-- One axis of a cycle. 01, "G84": "the infeed is the X distance from start to target, and E is the infeed less D0; the end line is the Z target moved back toward
-- the start by D2." "Facing: exchange the axes". An axis comes with its allowance: D2 on Z, and on X, by 02, 2 x D0.
use Rattle.std.specs.Prelude.{ℕ, ◌-◌, ℤ, ◌-ℤ◌, nat_abs}
use Rattle.whole.specs.declared.Side.{Side}
use Rattle.whole.specs.Signed.{side_of, along}
use Rattle.axes.specs.declared.Axis.{Axis}

-- the distance from start to target, and the side on which the target lies
abbrev pub distance : Axis → ℕ
distance a = nat_abs (a.target -ℤ a.start)

abbrev pub side : Axis → Side
side a = side_of (a.target -ℤ a.start)

-- the distance less the allowance, 0 where that is as long or longer
abbrev pub net : Axis → ℕ
net a = distance a - a.allowance

-- the target moved back toward the start by the allowance
abbrev pub allowance_line : Axis → ℤ
allowance_line a = a.target -ℤ along (side a) a.allowance
