-- 01, "G86 alongside (X before Z)": "the measured edge is the right one (001), so Z target must lie below Z start; X may go either way, not zero. Width w = Z distance. w
-- below D5: alarm. w = D5: one plunge. Else D5 must exceed 100, and w - D5 is divided with greatest piece D5 - 100 (001: overlap at least 1/10 mm, equal widths); plunges
-- stand at the start and after each piece. A plunge divides its X depth with 2 x D3 (one cut if none or 0); each cut is a feed, and between cuts a rapid back by twice the
-- retract, not past the start. Then dwell if D4 is above 0, rapid to start X, rapid to the next Z. After more than one plunge, rapid to start Z at the end. Facing: exchange
-- axes, X target below X start, tool width 2 x D5, overlap 200, depth piece D3, single retract."
use Rattle.std.specs.Prelude.{Bool, cond, ◌&&◌, ◌||◌, List, [], ◌∷◌, ◌++◌, ℕ, ◌+◌, ◌-◌, ◌*◌, leb, ltb, eqb, ℤ, ◌+ℤ◌, ◌-ℤ◌, nat_abs}
use Rattle.std.specs.Int.Signed.{le_z}
use Rattle.whole.specs.declared.Side.{Side}
use Rattle.whole.specs.declared.Side.TheVariants.{Minus}
use Rattle.whole.specs.Signed.{side_of, along}
use Rattle.division.specs.Division.{count, pieces}
use Rattle.moves.specs.declared.Record.{Record}
use Rattle.axes.specs.Goes.{rapid_to, feed_to, dwell_at}
use Rattle.grooving.specs.declared.Way.{Way}
use Rattle.grooving.specs.declared.Groove.{Groove}

-- A GROOVE { facing, depth, width, tool, overlap, piece, back, dwell, f, g95 } plunges along `depth` and goes on along `width`. Alongside these are X and Z, facing Z and X;
-- tool and overlap are counted on the width axis, piece and back on the depth axis.
abbrev pub length_of : Way → ℕ
length_of w = nat_abs (w.target -ℤ w.start)

abbrev pub way_of : Way → Side
way_of w = side_of (w.target -ℤ w.start)

-- alarm 19: the width's target is not below its start; no depth; "w below D5"; and, where w is not D5, a tool that does not exceed the overlap
unfoldable pub wrong : Groove → Bool
wrong g =
    (le_z g.width.start g.width.target || eqb (length_of g.depth) 0)
    || (ltb (length_of g.width) g.tool || (ltb g.tool (length_of g.width) && leb g.tool g.overlap))

-- ---- across the width
-- "w - D5"
abbrev pub rest : Groove → ℕ
rest g = length_of g.width - g.tool

-- "w = D5: one plunge. Else .. w - D5 is divided with greatest piece D5 - 100": the steps from a plunge to the next
unfoldable pub step_count : Groove → ℕ
step_count g = cond (eqb (rest g) 0) 0 (count (rest g) (g.tool - g.overlap))

unfoldable pub steps : Groove → List ℕ
steps g = cond (eqb (rest g) 0) [] (pieces (rest g) (step_count g))

-- where the last plunge stands
abbrev pub last_width : Groove → ℤ
last_width g = g.width.start +ℤ along Minus (rest g)

-- ---- into the depth
-- "A plunge divides its X depth with 2 x D3 (one cut if none or 0)"
unfoldable pub cut_count : Groove → ℕ
cut_count g = cond (eqb g.piece 0) 1 (count (length_of g.depth) g.piece)

abbrev pub cuts : Groove → List ℕ
cuts g = pieces (length_of g.depth) (cut_count g)

-- two records of a groove at the width place w: a feed to the depth place d, and a rapid there
abbrev pub cut_to : Groove → ℤ → ℤ → Record
cut_to g w d = feed_to g.facing g.f g.g95 d w

abbrev pub out_to : Groove → ℤ → ℤ → Record
out_to g w d = rapid_to g.facing d w

-- the place at depth t, from the start toward the target
abbrev pub deep_at : Groove → ℕ → ℤ
deep_at g t = g.depth.start +ℤ along (way_of g.depth) t

-- the cuts of a row, from the depth t on: "each cut is a feed, and between cuts a rapid back by twice the retract, not past the start"
unfoldable pub cutting : Groove → ℤ → ℕ → List ℕ → List Record
cutting g w t [] = []
cutting g w t (d ∷ []) = cut_to g w (deep_at g (t + d)) ∷ []
cutting g w t (d ∷ (e ∷ ds)) = cut_to g w (deep_at g (t + d)) ∷ out_to g w (deep_at g ((t + d) - g.back)) ∷ cutting g w (t + d) (e ∷ ds)

-- "Then dwell if D4 is above 0"
unfoldable pub dwelling : Groove → ℤ → List Record
dwelling g w = cond (eqb g.dwell 0) [] (dwell_at g.facing g.dwell g.depth.target w ∷ [])

-- a plunge at the width place w: its cuts, the dwell, "rapid to start X"
unfoldable pub plunge : Groove → ℤ → List Record
plunge g w = cutting g w 0 (cuts g) ++ (dwelling g w ++ (out_to g w g.depth.start ∷ []))

-- plunges behind steps, each with "rapid to the next Z" before it; at the end "rapid to start Z"
unfoldable pub plunges : Groove → ℤ → List ℕ → List Record
plunges g w [] = out_to g g.width.start g.depth.start ∷ []
plunges g w (s ∷ ss) = out_to g (w +ℤ along Minus s) g.depth.start ∷ (plunge g (w +ℤ along Minus s) ++ plunges g (w +ℤ along Minus s) ss)

-- "After more than one plunge"
abbrev pub after_first : Groove → List ℕ → List Record
after_first g [] = []
after_first g (s ∷ ss) = plunges g g.width.start (s ∷ ss)

-- the records of a groove
unfoldable pub grooving : Groove → List Record
grooving g = plunge g g.width.start ++ after_first g (steps g)

-- how many records a plunge has: its cuts, one rapid less between them, the dwell, the rapid out
unfoldable pub plunge_count : Groove → ℕ
plunge_count g = 2 * cut_count g + cond (eqb g.dwell 0) 0 1

-- how many they are in all; where there is more than one plunge, a rapid to each next one and one back to the start
unfoldable pub record_count : Groove → ℕ
record_count g = cond (eqb (step_count g) 0) (plunge_count g) (plunge_count g + (step_count g * (plunge_count g + 1) + 1))
