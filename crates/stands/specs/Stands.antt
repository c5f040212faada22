-- 01, the word rules that a motion makes: "no G04 with G25 or G27; .. G04 takes no path word; D4 stands with G04 (missing: a dwell of 0); D0 D2 D3 with G84; D3 D4 D5 with G86; no other P
-- or D. G84 and G86 need one word of each axis, G86 also D5." 02, of G85: "D words but D3 D4 D6 D7, an axis missing or D7 above 7 in 9"; of G87 and G88: "X or U, no Z or W, or D words but D3 to D6 in 9"; of arcs: "I or K beside another group 0 word in 9". A row for each motion; "what a G or M asks or forbids holds only where that word applies".
use Rattle.std.specs.Prelude.{Bool, true, false, ◌||◌, List, [], ◌∷◌, ℕ, eqb, get_or}
use Rattle.codes.specs.declared.Code.{Code}
use Rattle.codes.specs.declared.Code.TheVariants as code
use Rattle.codes.specs.declared.Meaning.TheVariants as means
use Rattle.codes.specs.declared.Motion.{Motion}
use Rattle.codes.specs.declared.Motion.TheVariants as motion
use Rattle.stands.specs.declared.Stands.{Stands}
use Rattle.stands.specs.declared.Path.TheVariants as path

-- no index of a D word: those are 0 to 9
abbrev pub none : ℕ
none = 10

-- the greatest D word that counts as bits
abbrev pub greatest_bits : ℕ
greatest_bits = 7

unfoldable pub stands_freely : Stands
stands_freely = record { takes = none ∷ none ∷ none ∷ none ∷ []; needs = none; bits = none; path = path.Any; centre = true; calls = true }

-- G00, G01 and G33 take no D word, and no I or K
abbrev pub straight_with : Stands
straight_with = record { takes = none ∷ none ∷ none ∷ none ∷ []; needs = none; bits = none; path = path.Any; centre = false; calls = true }

-- G84, G85 and G86 "need one word of each axis": the D words that they take, the one that is needed, the one that counts as bits
abbrev pub cuts_with : List ℕ → ℕ → ℕ → Stands
cuts_with takes needs bits = record { takes = takes; needs = needs; bits = bits; path = path.EachAxis; centre = false; calls = true }

-- 02, of G87 and G88 alike: "X or U, no Z or W, or D words but D3 to D6 in 9"
abbrev pub drills_with : Stands
drills_with = record { takes = 3 ∷ 4 ∷ 5 ∷ 6 ∷ []; needs = none; bits = none; path = path.ZAlone; centre = false; calls = true }

-- the D words that it takes, the one that it needs, the one that counts as bits, its path words, whether I and K may stand with it, and whether it may stand with G25 or G27. That the cycles do not is said by their path words
unfoldable pub stands_with : Motion → Stands
stands_with motion.Rapid = straight_with
stands_with motion.Feed = straight_with
stands_with motion.Clockwise = stands_freely
stands_with motion.Counterclockwise = stands_freely
stands_with motion.Thread = straight_with
stands_with motion.Dwell = record { takes = 4 ∷ none ∷ none ∷ none ∷ []; needs = none; bits = none; path = path.Forbidden; centre = false; calls = false }
stands_with motion.Turning = cuts_with (0 ∷ 2 ∷ 3 ∷ none ∷ []) none none
stands_with motion.Threading = cuts_with (3 ∷ 4 ∷ 6 ∷ 7 ∷ []) none 7
stands_with motion.Grooving = cuts_with (3 ∷ 4 ∷ 5 ∷ none ∷ []) 5 none
stands_with motion.ChipBreaking = drills_with
stands_with motion.Redrawing = drills_with

-- of a G number; where no word of group 0 applies nothing is asked
unfoldable pub stands_by : Code → Stands
stands_by (code.Of g (means.Moves m)) = stands_with m
stands_by (code.Of g (means.CuttingSpeed t)) = stands_freely
stands_by (code.Of g (means.PerRevolution t)) = stands_freely
stands_by (code.Of g (means.Shift k)) = stands_freely
stands_by (code.Of g (means.Steers s)) = stands_freely
stands_by (code.Of g means.Metric) = stands_freely
stands_by (code.Of g means.Spindle) = stands_freely
stands_by (code.Of g means.Coolant) = stands_freely
stands_by (code.Of g (means.Flows f)) = stands_freely
stands_by code.Unknown = stands_freely

-- the D word of an index is one of those that are taken, four at most
unfoldable pub is_taken : List ℕ → ℕ → Bool
is_taken takes i = eqb (get_or takes 0 0) i || (eqb (get_or takes 1 0) i || (eqb (get_or takes 2 0) i || eqb (get_or takes 3 0) i))
