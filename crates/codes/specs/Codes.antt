-- 01: "G groups (001): 0 is 00 01 33 (kept) and 04 84 86 (that block only; the kept one stays); 1 is 96 97; 2 is 94 95; 3 is 53 54 55; 5 is 56 to 59; 6 is
-- 25 27; 7 is 71. M groups: 0 is 03 04 05; 3 is 08 09; 2 is 00 17 30." 02: "Threads, G85" and "Drilling, G87 and G88", of group 0 and for their block only; "G02 and G03 are kept". "G54 and G55 call shifts 1 and 2, G57 to G59 shifts 3 to 5 (001); G53 and G56 cancel."
use Rattle.std.specs.Prelude.{cond, ◌&&◌, List, [], ◌∷◌, ℕ, ◌+◌, ◌-◌, leb, eqb}
use Rattle.codes.specs.declared.Code.{Code}
use Rattle.codes.specs.declared.Code.TheVariants.{Of, Unknown}
use Rattle.codes.specs.declared.Meaning.{Meaning}
use Rattle.codes.specs.declared.Meaning.TheVariants as means
use Rattle.codes.specs.declared.Motion.TheVariants as motion
use Rattle.codes.specs.declared.Steering.TheVariants as steering
use Rattle.codes.specs.declared.Flow.TheVariants as flow

-- the numbers from low to high are of a group, with a meaning
pub record Row : Type 0 where
  pub low : ℕ
  pub high : ℕ
  pub group : ℕ
  pub meaning : ℕ → Meaning

abbrev pub one : ℕ → ℕ → Meaning → Row
one n g m = record { low = n; high = n; group = g; meaning = λ _. m }

abbrev pub range : ℕ → ℕ → ℕ → (ℕ → Meaning) → Row
range l h g m = record { low = l; high = h; group = g; meaning = m }

-- the first row that holds a number
abbrev pub look : List Row → ℕ → Code
look [] n = Unknown
look (r ∷ rs) n = cond (leb r.low n && leb n r.high) (Of r.group (r.meaning n)) (look rs n)

-- the numbers of the arcs and of the cycles of which a promise speaks
abbrev pub clockwise_number : ℕ
clockwise_number = 2

abbrev pub counterclockwise_number : ℕ
counterclockwise_number = 3

abbrev pub turning_number : ℕ
turning_number = 84

abbrev pub threading_number : ℕ
threading_number = 85

abbrev pub grooving_number : ℕ
grooving_number = 86

abbrev pub chip_breaking_number : ℕ
chip_breaking_number = 87

abbrev pub redrawing_number : ℕ
redrawing_number = 88

abbrev pub g_rows : List Row
g_rows =
    one 0 0 (means.Moves motion.Rapid)
    ∷ one 1 0 (means.Moves motion.Feed)
    ∷ one clockwise_number 0 (means.Moves motion.Clockwise)
    ∷ one counterclockwise_number 0 (means.Moves motion.Counterclockwise)
    ∷ one 33 0 (means.Moves motion.Thread)
    ∷ one 4 0 (means.Moves motion.Dwell)
    ∷ one turning_number 0 (means.Moves motion.Turning)
    ∷ one threading_number 0 (means.Moves motion.Threading)
    ∷ one grooving_number 0 (means.Moves motion.Grooving)
    ∷ one chip_breaking_number 0 (means.Moves motion.ChipBreaking)
    ∷ one redrawing_number 0 (means.Moves motion.Redrawing)
    ∷ range 96 97 1 (λ n. means.CuttingSpeed (eqb n 96))
    ∷ range 94 95 2 (λ n. means.PerRevolution (eqb n 95))
    ∷ one 53 3 (means.Shift 0)
    ∷ range 54 55 3 (λ n. means.Shift (1 + (n - 54)))
    ∷ one 56 5 (means.Shift 0)
    ∷ range 57 59 5 (λ n. means.Shift (3 + (n - 57)))
    ∷ one 25 6 (means.Steers steering.Call)
    ∷ one 27 6 (means.Steers steering.Jump)
    ∷ one 71 7 means.Metric
    ∷ []

abbrev pub m_rows : List Row
m_rows =
    range 3 5 0 (λ _. means.Spindle)
    ∷ range 8 9 3 (λ _. means.Coolant)
    ∷ one 0 2 (means.Flows flow.Stop)
    ∷ one 17 2 (means.Flows flow.Return)
    ∷ one 30 2 (means.Flows flow.End)
    ∷ []

-- the group and the meaning of a G number and of an M number
unfoldable pub g_code : ℕ → Code
g_code n = look g_rows n

unfoldable pub m_code : ℕ → Code
m_code n = look m_rows n
