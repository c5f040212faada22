-- 01, "Running a block": "0 is 00 01 33 (kept) and 04 84 86 (that block only; the kept one stays)". What a number says of one thing, else what was before: the motion, the shift of a
-- group, whether S is a cutting speed (G96), whether F is per revolution (G95); and whether an M number ends the run or returns.
use Rattle.std.specs.Prelude.{Bool, true, false, ℕ}
use Rattle.codes.specs.declared.Code.{Code}
use Rattle.codes.specs.declared.Code.TheVariants as code
use Rattle.codes.specs.declared.Meaning.TheVariants as means
use Rattle.codes.specs.declared.Motion.TheVariants as motion
use Rattle.codes.specs.declared.Flow.TheVariants as flow
use Rattle.acts.specs.declared.Kept.{Kept}
use Rattle.acts.specs.declared.Kept.TheVariants.{Nothing, Of}

-- "00 01 33 (kept) and 04 84 86 (that block only; the kept one stays)"; G85, G87 and G88 go with G84 and G86; 02: "G02 and G03 are kept"
unfoldable pub keep : Kept → Kept → Kept
keep Nothing before = before
keep (Of motion.Rapid) before = Of motion.Rapid
keep (Of motion.Feed) before = Of motion.Feed
keep (Of motion.Clockwise) before = Of motion.Clockwise
keep (Of motion.Counterclockwise) before = Of motion.Counterclockwise
keep (Of motion.Thread) before = Of motion.Thread
keep (Of motion.Dwell) before = before
keep (Of motion.Turning) before = before
keep (Of motion.Threading) before = before
keep (Of motion.Grooving) before = before
keep (Of motion.ChipBreaking) before = before
keep (Of motion.Redrawing) before = before

-- the motion that a number says, else the one before
unfoldable pub motion_by : Code → Kept → Kept
motion_by (code.Of g (means.Moves m)) before = Of m
motion_by (code.Of g (means.CuttingSpeed t)) before = before
motion_by (code.Of g (means.PerRevolution t)) before = before
motion_by (code.Of g (means.Shift k)) before = before
motion_by (code.Of g (means.Steers s)) before = before
motion_by (code.Of g means.Metric) before = before
motion_by (code.Of g means.Spindle) before = before
motion_by (code.Of g means.Coolant) before = before
motion_by (code.Of g (means.Flows f)) before = before
motion_by code.Unknown before = before

-- the shift that it calls
unfoldable pub shift_by : Code → ℕ → ℕ
shift_by (code.Of g (means.Moves m)) before = before
shift_by (code.Of g (means.CuttingSpeed t)) before = before
shift_by (code.Of g (means.PerRevolution t)) before = before
shift_by (code.Of g (means.Shift k)) before = k
shift_by (code.Of g (means.Steers s)) before = before
shift_by (code.Of g means.Metric) before = before
shift_by (code.Of g means.Spindle) before = before
shift_by (code.Of g means.Coolant) before = before
shift_by (code.Of g (means.Flows f)) before = before
shift_by code.Unknown before = before

-- whether S is a cutting speed
unfoldable pub cutting_by : Code → Bool → Bool
cutting_by (code.Of g (means.Moves m)) before = before
cutting_by (code.Of g (means.CuttingSpeed t)) before = t
cutting_by (code.Of g (means.PerRevolution t)) before = before
cutting_by (code.Of g (means.Shift k)) before = before
cutting_by (code.Of g (means.Steers s)) before = before
cutting_by (code.Of g means.Metric) before = before
cutting_by (code.Of g means.Spindle) before = before
cutting_by (code.Of g means.Coolant) before = before
cutting_by (code.Of g (means.Flows f)) before = before
cutting_by code.Unknown before = before

-- whether F is per revolution
unfoldable pub revolution_by : Code → Bool → Bool
revolution_by (code.Of g (means.Moves m)) before = before
revolution_by (code.Of g (means.CuttingSpeed t)) before = before
revolution_by (code.Of g (means.PerRevolution t)) before = t
revolution_by (code.Of g (means.Shift k)) before = before
revolution_by (code.Of g (means.Steers s)) before = before
revolution_by (code.Of g means.Metric) before = before
revolution_by (code.Of g means.Spindle) before = before
revolution_by (code.Of g means.Coolant) before = before
revolution_by (code.Of g (means.Flows f)) before = before
revolution_by code.Unknown before = before

-- M30
unfoldable pub ends_by : Code → Bool
ends_by (code.Of g (means.Moves m)) = false
ends_by (code.Of g (means.CuttingSpeed t)) = false
ends_by (code.Of g (means.PerRevolution t)) = false
ends_by (code.Of g (means.Shift k)) = false
ends_by (code.Of g (means.Steers s)) = false
ends_by (code.Of g means.Metric) = false
ends_by (code.Of g means.Spindle) = false
ends_by (code.Of g means.Coolant) = false
ends_by (code.Of g (means.Flows flow.Stop)) = false
ends_by (code.Of g (means.Flows flow.Return)) = false
ends_by (code.Of g (means.Flows flow.End)) = true
ends_by code.Unknown = false

-- M17
unfoldable pub returns_by : Code → Bool
returns_by (code.Of g (means.Moves m)) = false
returns_by (code.Of g (means.CuttingSpeed t)) = false
returns_by (code.Of g (means.PerRevolution t)) = false
returns_by (code.Of g (means.Shift k)) = false
returns_by (code.Of g (means.Steers s)) = false
returns_by (code.Of g means.Metric) = false
returns_by (code.Of g means.Spindle) = false
returns_by (code.Of g means.Coolant) = false
returns_by (code.Of g (means.Flows flow.Stop)) = false
returns_by (code.Of g (means.Flows flow.Return)) = true
returns_by (code.Of g (means.Flows flow.End)) = false
returns_by code.Unknown = false
