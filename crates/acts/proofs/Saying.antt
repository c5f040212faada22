-- Laws of what a number says of one thing: a number that says nothing of it.
-- Assumes nothing.
use mathlib.Core.Path.{◌≡◌, refl, sym, ap, ◌∙◌}
use mathlib.Core.Bool.{Bool, false}
use mathlib.Core.Logic.{⊎_elim}
use mathlib.Core.List.{[], ◌∷◌}
use Prim.Native.Nat.{ℕ}
use native.Mathlib.Omega.{arith}
use types.Run.{OneOf}
use denote.Enum.Declared.{tag_of}
use Rattle.codes.specs.declared.Code.TheVariants as code
use Rattle.codes.specs.declared.Flow.{Flow}
use Rattle.codes.specs.declared.Flow.TheVariants as flow
use Rattle.codes.specs.declared.Meaning.{Meaning}
use Rattle.codes.specs.declared.Meaning.TheVariants as means
use Rattle.codes.specs.declared.Motion.{Motion}
use Rattle.acts.specs.declared.Kept.{Kept}
use Rattle.acts.specs.declared.Kept.TheVariants.{Of}
use Rattle.acts.specs.Acting.{keep, motion_by, shift_by, cutting_by, revolution_by, ends_by, returns_by}
use Rattle.codes.specs.contracts.Meaning.{the_type}

pub no_motion_lem : (g : ℕ) (m : Meaning) (before : Kept) → OneOf (1 ∷ 2 ∷ 3 ∷ 4 ∷ 5 ∷ 6 ∷ 7 ∷ 8 ∷ []) (tag_of the_type m) → before ≡ motion_by (code.Of g m) before
unfolding motion_by
no_motion_lem g (means.Moves m) before o = absurd (⊎_elim (λ e. omega arith) (⊎_elim (λ e. omega arith) (⊎_elim (λ e. omega arith) (⊎_elim (λ e. omega arith) (⊎_elim (λ e. omega arith) (⊎_elim (λ e. omega arith) (⊎_elim (λ e. omega arith) (λ e. omega arith))))))) o)
no_motion_lem g (means.CuttingSpeed t) before o = refl
no_motion_lem g (means.PerRevolution t) before o = refl
no_motion_lem g (means.Shift k) before o = refl
no_motion_lem g (means.Steers s) before o = refl
no_motion_lem g means.Metric before o = refl
no_motion_lem g means.Spindle before o = refl
no_motion_lem g means.Coolant before o = refl
no_motion_lem g (means.Flows f) before o = refl

pub no_shift : (g : ℕ) (m : Meaning) (before : ℕ) → OneOf (0 ∷ 1 ∷ 2 ∷ 4 ∷ 5 ∷ 6 ∷ 7 ∷ 8 ∷ []) (tag_of the_type m) → before ≡ shift_by (code.Of g m) before
unfolding shift_by
no_shift g (means.Moves m) before o = refl
no_shift g (means.CuttingSpeed t) before o = refl
no_shift g (means.PerRevolution t) before o = refl
no_shift g (means.Shift k) before o = absurd (⊎_elim (λ e. omega arith) (⊎_elim (λ e. omega arith) (⊎_elim (λ e. omega arith) (⊎_elim (λ e. omega arith) (⊎_elim (λ e. omega arith) (⊎_elim (λ e. omega arith) (⊎_elim (λ e. omega arith) (λ e. omega arith))))))) o)
no_shift g (means.Steers s) before o = refl
no_shift g means.Metric before o = refl
no_shift g means.Spindle before o = refl
no_shift g means.Coolant before o = refl
no_shift g (means.Flows f) before o = refl

pub no_cutting : (g : ℕ) (m : Meaning) (before : Bool) → OneOf (0 ∷ 2 ∷ 3 ∷ 4 ∷ 5 ∷ 6 ∷ 7 ∷ 8 ∷ []) (tag_of the_type m) → before ≡ cutting_by (code.Of g m) before
unfolding cutting_by
no_cutting g (means.Moves m) before o = refl
no_cutting g (means.CuttingSpeed t) before o = absurd (⊎_elim (λ e. omega arith) (⊎_elim (λ e. omega arith) (⊎_elim (λ e. omega arith) (⊎_elim (λ e. omega arith) (⊎_elim (λ e. omega arith) (⊎_elim (λ e. omega arith) (⊎_elim (λ e. omega arith) (λ e. omega arith))))))) o)
no_cutting g (means.PerRevolution t) before o = refl
no_cutting g (means.Shift k) before o = refl
no_cutting g (means.Steers s) before o = refl
no_cutting g means.Metric before o = refl
no_cutting g means.Spindle before o = refl
no_cutting g means.Coolant before o = refl
no_cutting g (means.Flows f) before o = refl

pub no_revolution : (g : ℕ) (m : Meaning) (before : Bool) → OneOf (0 ∷ 1 ∷ 3 ∷ 4 ∷ 5 ∷ 6 ∷ 7 ∷ 8 ∷ []) (tag_of the_type m) → before ≡ revolution_by (code.Of g m) before
unfolding revolution_by
no_revolution g (means.Moves m) before o = refl
no_revolution g (means.CuttingSpeed t) before o = refl
no_revolution g (means.PerRevolution t) before o = absurd (⊎_elim (λ e. omega arith) (⊎_elim (λ e. omega arith) (⊎_elim (λ e. omega arith) (⊎_elim (λ e. omega arith) (⊎_elim (λ e. omega arith) (⊎_elim (λ e. omega arith) (⊎_elim (λ e. omega arith) (λ e. omega arith))))))) o)
no_revolution g (means.Shift k) before o = refl
no_revolution g (means.Steers s) before o = refl
no_revolution g means.Metric before o = refl
no_revolution g means.Spindle before o = refl
no_revolution g means.Coolant before o = refl
no_revolution g (means.Flows f) before o = refl

pub no_end : (g : ℕ) (m : Meaning) → OneOf (0 ∷ 1 ∷ 2 ∷ 3 ∷ 4 ∷ 5 ∷ 6 ∷ 7 ∷ []) (tag_of the_type m) → false ≡ ends_by (code.Of g m)
unfolding ends_by
no_end g (means.Moves m) o = refl
no_end g (means.CuttingSpeed t) o = refl
no_end g (means.PerRevolution t) o = refl
no_end g (means.Shift k) o = refl
no_end g (means.Steers s) o = refl
no_end g means.Metric o = refl
no_end g means.Spindle o = refl
no_end g means.Coolant o = refl
no_end g (means.Flows f) o = absurd (⊎_elim (λ e. omega arith) (⊎_elim (λ e. omega arith) (⊎_elim (λ e. omega arith) (⊎_elim (λ e. omega arith) (⊎_elim (λ e. omega arith) (⊎_elim (λ e. omega arith) (⊎_elim (λ e. omega arith) (λ e. omega arith))))))) o)

pub no_return : (g : ℕ) (m : Meaning) → OneOf (0 ∷ 1 ∷ 2 ∷ 3 ∷ 4 ∷ 5 ∷ 6 ∷ 7 ∷ []) (tag_of the_type m) → false ≡ returns_by (code.Of g m)
unfolding returns_by
no_return g (means.Moves m) o = refl
no_return g (means.CuttingSpeed t) o = refl
no_return g (means.PerRevolution t) o = refl
no_return g (means.Shift k) o = refl
no_return g (means.Steers s) o = refl
no_return g means.Metric o = refl
no_return g means.Spindle o = refl
no_return g means.Coolant o = refl
no_return g (means.Flows f) o = absurd (⊎_elim (λ e. omega arith) (⊎_elim (λ e. omega arith) (⊎_elim (λ e. omega arith) (⊎_elim (λ e. omega arith) (⊎_elim (λ e. omega arith) (⊎_elim (λ e. omega arith) (⊎_elim (λ e. omega arith) (λ e. omega arith))))))) o)

-- ---- a motion and a flow that were matched on
pub kept_is : {k : Kept} {m n : Motion} → k ≡ Of m → m ≡ n → k ≡ Of n
kept_is e f = e ∙ ap Of f

pub keep_by : {k l : Kept} (before : Kept) → k ≡ l → keep l before ≡ keep k before
keep_by before e = ap (λ (k : Kept). keep k before) (sym e)

pub flows_is : {m : Meaning} {f g : Flow} → m ≡ means.Flows f → f ≡ g → m ≡ means.Flows g
flows_is e f = e ∙ ap means.Flows f
