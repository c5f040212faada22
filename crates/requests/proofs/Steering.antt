-- The laws of what a block asks of the runner.
-- Assumes nothing.
use mathlib.Core.Path.{◌≡◌, refl, sym, ap, ◌∙◌}
use mathlib.Core.Logic.{⊎_elim}
use mathlib.Core.List.{[], ◌∷◌}
use Prim.Native.Nat.{ℕ}
use native.Mathlib.Omega.{arith}
use types.Run.{OneOf}
use denote.Enum.Declared.{tag_of}
use Rattle.codes.specs.declared.Code.{Code}
use Rattle.codes.specs.declared.Code.TheVariants as code
use Rattle.codes.specs.declared.Meaning.{Meaning}
use Rattle.codes.specs.declared.Meaning.TheVariants as means
use Rattle.codes.specs.declared.Steering.{Steering}
use Rattle.codes.specs.contracts.Meaning.{the_type}
use Rattle.requests.specs.declared.Request.{Request}
use Rattle.requests.specs.declared.Request.TheVariants.{On}
use Rattle.requests.specs.Request.{steered, flow_by}

-- ---- a code that was matched on
pub steers_is : {m : Meaning} {s t : Steering} → m ≡ means.Steers s → s ≡ t → m ≡ means.Steers t
steers_is e f = e ∙ ap means.Steers f

pub steered_by : {k l : Code} (label : ℕ) (other : Request) → k ≡ l → steered l label other ≡ steered k label other
steered_by label other e = ap (λ (k : Code). steered k label other) (sym e)

pub flow_by_lem : {k l : Code} → k ≡ l → flow_by l ≡ flow_by k
flow_by_lem e = ap flow_by (sym e)

-- ---- a number that neither calls nor jumps, and one that is none of M00, M17 and M30
pub no_steering : (g : ℕ) (m : Meaning) (l : ℕ) (other : Request) → OneOf (0 ∷ 1 ∷ 2 ∷ 3 ∷ 5 ∷ 6 ∷ 7 ∷ 8 ∷ []) (tag_of the_type m) → other ≡ steered (code.Of g m) l other
unfolding steered
no_steering g (means.Moves m) l other o = refl
no_steering g (means.CuttingSpeed t) l other o = refl
no_steering g (means.PerRevolution t) l other o = refl
no_steering g (means.Shift k) l other o = refl
no_steering g (means.Steers s) l other o = absurd (⊎_elim (λ e. omega arith) (⊎_elim (λ e. omega arith) (⊎_elim (λ e. omega arith) (⊎_elim (λ e. omega arith) (⊎_elim (λ e. omega arith) (⊎_elim (λ e. omega arith) (⊎_elim (λ e. omega arith) (λ e. omega arith))))))) o)
no_steering g means.Metric l other o = refl
no_steering g means.Spindle l other o = refl
no_steering g means.Coolant l other o = refl
no_steering g (means.Flows f) l other o = refl

pub no_flow : (g : ℕ) (m : Meaning) → OneOf (0 ∷ 1 ∷ 2 ∷ 3 ∷ 4 ∷ 5 ∷ 6 ∷ 7 ∷ []) (tag_of the_type m) → On ≡ flow_by (code.Of g m)
unfolding flow_by
no_flow g (means.Moves m) o = refl
no_flow g (means.CuttingSpeed t) o = refl
no_flow g (means.PerRevolution t) o = refl
no_flow g (means.Shift k) o = refl
no_flow g (means.Steers s) o = refl
no_flow g means.Metric o = refl
no_flow g means.Spindle o = refl
no_flow g means.Coolant o = refl
no_flow g (means.Flows f) o = absurd (⊎_elim (λ e. omega arith) (⊎_elim (λ e. omega arith) (⊎_elim (λ e. omega arith) (⊎_elim (λ e. omega arith) (⊎_elim (λ e. omega arith) (⊎_elim (λ e. omega arith) (⊎_elim (λ e. omega arith) (λ e. omega arith))))))) o)
