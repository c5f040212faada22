-- 01: "G25: L is 100 times the subroutine number plus the repeats; repeats 0 means once. Running a program runs its blocks, and a call block runs a program again. .. M17 returns. G27 goes
-- to the block numbered L of the same program." "M17 gives none. M30 ends the run."
use Rattle.std.specs.Prelude.{cond, ℕ, ◌/◌, ◌%◌, eqb}
use Rattle.block.specs.Slots.{flow_slot, l_slot, steering_slot, code_in, g_in, m_in}
use Rattle.codes.specs.declared.Code.{Code}
use Rattle.codes.specs.declared.Code.TheVariants as code
use Rattle.codes.specs.declared.Flow.TheVariants as flow
use Rattle.codes.specs.declared.Steering.TheVariants as steering
use Rattle.codes.specs.declared.Meaning.TheVariants as means
use Rattle.block.specs.declared.Block.{Block}
use Rattle.requests.specs.declared.Request.{Request}
use Rattle.requests.specs.declared.Request.TheVariants.{On, Call, Jump, Return, End}

-- "repeats 0 means once"
unfoldable pub times_of : ℕ → ℕ
times_of l = cond (eqb (l % 100) 0) 1 (l % 100)

-- "G25: L is 100 times the subroutine number plus the repeats", "G27 goes to the block numbered L"; else what the block's M word asks
unfoldable pub steered : Code → ℕ → Request → Request
steered (code.Of g (means.Moves m)) l other = other
steered (code.Of g (means.CuttingSpeed t)) l other = other
steered (code.Of g (means.PerRevolution t)) l other = other
steered (code.Of g (means.Shift k)) l other = other
steered (code.Of g (means.Steers steering.Call)) l other = Call (l / 100) (times_of l)
steered (code.Of g (means.Steers steering.Jump)) l other = Jump l
steered (code.Of g means.Metric) l other = other
steered (code.Of g means.Spindle) l other = other
steered (code.Of g means.Coolant) l other = other
steered (code.Of g (means.Flows f)) l other = other
steered code.Unknown l other = other

-- "M17 returns", "M30 ends the run"; after M00 the list goes on
unfoldable pub flow_by : Code → Request
flow_by (code.Of g (means.Moves m)) = On
flow_by (code.Of g (means.CuttingSpeed t)) = On
flow_by (code.Of g (means.PerRevolution t)) = On
flow_by (code.Of g (means.Shift k)) = On
flow_by (code.Of g (means.Steers s)) = On
flow_by (code.Of g means.Metric) = On
flow_by (code.Of g means.Spindle) = On
flow_by (code.Of g means.Coolant) = On
flow_by (code.Of g (means.Flows flow.Stop)) = On
flow_by (code.Of g (means.Flows flow.Return)) = Return
flow_by (code.Of g (means.Flows flow.End)) = End
flow_by code.Unknown = On

-- what a block asks of the runner: its word of group 6 of G, else its word of group 2 of M
unfoldable pub request_of : Block → Request
request_of b = steered (g_in b steering_slot) (code_in b l_slot) (flow_by (m_in b flow_slot))
