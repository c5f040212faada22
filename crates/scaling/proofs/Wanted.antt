-- What a G84 block does is what demand 3 reads off its words, and what a G85 block does is what the promise of threads reads off them.
-- Assumes nothing.
use mathlib.Core.Path.{◌≡◌, refl}
use Prim.Native.Nat.{ℕ}
use Rattle.block.specs.Slots.{code_in}
use Rattle.block.specs.declared.Block.{Block}
use Rattle.targets.specs.Target.{target_x, target_z}
use Rattle.state.specs.declared.State.{State}
use Rattle.targets.specs.declared.Pair.{Pair}
use Rattle.scaling.specs.declared.Sending.{Sending}
use Rattle.scaling.specs.Scaled.{is_facing, turning_of, empty_cuts, thread_of}
use Rattle.scaling.specs.Wanted.{wanted, thread_wanted}

-- the sending of a block in the state s with that offset
abbrev pub sent : Block → State → Pair → ℕ → ℕ → Sending
sent b s o retract setting =
    record { x = s.x; z = s.z; x_target = target_x s b o.x; z_target = target_z s b o.z; f = s.f; g95 = s.g95; retract = retract; empty_cuts = setting }

pub is_wanted : (b : Block) (s : State) (o : Pair) (retract setting : ℕ) → turning_of b (sent b s o retract setting) ≡ wanted b s o
unfolding code_in target_x target_z is_facing turning_of wanted
is_wanted b s o retract setting = refl

pub is_thread_wanted : (b : Block) (s : State) (o : Pair) (retract setting : ℕ) → thread_of b (sent b s o retract setting) ≡ thread_wanted b s o setting
unfolding code_in target_x target_z is_facing empty_cuts thread_of thread_wanted
is_thread_wanted b s o retract setting = refl
