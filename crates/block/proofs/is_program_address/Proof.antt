-- `block::is_program_address` meets its contract.
use mathlib.Core.Path.{refl}
use Rattle.block.specs.Words.{is_program_address}
use Rattle.block.proofs.is_program_address.Statement.{statement}
use Rattle.block.proofs.is_program_address.Tie as tie

returns : tie.Need-returns
unfolding is_program_address
returns c = refl

pub is_program_address_spec : {M : Type 1} → statement M
is_program_address_spec = tie.close (tie.spec returns)
