-- `block::has` meets its contract.
use Rattle.block.specs.Slots.{has}
use mathlib.Core.Path.{refl}
use borrow.Author.Rules.{rules}
use Rattle.block.proofs.has.Statement.{statement}
use Rattle.block.proofs.has.Tie as tie

element_copy_out_result : tie.Need-bounds-b-k
element_copy_out_result c = search rules

returns : tie.Need-returns
unfolding has
returns c = refl

pub has_spec : {M : Type 1} → statement M
has_spec = tie.close (tie.spec element_copy_out_result returns)
