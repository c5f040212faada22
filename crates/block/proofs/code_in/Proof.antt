-- `block::code_in` meets its contract.
use mathlib.Core.Path.{◌≡◌, ap, ◌∙◌}
use lib.IntN.{pos, nat_abs}
use lib.ListN.{get_or}
use mir.Syntax.{w32}
use mir.Val.{to_z, of_z}
use Rattle.block.specs.Slots.{code_in}
use borrow.Author.Rules.{rules}
use Rattle.block.proofs.code_in.Statement.{statement}
use Rattle.block.proofs.code_in.Tie as tie

mul_magnitude : tie.Need-offset_bounds-b-k
mul_magnitude c = search rules

element_copy_out_magnitude : tie.Need-bounds-b-k
element_copy_out_magnitude c = search rules

magnitude_requires : tie.Need-magnitude-requires
magnitude_requires c κs = search rules

-- the value in the slot, as the machine reads it back from its bits
value : (c : tie.After-magnitude) → to_z w32 (of_z w32 (get_or c.args.b.value c.args.k (pos 0))) ≡ get_or c.args.b.value c.args.k (pos 0)
value c = search rules

returns : tie.Need-returns
unfolding code_in
returns c = c.magnitude.ensures ∙ ap nat_abs (value c)

pub code_in_spec : {M : Type 1} → statement M
code_in_spec =
    tie.close (tie.spec mul_magnitude element_copy_out_magnitude magnitude_requires returns)
