-- `places::find_block` meets its contract. Assumes nothing.
use mathlib.Core.Path.{ap, ◌∙◌}
use Prim.Native.Nat.{ℕ}
use lib.ListN.{take}
use borrow.Author.Tests.{lt-ltb, le-ltb}
use Rattle.places.specs.Places.{looked_up, highest_slot, block_in}
use borrow.Author.Rules.{rules}
use Rattle.places.proofs.find_block.Statement.{statement}
use Rattle.places.proofs.find_block.Tie as tie

returns : tie.Need-returns-then-number-ge-HIGHEST_SLOT
unfolding block_in
returns c = λ _. rw (le-ltb c.args.number highest_slot c.if-number-ge-HIGHEST_SLOT.true)

add_slot : tie.Need-overflow_add-slot
add_slot c = search rules

key_of_requires : tie.Need-key_of-key-requires
key_of_requires c κs = search rules

find_requires : tie.Need-find-requires
find_requires c κs = search rules

returns_2 : tie.Need-returns
unfolding block_in
returns_2 c =
    let a = c.args in
    λ r. c.find.ensures r ∙ ap (λ (k : ℕ). looked_up k (take a.count a.table.now)) c.key_of-key.ensures ∙ rw (lt-ltb a.number highest_slot c.if-number-ge-HIGHEST_SLOT.false)

pub find_block_spec : {M : Type 1} → statement M
find_block_spec = tie.close (tie.spec returns add_slot key_of_requires find_requires returns_2)
