-- 01: "Offset table: 208 signed numbers, pairs of X then Z, for shifts 1 to 5 and then tool corrections 1 to 99". "Offset = shift of group 3 + shift of group 5 + tool
-- correction." "Target of X or Z = word + offset. Target of U or W = present machine position + word (U doubled). An axis without a word stays at its machine position."
use Rattle.std.specs.Prelude.{cond, List, ℕ, ◌+◌, ◌-◌, ◌*◌, eqb, ℤ, pos, ◌+ℤ◌, ◌*ℤ◌, get_or}
use Rattle.block.specs.Slots.{x_slot, z_slot, u_slot, w_slot, has}
use Rattle.block.specs.declared.Block.{Block}
use Rattle.state.specs.declared.State.{State}
use Rattle.targets.specs.declared.Pair.{Pair}

-- pair i of the table, from 1, and none for 0
unfoldable pub pair_of : List ℤ → ℕ → Pair
pair_of table i =
    cond (eqb i 0) (record { x = pos 0; z = pos 0 }) (record { x = get_or table (2 * (i - 1)) (pos 0); z = get_or table (2 * (i - 1) + 1) (pos 0) })

-- "shifts 1 to 5 and then tool corrections 1 to 99": correction c is pair 5 + c; "correction 0 is none"
unfoldable pub correction_pair : ℕ → ℕ
correction_pair c = cond (eqb c 0) 0 (c + 5)

-- "Offset = shift of group 3 + shift of group 5 + tool correction"
unfoldable pub offset_of : List ℤ → State → Pair
offset_of table s =
    let a = pair_of table s.shift_group3 in
    let b = pair_of table s.shift_group5 in
    let c = pair_of table (correction_pair s.correction) in
    record { x = a.x +ℤ b.x +ℤ c.x; z = a.z +ℤ b.z +ℤ c.z }

-- "Target of X or Z = word + offset. Target of U or W = present machine position + word (U doubled). An axis without a word stays at its machine position." X and U, and Z and W, never
-- stand together
abbrev pub word_in : Block → ℕ → ℤ
word_in b k = get_or b.value k (pos 0)

unfoldable pub target_x : State → Block → ℤ → ℤ
target_x s b offset =
    cond (has b x_slot) (word_in b x_slot +ℤ offset)
    (cond (has b u_slot) (s.x +ℤ pos 2 *ℤ word_in b u_slot)
    s.x)

unfoldable pub target_z : State → Block → ℤ → ℤ
target_z s b offset =
    cond (has b z_slot) (word_in b z_slot +ℤ offset)
    (cond (has b w_slot) (s.z +ℤ word_in b w_slot)
    s.z)
