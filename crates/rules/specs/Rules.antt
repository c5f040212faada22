-- 01: "Word rules, else alarm 9 (numbers are judged on every word; what a G or M asks or forbids holds only where that word applies)". A definition for each rule;
-- each is true where the rule is broken. All but `unknown_number`, `late_n` and `after_program` look at the applying words alone.
use Rattle.std.specs.Prelude.{Bool, false, not, ◌&&◌, ◌||◌, List, [], ◌∷◌, ◌++◌, ℕ, ltb, eqb}
use Rattle.stands.specs.Stands.{none, greatest_bits, stands_by, is_taken}
use Rattle.stands.specs.declared.Stands.{Stands}
use Rattle.stands.specs.declared.Path.{Path}
use Rattle.stands.specs.declared.Path.TheVariants.{Any, Forbidden, EachAxis, ZAlone}
use Rattle.block.specs.declared.Block.{Block}
use Rattle.block.specs.Slots.{x_slot, z_slot, u_slot, w_slot, i_slot, k_slot, f_slot, s_slot, t_slot, d_slot, l_slot, motion_slot, steering_slot, path_slots, centre_slots, m_slots, p_slots, d_slots, indexes, has, code_in, g_in, any_of, any_in}

-- "a G25 or G27 block": group 6
unfoldable pub calls_or_jumps : Block → Bool
calls_or_jumps b = has b steering_slot

-- "only the G and M numbers above"
unfoldable pub unknown_number : Block → Bool
unknown_number b = b.unknown

-- "N only as first word"
unfoldable pub late_n : Block → Bool
late_n b = b.late

-- "nothing after a program number"
unfoldable pub after_program : Block → Bool
after_program b = not (eqb b.words 0)

-- "not X with U, nor Z with W"
unfoldable pub axis_twice : Block → Bool
axis_twice b = (has b x_slot && has b u_slot) || (has b z_slot && has b w_slot)

-- "a G25 or G27 block .. must have L, and no other block has L"
unfoldable pub l_word_wrong : Block → Bool
l_word_wrong b = (calls_or_jumps b && not (has b l_slot)) || (not (calls_or_jumps b) && has b l_slot)

-- "a G25 or G27 block holds N, G and L words only": no word of another address
unfoldable pub more_than_l : Block → Bool
more_than_l b = calls_or_jumps b && any_in b (path_slots ++ (centre_slots ++ ((f_slot ∷ s_slot ∷ t_slot ∷ []) ++ (m_slots ++ (p_slots ++ d_slots)))))

-- ---- what the block's own word of group 0 asks and forbids: the row of its motion (`stands_with`)
-- "no G04 with G25 or G27"
unfoldable pub call_wrong : Bool → Block → Bool
call_wrong calls b = not calls && calls_or_jumps b

-- "G04 takes no path word"; "G84 and G86 need one word of each axis"; 02, G87 and G88: "X or U, no Z or W .. in 9"
abbrev pub on_x : Block → Bool
on_x b = has b x_slot || has b u_slot

abbrev pub on_z : Block → Bool
on_z b = has b z_slot || has b w_slot

unfoldable pub path_wrong : Path → Block → Bool
path_wrong Any b = false
path_wrong Forbidden b = on_x b || on_z b
path_wrong EachAxis b = not (on_x b && on_z b)
path_wrong ZAlone b = on_x b || not (on_z b)

-- 02: "I or K beside another group 0 word in 9": where I and K may not stand
unfoldable pub centre_wrong : Bool → Block → Bool
centre_wrong centre b = not centre && (has b i_slot || has b k_slot)

-- "no other P or D": a D word that the motion does not take
unfoldable pub is_foreign : List ℕ → Block → ℕ → Bool
is_foreign takes b i = has b (d_slot i) && not (is_taken takes i)

unfoldable pub d_word_wrong : List ℕ → Block → Bool
d_word_wrong takes b = any_of (λ i. is_foreign takes b i) indexes

-- "G86 also D5": the D word that the motion needs
unfoldable pub d_word_missing : ℕ → Block → Bool
d_word_missing needs b = not (eqb needs none) && not (has b (d_slot needs))

-- 02: "D7 above 7": of the D word that counts as bits
unfoldable pub bits_wrong : ℕ → Block → Bool
bits_wrong bits b = not (eqb bits none) && ltb greatest_bits (code_in b (d_slot bits))

-- one of these, or a P word, which no motion takes
abbrev pub wrong_by : Stands → Block → Bool
wrong_by a b =
    call_wrong a.calls b || (path_wrong a.path b || (centre_wrong a.centre b || ((any_in b p_slots || d_word_wrong a.takes b) || (d_word_missing a.needs b || bits_wrong a.bits b))))

unfoldable pub motion_wrong : Block → Bool
motion_wrong b = wrong_by (stands_by (g_in b motion_slot)) b

-- a block breaks a rule
unfoldable pub broken : Block → Bool
broken b = (unknown_number b || late_n b) || (axis_twice b || ((l_word_wrong b || more_than_l b) || motion_wrong b))
