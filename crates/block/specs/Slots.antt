-- 01: "Within a block, the last word of an address (for P and D, of an address and index) is the one that applies, and for G and M the last word of its group (001)." A slot for each
-- address, index and group, by its name. That no two of them are one, and where they lie, is all that there is to their numbers.
use Rattle.std.specs.Prelude.{Bool, false, cond, not, ◌&&◌, ◌||◌, List, [], ◌∷◌, ℕ, zero, suc, ◌+◌, eqb, pos, nat_abs, get_or}
use Rattle.codes.specs.Codes.{g_code, m_code}
use Rattle.codes.specs.declared.Code.{Code}
use Rattle.codes.specs.declared.Code.TheVariants.{Unknown}
use Rattle.block.specs.declared.Block.{Block}

-- how many there are
abbrev pub slots : ℕ
slots = 42

abbrev pub x_slot : ℕ
x_slot = 0

abbrev pub z_slot : ℕ
z_slot = 1

abbrev pub u_slot : ℕ
u_slot = 2

abbrev pub w_slot : ℕ
w_slot = 3

abbrev pub i_slot : ℕ
i_slot = 4

abbrev pub k_slot : ℕ
k_slot = 5

abbrev pub f_slot : ℕ
f_slot = 6

abbrev pub s_slot : ℕ
s_slot = 7

abbrev pub t_slot : ℕ
t_slot = 8

-- "M groups: 0 is 03 04 05; 3 is 08 09; 2 is 00 17 30"
abbrev pub m_slot : ℕ → ℕ
m_slot group = 9 + group

abbrev pub spindle_slot : ℕ
spindle_slot = m_slot 0

abbrev pub flow_slot : ℕ
flow_slot = m_slot 2

abbrev pub coolant_slot : ℕ
coolant_slot = m_slot 3

-- P0 to P9 and D0 to D9
abbrev pub p_slot : ℕ → ℕ
p_slot index = 13 + index

abbrev pub d_slot : ℕ → ℕ
d_slot index = 23 + index

abbrev pub l_slot : ℕ
l_slot = 33

-- "G groups (001): 0 is 00 01 33 (kept) and 04 84 86 ..; 1 is 96 97; 2 is 94 95; 3 is 53 54 55; 5 is 56 to 59; 6 is 25 27"
abbrev pub g_slot : ℕ → ℕ
g_slot group = 34 + group

abbrev pub motion_slot : ℕ
motion_slot = g_slot 0

abbrev pub speed_mode_slot : ℕ
speed_mode_slot = g_slot 1

abbrev pub feed_mode_slot : ℕ
feed_mode_slot = g_slot 2

abbrev pub shift3_slot : ℕ
shift3_slot = g_slot 3

abbrev pub shift5_slot : ℕ
shift5_slot = g_slot 5

abbrev pub steering_slot : ℕ
steering_slot = g_slot 6

-- ---- rows of them
abbrev pub path_slots : List ℕ
path_slots = x_slot ∷ z_slot ∷ u_slot ∷ w_slot ∷ []

-- 02: "I and K .. give the centre"
abbrev pub centre_slots : List ℕ
centre_slots = i_slot ∷ k_slot ∷ []

-- so many numbers, one after the other
abbrev pub numbers_from : ℕ → ℕ → List ℕ
numbers_from first zero = []
numbers_from first (suc n) = first ∷ numbers_from (first + 1) n

abbrev pub m_slots : List ℕ
m_slots = numbers_from (m_slot 0) 4

-- P and D have the indexes 0 to 9
abbrev pub indexes : List ℕ
indexes = numbers_from 0 10

abbrev pub p_slots : List ℕ
p_slots = numbers_from (p_slot 0) 10

abbrev pub d_slots : List ℕ
d_slots = numbers_from (d_slot 0) 10

-- ---- what applies
-- a word applies in the slot k
unfoldable pub has : Block → ℕ → Bool
has b k = not (eqb (get_or b.place k 0) 0)

-- the number in a slot whose words have no sign
unfoldable pub code_in : Block → ℕ → ℕ
code_in b k = nat_abs (get_or b.value k (pos 0))

-- what the G word means that applies in a slot of G, and the M word in one of M; where there is none it is no code
unfoldable pub g_in : Block → ℕ → Code
g_in b k = cond (has b k) (g_code (code_in b k)) Unknown

unfoldable pub m_in : Block → ℕ → Code
m_in b k = cond (has b k) (m_code (code_in b k)) Unknown

-- a test holds of one of a row of numbers
unfoldable pub any_of : (ℕ → Bool) → List ℕ → Bool
any_of test [] = false
any_of test (n ∷ ns) = test n || any_of test ns

-- a word applies in one of the slots
abbrev pub any_in : Block → List ℕ → Bool
any_in b ks = any_of (λ k. has b k) ks

-- the G word of group 0 that applies is that of n
unfoldable pub group_zero_is : Block → ℕ → Bool
group_zero_is b n = has b motion_slot && eqb (code_in b motion_slot) n
