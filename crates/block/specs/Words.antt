-- 01: "A program line is `%` or `O` and 1 to 4 digits, 0 to 6999, nothing more. A block line starts with `N` and 1 to 4 digits." (That a program number is at most
-- 6999 is judged where the tape is read.) "Within a block, the last word of an address (for P
-- and D, of an address and index) is the one that applies, and for G and M the last word of its group (001)." "Reading ends after a line whose last word is M30".
use Rattle.std.specs.Prelude.{Bool, true, false, cond, ◌&&◌, ◌||◌, List, ℕ, ◌+◌, ◌<◌, ◌≤◌, eqb, pos, nat_abs, set, replicate}
use Rattle.letters.specs.Letters.{percent, letter_d, letter_f, letter_g, letter_i, letter_k, letter_l, letter_m, letter_n, letter_o, letter_p, letter_s, letter_t, letter_u, letter_w, letter_x, letter_z}
use Rattle.addresses.specs.Words.{Words, word, ended, faulty, next_word, lacks_point, words_from}
use Rattle.addresses.specs.declared.Word.{Word}
use Rattle.addresses.specs.declared.NextWord.{NextWord}
use Rattle.addresses.specs.declared.NextWord.TheVariants as next
use Rattle.codes.specs.declared.Code.{Code}
use Rattle.codes.specs.declared.Code.TheVariants as code
use Rattle.block.specs.declared.Block.{Block}
use Rattle.block.specs.declared.Slot.{Slot}
use Rattle.block.specs.declared.Slot.TheVariants.{At, Late, Unknown}
use Rattle.block.specs.declared.Head.{Head}
use Rattle.block.specs.declared.Head.TheVariants.{Blank, ProgramLine, BlockLine, Other}
use Rattle.block.specs.declared.LineStart.{LineStart}
use Rattle.block.specs.declared.LineStart.TheVariants as start
use Rattle.block.specs.declared.Rest.{Rest}
use Rattle.block.specs.declared.ReadLine.{ReadLine}
use Rattle.codes.specs.Codes.{g_code, m_code}
use Rattle.acts.specs.Acting.{ends_by}
use Rattle.block.specs.Slots.{slots, x_slot, z_slot, u_slot, w_slot, i_slot, k_slot, f_slot, s_slot, t_slot, m_slot, p_slot, d_slot, l_slot, g_slot}

-- the slot of a G or an M word: that of its group
abbrev pub code_slot : Code → (ℕ → ℕ) → Slot
code_slot (code.Of g m) slot = At (slot g)
code_slot code.Unknown slot = Unknown

-- the number of a G or M word, of a program and of a block has no sign
abbrev pub number_in : Word → ℕ
number_in w = nat_abs w.value

-- where a word goes: N behind the first word is late, and a number of G or M may be unknown. No other address comes here
unfoldable pub slot_of : Word → Slot
slot_of w =
    let a = w.address in
    cond (eqb a letter_x) (At x_slot)
    (cond (eqb a letter_z) (At z_slot)
    (cond (eqb a letter_u) (At u_slot)
    (cond (eqb a letter_w) (At w_slot)
    (cond (eqb a letter_i) (At i_slot)
    (cond (eqb a letter_k) (At k_slot)
    (cond (eqb a letter_f) (At f_slot)
    (cond (eqb a letter_s) (At s_slot)
    (cond (eqb a letter_t) (At t_slot)
    (cond (eqb a letter_l) (At l_slot)
    (cond (eqb a letter_p) (At (p_slot w.index))
    (cond (eqb a letter_d) (At (d_slot w.index))
    (cond (eqb a letter_g) (code_slot (g_code (number_in w)) g_slot)
    (cond (eqb a letter_m) (code_slot (m_code (number_in w)) m_slot)
    (cond (eqb a letter_n) Late Unknown))))))))))))))

abbrev pub SlotIn : Slot → Type 0
SlotIn (At k) = k < slots
SlotIn Late = Unit {0}
SlotIn Unknown = Unit {0}

-- the block with no words
unfoldable pub no_words : Block
no_words = record { value = replicate slots (pos 0); place = replicate slots 0; words = 0; late = false; unknown = false; ends = false; pointless = false }

-- the word M30
unfoldable pub is_end : Word → Bool
is_end w = eqb w.address letter_m && ends_by (m_code (number_in w))

-- a block with one word more: "the last word .. is the one that applies". Whether a point is missing is kept of every word, of one that a later word replaces too
abbrev pub put_in : Slot → Block → Word → Block
put_in (At k) b w =
    record { value = set b.value k w.value; place = set b.place k (b.words + 1); words = b.words + 1; late = b.late; unknown = b.unknown; ends = is_end w; pointless = b.pointless || lacks_point w }
put_in Late b w = record { value = b.value; place = b.place; words = b.words + 1; late = true; unknown = b.unknown; ends = is_end w; pointless = b.pointless || lacks_point w }
put_in Unknown b w = record { value = b.value; place = b.place; words = b.words + 1; late = b.late; unknown = true; ends = is_end w; pointless = b.pointless || lacks_point w }

unfoldable pub put_word : Block → Word → Block
put_word b w = put_in (slot_of w) b w

-- the address of a program number: `%` or `O`. Behind another word they are no known addresses (`gather`)
unfoldable pub is_program_address : ℕ → Bool
is_program_address a = eqb a percent || eqb a letter_o

-- what is left of a line with a fault
unfoldable pub faulty_rest : Rest
faulty_rest = record { block = no_words; faulty = true }

-- the words behind the first, one after the other into the block
unfoldable pub gather : Block → Words → Rest
gather b ended = record { block = b; faulty = false }
gather b faulty = faulty_rest
gather b (word w ws) = cond (is_program_address w.address) faulty_rest (gather (put_word b w) ws)

-- how a line begins, by its first word, and where that is another word, whether it lacks its point
unfoldable pub head_by : Word → Head
head_by w = cond (is_program_address w.address) (ProgramLine (number_in w)) (cond (eqb w.address letter_n) (BlockLine (number_in w)) (Other (lacks_point w)))

abbrev pub head_of_next : NextWord → Head
head_of_next next.Fault = Blank
head_of_next next.End = Blank
head_of_next (next.Word w end) = head_by w

unfoldable pub head_of : List ℕ → Head
head_of s = head_of_next (next_word s 0)

-- what a line starts with: a word, by how the line begins with it and the place behind it, or none, or a fault
abbrev pub start_by : NextWord → LineStart
start_by next.Fault = start.Fault
start_by next.End = start.Blank
start_by (next.Word w end) = start.With (head_by w) end

unfoldable pub start_of : List ℕ → LineStart
start_of s = start_by (next_word s 0)

-- the place behind the first word lies within a line of n bytes
abbrev pub StartIn : LineStart → ℕ → Type 0
StartIn (start.With h end) n = end ≤ n
StartIn start.Blank n = Unit {0}
StartIn start.Fault n = Unit {0}

-- alarm 7: "line above 160 bytes, comments counted, line end not"
abbrev pub longest_line : ℕ
longest_line = 160

-- a whole line
abbrev pub reading : Head → Rest → ReadLine
reading h r = record { head = h; block = r.block; faulty = r.faulty }

abbrev pub line_by : List ℕ → NextWord → ReadLine
line_by s next.Fault = reading Blank faulty_rest
line_by s next.End = reading Blank (gather no_words ended)
line_by s (next.Word w end) = reading (head_by w) (gather no_words (words_from s end))

unfoldable pub line_of : List ℕ → ReadLine
line_of s = line_by s (next_word s 0)
