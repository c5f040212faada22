-- Laws of a judged line: by what it starts with, and with no words behind its first.
-- Assumes nothing.
use mathlib.Core.Path.{◌≡◌, refl, sym, ap, ◌∙◌}
use mathlib.Core.Bool.{Bool, true, false}
use mathlib.Core.List.{List}
use Prim.Native.Nat.{ℕ, ◌≤◌, ◌<◌}
use lib.ListN.{length}
use borrow.Author.Tests.{lt-ltb, le-ltb}
use Rattle.addresses.specs.Words.{words_from}
use Rattle.alarms.specs.Numbers.{line_too_long, bad_byte_or_number}
use Rattle.stands.specs.Stands.{stands_freely, stands_by}
use Rattle.block.specs.declared.Head.{Head}
use Rattle.block.specs.declared.Head.TheVariants.{Blank, ProgramLine, BlockLine, Other}
use Rattle.block.specs.declared.LineStart.{LineStart}
use Rattle.block.specs.declared.ReadLine.{ReadLine}
use Rattle.block.specs.declared.Rest.{Rest}
use Rattle.block.specs.Slots.{has, any_of, g_in}
use Rattle.block.specs.Words.{longest_line, no_words, gather, reading, start_of}
use Rattle.block.proofs.Lines.{rest_none, line_from, line_from_lem}
use Rattle.rules.specs.Rules.{calls_or_jumps, unknown_number, late_n, after_program, axis_twice, l_word_wrong, more_than_l, call_wrong, path_wrong, centre_wrong, is_foreign, d_word_wrong, d_word_missing, bits_wrong, motion_wrong, broken}
use Rattle.showing.specs.Showing.{broken_by, lacks_by, judged_alone, refused_line, judged_by, judged}

-- no words break no rule
none_broken : broken no_words ≡ false
unfolding no_words has any_of g_in stands_by calls_or_jumps unknown_number late_n axis_twice l_word_wrong more_than_l call_wrong path_wrong centre_wrong is_foreign d_word_wrong d_word_missing bits_wrong motion_wrong broken stands_freely
none_broken = refl

none_wrong : (h : Head) → broken_by h no_words ≡ false
unfolding broken_by after_program no_words
none_wrong (ProgramLine n) = refl
none_wrong (BlockLine n) = none_broken
none_wrong Blank = refl
none_wrong (Other lacks) = refl

pub judged_none : (h : Head) → judged_by (reading h (record { block = no_words; faulty = false })) ≡ judged_alone 0 h
unfolding no_words
judged_none h = ap (λ (t : Bool). record { alarm = 0; head = h; pointless = lacks_by h false; broken = t; ends = false }) (none_wrong h)

pub judged_bare : (s : List ℕ) (h : Head) (behind : ℕ) → behind ≤ length s → length s ≤ behind → judged_by (reading h (gather no_words (words_from s behind))) ≡ judged_alone 0 h
judged_bare s h behind l e = ap (λ (r : Rest). judged_by (reading h r)) (rest_none s behind l no_words e) ∙ judged_none h

-- a line that is not too long, and one of its two ways
pub judged_short : (s : List ℕ) → length s ≤ longest_line → {x : LineStart} → x ≡ start_of s → judged_by (line_from s x) ≡ judged s
unfolding judged
judged_short s h e = ap (λ (x : LineStart). judged_by (line_from s x)) e ∙ sym (rw (le-ltb longest_line (length s) h) (ap judged_by (line_from_lem s)))

pub judged_long : (s : List ℕ) → longest_line < length s → judged s ≡ refused_line line_too_long
unfolding judged
judged_long s h = rw (lt-ltb longest_line (length s) h)

pub judged_faulty : (r : ReadLine) → r.faulty ≡ true → judged_by r ≡ refused_line bad_byte_or_number
judged_faulty r e = rw e

pub judged_good : (r : ReadLine) → r.faulty ≡ false → judged_by r ≡ record { alarm = 0; head = r.head; pointless = lacks_by r.head r.block.pointless; broken = broken_by r.head r.block; ends = r.block.ends }
judged_good r e = rw e
