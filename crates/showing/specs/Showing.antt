-- What the text of a line shows by itself. (01: "then lines from the front, each 7, 5, 6, 8, 9". 02 takes 8 out, and puts 21 behind 5.) The word rules (9) stand in `rules`.
use Rattle.std.specs.Prelude.{Bool, false, cond, ◌||◌, List, ℕ, ltb, length}
use Rattle.alarms.specs.Numbers.{bad_byte_or_number, line_too_long}
use Rattle.block.specs.declared.Block.{Block}
use Rattle.block.specs.declared.Head.{Head}
use Rattle.block.specs.declared.Head.TheVariants.{Blank, ProgramLine, BlockLine, Other}
use Rattle.block.specs.declared.ReadLine.{ReadLine}
use Rattle.showing.specs.declared.Judged.{Judged}
use Rattle.block.specs.Words.{longest_line, line_of}
use Rattle.rules.specs.Rules.{after_program, broken}

-- a line breaks a rule. Of a line that begins with another word it is not asked: that is alarm 6, which goes before
unfoldable pub broken_by : Head → Block → Bool
broken_by (ProgramLine n) b = after_program b
broken_by (BlockLine n) b = broken b
broken_by Blank b = false
broken_by (Other lacks) b = false

-- an X Z U W number of a line lacks its point: one behind the first word, or the first, where that is another word than a number of a program or a block
unfoldable pub lacks_by : Head → Bool → Bool
lacks_by (Other lacks) behind = lacks || behind
lacks_by (ProgramLine n) behind = behind
lacks_by (BlockLine n) behind = behind
lacks_by Blank behind = behind

-- a line of an alarm or none, and a head, and no words behind that
abbrev pub judged_alone : ℕ → Head → Judged
judged_alone n h = record { alarm = n; head = h; pointless = lacks_by h false; broken = false; ends = false }

-- a line with alarm 7 or 5: the other fields say nothing
abbrev pub refused_line : ℕ → Judged
refused_line n = judged_alone n Blank

abbrev pub judged_by : ReadLine → Judged
judged_by r =
    cond r.faulty (refused_line bad_byte_or_number)
    (record { alarm = 0; head = r.head; pointless = lacks_by r.head r.block.pointless; broken = broken_by r.head r.block; ends = r.block.ends })

-- what the text of a line, its end not counted, shows by itself: alarm 7, then 5, else how it begins, whether an X Z U W number of it lacks its point, whether it
-- breaks a rule, and whether the last word behind its first is M30
unfoldable pub judged : List ℕ → Judged
judged s = cond (ltb longest_line (length s)) (refused_line line_too_long) (judged_by (line_of s))
