-- THE ORDERS OF THE ALARMS. 01: "1 to 4 in that order; then lines from the front, each 7, 5, 6, 8, 9; then 10 for the main; then blocks as run: 13, 14, 10, 11, 12, 15, 16, 17, 19, 18, 20." (02 takes 8 out, and puts 21 behind 5 and 22 behind 9.) A row for
-- each alarm, a definition for each test, which is true where the input, the line or the block is to be refused. No test asks what another one has said.
use Rattle.std.specs.Prelude.{Bool, true, false, not, ◌&&◌, ◌||◌, List, [], ◌∷◌, ℕ, ◌+◌, leb, ltb, eqb, ℤ, length}
use Rattle.alarms.specs.Numbers.{bad_settings, tape_too_long, buffer_too_short, no_program, bad_byte_or_number, bad_line_start, line_too_long, missing_point, word_rules, places_too_short, program_missing, block_missing, too_deep, too_many_begun, wrong_end, no_motion, not_rapid, bad_feed, outside_limits, bad_lengths, no_room}
use Rattle.whole.specs.Among.{among}
use Rattle.moves.specs.Form.{header_size}
use Rattle.moves.specs.declared.Record.{Record}
use Rattle.settings.specs.Wrong.{settings_wrong, highest_program, highest_subroutine}
use Rattle.settings.specs.Limits.{outside}
use Rattle.settings.specs.declared.Settings.{Settings}
use Rattle.settings.specs.declared.Limits.{Limits}
use Rattle.tape.specs.Lines.{opens_tape, lines}
use Rattle.codes.specs.declared.Motion.TheVariants as motion
use Rattle.acts.specs.declared.Kept.{Kept}
use Rattle.acts.specs.declared.Kept.TheVariants as kept
use Rattle.block.specs.Slots.{any_of}
use Rattle.block.specs.Words.{longest_line, line_of}
use Rattle.block.specs.declared.Block.{Block}
use Rattle.block.specs.declared.Head.{Head}
use Rattle.block.specs.declared.Head.TheVariants.{Blank, ProgramLine, BlockLine, Other}
use Rattle.showing.specs.Showing.{broken_by, lacks_by}
use Rattle.reading.specs.Reading.{longest_tape, History}
use Rattle.finding.specs.Finding.{find_program, block_of_program}
use Rattle.places.specs.declared.Found.{Found}
use Rattle.places.specs.declared.Found.TheVariants.{At, Nowhere}
use Rattle.axes.specs.Limits.{any_outside}
use Rattle.arcs.specs.Arcs.{uneven}
use Rattle.straying.specs.Straying.{straying}
use Rattle.cycles.specs.Cycle as cycle
use Rattle.cycles.specs.Feeds.{least_of_feed}
use Rattle.state.specs.Modal.{settled, block_motion}
use Rattle.requests.specs.Request.{request_of}
use Rattle.state.specs.declared.State.{State}
use Rattle.requests.specs.declared.Request.{Request}
use Rattle.requests.specs.declared.Request.TheVariants as asks
use Rattle.deeds.specs.Deed.{has_path, has_centre}
use Rattle.deeds.specs.declared.Deed.{Deed}
use Rattle.deeds.specs.declared.Deed.TheVariants.{Nothing, Nowhere as Aimless, Dwell, Straight, Round, Cycle}
use Rattle.asking.specs.Judge.{feed_wrong}
use Rattle.demands.specs.of_verdicts.Verdicts.{deed_in}
use Rattle.demands.specs.of_machine.Blocks.{done_records}
use Rattle.ahead.specs.Ahead.{most_calls}
use Rattle.demands.specs.of_taking.Steps.{Task, block_on}
use Rattle.demands.specs.of_taking.declared.Run.{Run}
use Rattle.alarmed.specs.Order.{Row, row}

-- ---- 1 TO 4, of what the interpreter is given; the last two: the length of the table of places, and that of the buffer
pub record Input : Type 0 where
  pub tape : List ℕ
  pub table : List ℤ
  pub settings : Settings
  pub size : ℕ
  pub bytes : ℕ

-- 1 "table not 208 numbers, a number out of range, ..": `settings_wrong`
unfoldable pub settings_bad : Input → Bool
settings_bad i = settings_wrong i.table i.settings

-- 2 "tape above 65,535 bytes"
unfoldable pub too_long : Input → Bool
too_long i = ltb longest_tape (length i.tape)

-- 3 "buffer under 8 bytes"
unfoldable pub too_short : Input → Bool
too_short i = ltb i.bytes header_size

-- 4 "no `%` or `O`"
unfoldable pub unopened : Input → Bool
unopened i = not (any_of opens_tape i.tape)

-- "1 to 4 in that order"
abbrev pub input_order : List (Row Input)
input_order = row bad_settings settings_bad ∷ row tape_too_long too_long ∷ row buffer_too_short too_short ∷ row no_program unopened ∷ []

-- ---- A LINE as it is judged: its text, the line end not counted, the numbers that were read before it, how many program lines and blocks these are, whether points are asked for, and how many entries the table of places has
pub record Line : Type 0 where
  pub text : List ℕ
  pub history : History
  pub entries : ℕ
  pub points : Bool
  pub size : ℕ

-- how it begins, and the words behind that
abbrev pub head_in : Line → Head
head_in l = (line_of l.text).head

abbrev pub words_in : Line → Block
words_in l = (line_of l.text).block

-- 7 "line above 160 bytes, comments counted, line end not"
unfoldable pub overlong : Line → Bool
overlong l = ltb longest_line (length l.text)

-- 5 "unknown byte or address, bad or too long number, D above 32,767, open comment, lone CR even in a comment", anywhere on the line
unfoldable pub unreadable : Line → Bool
unreadable l = (line_of l.text).faulty

-- 21, 02: "a setting turns missing points into an alarm for X Z U W"
unfoldable pub point_missing : Line → Bool
point_missing l = l.points && lacks_by (head_in l) (words_in l).pointless

-- 6 "line starts with another word, program number repeated or above 6999, block number repeated in its program"
unfoldable pub starts_badly : History → Head → Bool
starts_badly h Blank = false
starts_badly h (Other lacks) = true
starts_badly h (ProgramLine n) = ltb highest_program n || among n h.programs
starts_badly h (BlockLine n) = among n h.blocks

unfoldable pub start_bad : Line → Bool
start_bad l = starts_badly l.history (head_in l)

-- 9 "word rules"
unfoldable pub rules_broken : Line → Bool
rules_broken l = broken_by (head_in l) (words_in l)

-- 22, 02: "a table shorter than these lines": a program line or a block finds it full
unfoldable pub is_entry : Head → Bool
is_entry Blank = false
is_entry (Other lacks) = false
is_entry (ProgramLine n) = true
is_entry (BlockLine n) = true

unfoldable pub table_full : Line → Bool
table_full l = is_entry (head_in l) && leb l.size l.entries

-- "then lines from the front, each 7, 5, 21, 6, 9, 22"
abbrev pub line_order : List (Row Line)
line_order = row line_too_long overlong ∷ row bad_byte_or_number unreadable ∷ row missing_point point_missing ∷ row bad_line_start start_bad ∷ row word_rules rules_broken ∷ row places_too_short table_full ∷ []

-- ---- A BLOCK as it is begun: what the run is given, the place of the line of the program that the block stands in, how many calls deep that program runs (the main program: 0), the block's place on the tape, and the run
-- before it
pub record Begun : Type 0 where
  pub task : Task
  pub program : ℕ
  pub deep : ℕ
  pub place : ℕ
  pub run : Run

-- its words, what they ask of the runner, the state with its own words acted, and what it does there
abbrev pub words_of : Begun → Block
words_of x = block_on x.task.tape x.place

abbrev pub request : Begun → Request
request x = request_of (words_of x)

abbrev pub acted : Begun → State
acted x = settled x.run.state (words_of x)

abbrev pub deed : Begun → Deed
deed x = deed_in x.task.table x.task.settings x.run.state (words_of x)

-- 13 "block 20,001 begun": a run may begin no more
unfoldable pub none_left : Begun → Bool
none_left x = eqb x.run.blocks_left 0

-- 14 "M17 in the main program, M30 in a subprogram". (A program that ends without either has no block to refuse: see `RunRefused`.) The first argument: whether it is the main program
unfoldable pub ends_badly : Bool → Request → Bool
ends_badly main asks.On = false
ends_badly main (asks.Call n times) = false
ends_badly main (asks.Jump n) = false
ends_badly main asks.Return = main
ends_badly main asks.End = not main

unfoldable pub end_bad : Begun → Bool
end_bad x = ends_badly (eqb x.deep 0) (request x)

unfoldable pub nowhere : Found → Bool
nowhere (At p) = false
nowhere Nowhere = true

-- 10 "called number outside lowest subroutine to 255 (001: alarm 630) or missing"
unfoldable pub calls : Task → Request → Bool
calls t asks.On = false
calls t (asks.Call n times) = (ltb n t.settings.lowest_subroutine || ltb highest_subroutine n) || nowhere (find_program n (lines t.tape t.first))
calls t (asks.Jump n) = false
calls t asks.Return = false
calls t asks.End = false

unfoldable pub call_bad : Begun → Bool
call_bad x = calls x.task (request x)

-- 11 "jump target missing": no block of the number in the same program
unfoldable pub jumps : List ℕ → ℕ → Request → Bool
jumps tape program asks.On = false
jumps tape program (asks.Call n times) = false
jumps tape program (asks.Jump n) = nowhere (block_of_program n tape program)
jumps tape program asks.Return = false
jumps tape program asks.End = false

unfoldable pub jump_bad : Begun → Bool
jump_bad x = jumps x.task.tape x.program (request x)

-- 12 "eleventh call deep"
unfoldable pub deepens : Request → Bool
deepens asks.On = false
deepens (asks.Call n times) = true
deepens (asks.Jump n) = false
deepens asks.Return = false
deepens asks.End = false

unfoldable pub call_deep : Begun → Bool
call_deep x = deepens (request x) && leb most_calls x.deep

-- 15 "path word with no motion function". 02: "I or K .. under another kept one or none in 15"; beside another word of group 0 of their own block they are 9
unfoldable pub is_none : Kept → Bool
is_none kept.Nothing = true
is_none (kept.Of m) = false

-- a motion that is kept and is no arc
unfoldable pub is_straight : Kept → Bool
is_straight kept.Nothing = false
is_straight (kept.Of motion.Rapid) = true
is_straight (kept.Of motion.Feed) = true
is_straight (kept.Of motion.Clockwise) = false
is_straight (kept.Of motion.Counterclockwise) = false
is_straight (kept.Of motion.Thread) = true
is_straight (kept.Of motion.Dwell) = false
is_straight (kept.Of motion.Turning) = false
is_straight (kept.Of motion.Threading) = false
is_straight (kept.Of motion.Grooving) = false
is_straight (kept.Of motion.ChipBreaking) = false
is_straight (kept.Of motion.Redrawing) = false

unfoldable pub lacks_motion : Kept → Block → Bool
lacks_motion m b = (is_none m && (has_path b || has_centre b)) || (is_straight m && has_centre b)

unfoldable pub motionless : Begun → Bool
motionless x = lacks_motion (block_motion x.run.state.motion (words_of x)) (words_of x)

-- 16 "first traverse not G00": a G00 is due, and the block is a traverse and no G00. "Cycles and G33 are traverses; blocks without a move are none."
unfoldable pub other_traverse : Deed → Bool
other_traverse Nothing = false
other_traverse Aimless = false
other_traverse (Dwell r) = false
other_traverse (Straight m) = not m.rapid
other_traverse (Round r) = true
other_traverse (Cycle c) = true

unfoldable pub rapid_missing : Begun → Bool
rapid_missing x = (acted x).rapid_due && other_traverse (deed x)

-- 17 "F missing or out of range": by the least F that a move takes, 0 where it takes none. 02: "G02 and G03 .. need F .. as G01 does"
unfoldable pub least_feed : Deed → ℕ
least_feed Nothing = 0
least_feed Aimless = 0
least_feed (Dwell r) = 0
least_feed (Straight m) = m.least
least_feed (Round r) = least_of_feed
least_feed (Cycle c) = cycle.least_feed c

unfoldable pub feed_bad : Begun → Bool
feed_bad x = feed_wrong (least_feed (deed x)) (acted x).f

-- 19 "cycle lengths, directions or tool width"; 02, of an arc: "a zero distance or unequal distances"
unfoldable pub wrong_lengths : Deed → Bool
wrong_lengths Nothing = false
wrong_lengths Aimless = false
wrong_lengths (Dwell r) = false
wrong_lengths (Straight m) = false
wrong_lengths (Round r) = uneven r.arc
wrong_lengths (Cycle c) = cycle.wrong c

unfoldable pub lengths_bad : Begun → Bool
lengths_bad x = wrong_lengths (deed x)

-- 18 "a move ends outside the limits": by where each move ends. 02, of an arc: "The soft limits hold for the end and for every quadrant point .. that the arc crosses between its ends"
unfoldable pub goes_outside : Limits → Deed → Bool
goes_outside l Nothing = false
goes_outside l Aimless = false
goes_outside l (Dwell r) = false
goes_outside l (Straight m) = outside l m.goes.x m.goes.z
goes_outside l (Round r) = straying l r.arc
goes_outside l (Cycle c) = any_outside l (cycle.records c)

unfoldable pub outside_bad : Begun → Bool
outside_bad x = goes_outside x.task.settings.limits (deed x)

-- 20 "records above 4,000 or above the buffer": those that are written and all of the block's; one that writes none is not asked
unfoldable pub records_of : Begun → List Record
records_of x = done_records x.task.table x.task.settings x.run.state (words_of x)

unfoldable pub overfull : Begun → Bool
overfull x = ltb 0 (length (records_of x)) && ltb x.task.room (x.run.count + length (records_of x))

-- "then blocks as run: 13, 14, 10, 11, 12, 15, 16, 17, 19, 18, 20"
abbrev pub block_order : List (Row Begun)
block_order =
    row too_many_begun none_left
    ∷ row wrong_end end_bad
    ∷ row program_missing call_bad
    ∷ row block_missing jump_bad
    ∷ row too_deep call_deep
    ∷ row no_motion motionless
    ∷ row not_rapid rapid_missing
    ∷ row bad_feed feed_bad
    ∷ row bad_lengths lengths_bad
    ∷ row outside_limits outside_bad
    ∷ row no_room overfull
    ∷ []
