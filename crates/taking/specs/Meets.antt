-- What is known of a block that is met and opened, in its parts. It serves contracts and proofs; what a step is stands in Steps.antt, what is shown of one that was taken in Hands.antt.
use Rattle.std.specs.Prelude.{◌≡◌, cond, List, ℕ, ◌+◌, ◌-◌, ◌%◌, ◌≤◌, ◌<◌, leb, ltb, eqb, length, take, drop}
use Rattle.alarms.specs.Numbers.{too_many_begun, wrong_end}
use Rattle.moves.specs.declared.Origin.{Origin}
use Rattle.settings.specs.declared.Settings.{Settings}
use Rattle.tape.specs.Lines.{line_at, lines}
use Rattle.block.specs.Words.{longest_line, start_of, no_words}
use Rattle.block.specs.declared.Block.{Block}
use Rattle.block.specs.declared.Head.{Head}
use Rattle.block.specs.declared.LineStart.TheVariants.{With}
use Rattle.jumping.specs.Jumping.{jump_in, jump_words}
use Rattle.jumping.specs.declared.Jumping.{Jumping}
use Rattle.jumping.specs.declared.Jumping.TheVariants.{To, Other}
use Rattle.places.specs.Places.{sixteen_bits, Row}
use Rattle.places.specs.declared.Found.{Found}
use Rattle.places.specs.declared.Found.TheVariants.{At, Nowhere}
use Rattle.finding.specs.Finding.{first_block, block_at, next_block, BlockIn}
use Rattle.finding.specs.declared.BlockAt.{BlockAt}
use Rattle.finding.specs.declared.NextBlock.{NextBlock}
use Rattle.finding.specs.declared.NextBlock.TheVariants as found
use Rattle.requests.specs.Request.{request_of}
use Rattle.state.specs.declared.State.{State}
use Rattle.requests.specs.declared.Request.TheVariants as next
use Rattle.ahead.specs.Ahead.{onto, looked_by, looked_up_in, LooksUp}
use Rattle.ahead.specs.declared.Frame.{Frame}
use Rattle.ahead.specs.declared.Onward.{Onward}
use Rattle.ahead.specs.declared.Onward.TheVariants.{Stop}
use Rattle.taking.specs.declared.Run.{Run}
use Rattle.taking.specs.declared.StepDone.{StepDone}
use Rattle.taking.specs.declared.Hand.TheVariants.{Nothing}
use Rattle.taking.specs.declared.Opened.{Opened}
use Rattle.taking.specs.declared.quiet.Quiet.{Quiet}
use Rattle.taking.specs.declared.quiet.Quiet.TheVariants as quiet
use Rattle.taking.specs.declared.quiet.Met.{Met}
use Rattle.taking.specs.declared.quiet.Met.TheVariants as met
use Rattle.taking.specs.Steps.{block_in, block_on, alarm_by, passed_by}

-- a line whose first word ends at `behind`
pub record Starts (line : List ℕ) (behind : ℕ) : Type 0 where
  pub head : Head
  pub is : start_of line ≡ With head behind
  pub within : behind ≤ length line

-- ---- the next block from a place on, as it is met
-- its line, as it was found
pub record Next (tape : List ℕ) (from : ℕ) (l : BlockAt) : Type 0 where
  pub is : l ≡ block_at tape l.at
  pub first : first_block (lines tape from) ≡ At l.at
  pub known : BlockIn tape l

-- the jump of a line, by the text behind its first word. A line that is too long has no words
unfoldable pub jump_on : List ℕ → ℕ → Jumping
jump_on line behind = cond (ltb longest_line (length line)) Other (jump_in (drop behind line))

-- how it is met: told by its text where so many blocks may still begin and nothing stands behind its number, or a jump alone; else its words are to be put together
abbrev pub met_by : BlockAt → Jumping → Met
met_by l (To n) = met.Known (quiet.Jump l.at n l.after)
met_by l Other = met.Words l

unfoldable pub met_at : List ℕ → ℕ → BlockAt → Met
met_at tape left l =
    cond (eqb left 0) (met.Words l)
    (cond (leb l.stop (l.at + l.behind)) (met.Known (quiet.Bare l.at l.after)) (met_by l (jump_on (take (l.stop - l.at) (drop l.at tape)) l.behind)))

abbrev pub met_in : List ℕ → ℕ → NextBlock → Met
met_in tape left (found.At l) = met_at tape left l
met_in tape left found.Nowhere = met.Known quiet.Ended

unfoldable pub met_from : List ℕ → ℕ → ℕ → Met
met_from tape from left = met_in tape left (next_block tape (first_block (lines tape from)))

-- what is known of it: a jump that the text told has the words G27 and L and no other
abbrev pub JumpMeets : List ℕ → Jumping → Type 0
JumpMeets line (To n) = block_in line ≡ jump_words n
JumpMeets line Other = Unit {0}

-- a block whose words are told by its text, where so many may still begin
pub record Told (tape : List ℕ) (from left p after : ℕ) (b : Block) : Type 0 where
  pub first : first_block (lines tape from) ≡ At p
  pub words : block_on tape p ≡ b
  pub some : 0 < left
  pub behind : after ≡ (line_at tape p).after
  pub ends : after ≤ length tape

abbrev pub QuietMeets : List ℕ → ℕ → ℕ → Quiet → Type 0
QuietMeets tape from left quiet.Ended = first_block (lines tape from) ≡ Nowhere
QuietMeets tape from left (quiet.Bare p after) = Told tape from left p after no_words
QuietMeets tape from left (quiet.Jump p n after) = Told tape from left p after (jump_words n)

abbrev pub MetMeets : List ℕ → ℕ → ℕ → Met → Type 0
MetMeets tape from left (met.Known q) = QuietMeets tape from left q
MetMeets tape from left (met.Words l) = Next tape from l

-- a block that is begun is one of those that may be
abbrev pub Begun : ℕ → Quiet → Type 0
Begun left quiet.Ended = Unit {0}
Begun left (quiet.Bare p after) = 0 < left
Begun left (quiet.Jump p n after) = 0 < left

-- ---- what comes of it, as the code makes it of its parts
-- a step that an alarm stops, and one whose block is done
abbrev pub stopped_by : ℕ → ℕ → Run → ℕ → StepDone
stopped_by alarm place r after = record { onward = Stop alarm place; run = r; after = after }

abbrev pub went_by : Onward → State → Run → ℕ → ℕ → StepDone
went_by onward s r count after = record { onward = onward; run = record { state = s; blocks_left = r.blocks_left - 1; count = count }; after = after }

-- what a block asks of the runner, as the code looks it up: by the row of the table of places
unfoldable pub onward_in : List ℕ → Settings → Frame → ℕ → Block → Onward
onward_in row set f left b = cond (eqb left 0) (Stop too_many_begun f.at) (looked_up_in row set f (request_of b))

-- whatever a table has: as if the line that is sought were found in some way
pub record Asks (set : Settings) (f : Frame) (left : ℕ) (b : Block) (r : Onward) : Type 0 where
  pub found : Found
  pub asks : r ≡ cond (eqb left 0) (Stop too_many_begun f.at) (looked_by (λ _. found) (λ _. found) set f (request_of b))

-- where the records of a block come from, as the code has it: by the line that was found, and for a program's number of any size
abbrev pub origin_in : Frame → BlockAt → Origin
origin_in f l = record { program = f.program.number % sixteen_bits; block = l.number }

-- what comes of a jump alone, where that was looked up for it: the alarm leaves the run as it was
abbrev pub jumped_by : Onward → Frame → Run → ℕ → StepDone
jumped_by onward f r after = cond (eqb (alarm_by onward) 0) (went_by onward r.state r r.count after) (stopped_by (alarm_by onward) f.at r after)

pub record Jumped (row : List ℕ) (set : Settings) (f : Frame) (n : ℕ) (r : Run) (after : ℕ) (d : StepDone) : Type 0 where
  pub onward : Onward
  pub is : d ≡ jumped_by onward f r after
  pub looks : LooksUp set f (next.Jump n) onward
  pub found : Row row → onward ≡ looked_up_in row set f (next.Jump n)

-- what comes of a step that is taken without a block's words
abbrev pub QuietDone : List ℕ → Settings → Frame → Quiet → Run → StepDone → Type 0
QuietDone row set f quiet.Ended r d = d ≡ stopped_by wrong_end f.program.line r f.at
QuietDone row set f (quiet.Bare p after) r d = d ≡ passed_by r after
QuietDone row set f (quiet.Jump p n after) r d = Jumped row set (onto f p) n r after d

-- a refused block has nothing in hand
abbrev pub refused_by : ℕ → ℕ → Run → ℕ → Opened
refused_by alarm place r after = record { done = stopped_by alarm place r after; hand = Nothing }
