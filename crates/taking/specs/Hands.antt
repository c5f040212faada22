-- A step that is taken without a buffer: what it asks for, what it hands over, and what is known of it. What a step is stands in Steps.antt.
use Rattle.std.specs.Prelude.{◌≡◌, List, [], ℕ, ◌+◌, ◌≤◌, ◌<◌, ℤ, length, take}
use Rattle.moves.specs.Form.{record_limit, stamped}
use Rattle.moves.specs.declared.Listed.{Listed}
use Rattle.settings.specs.Known.{Table, InRange}
use Rattle.settings.specs.declared.Settings.{Settings}
use Rattle.finding.specs.Finds.{Finds}
use Rattle.state.specs.Known.{Sound}
use Rattle.machine.specs.of_stages.Cursor as cursor
use Rattle.ahead.specs.Ahead.{FoundAt}
use Rattle.ahead.specs.declared.Frame.{Frame}
use Rattle.ahead.specs.declared.Onward.{Onward}
use Rattle.ahead.specs.declared.Onward.TheVariants.{On, Call, Jump, Return, End, Stop}
use Rattle.taking.specs.declared.Run.{Run}
use Rattle.taking.specs.declared.Hand.{Hand}
use Rattle.taking.specs.declared.Hand.TheVariants.{Nothing, Block}
use Rattle.taking.specs.declared.Opened.{Opened}
use Rattle.taking.specs.Steps.{Task, task_in, listed_by, taken_from}

-- ---- WHAT IS IN HAND: the records of a block that was opened, each with the block that it came from
unfoldable pub in_hand : Hand → List Listed
in_hand Nothing = []
in_hand (Block c o) = stamped o (cursor.rest_of c.plan c.due)

-- what is kept of it: the cursor's own
abbrev pub HandSound : Hand → Type 0
HandSound Nothing = Unit {0}
HandSound (Block c o) = cursor.Sound c.plan c.due

-- ---- before it
-- all that a step asks for. Each of these can be asked for where a run comes from elsewhere: nothing is said of the entries of the table of places, nor of the frame's program
pub record Able (tape : List ℕ) (table : List ℤ) (set : Settings) (places : List ℕ) (count room : ℕ) (f : Frame) (r : Run) : Type 0 where
  pub offsets : Table table
  pub range : InRange set
  pub filled : count ≤ length places
  pub limit : room ≤ record_limit
  pub state : Sound r.state
  pub few : r.count ≤ room
  pub here : f.at ≤ length tape

-- ---- after it
-- a block that was done leaves one fewer to begin
abbrev pub Falls : Onward → Run → Run → Type 0
Falls On r s = s.blocks_left < r.blocks_left
Falls (Call p times) r s = s.blocks_left < r.blocks_left
Falls (Jump p) r s = s.blocks_left < r.blocks_left
Falls Return r s = s.blocks_left < r.blocks_left
Falls End r s = s.blocks_left < r.blocks_left
Falls (Stop alarm place) r s = s.blocks_left ≤ r.blocks_left

-- a step that stops leaves the run as it was, and has nothing in hand
abbrev pub Stays : Onward → Run → Run → Hand → Type 0
Stays On r s h = Unit {0}
Stays (Call p times) r s h = Unit {0}
Stays (Jump p) r s h = Unit {0}
Stays Return r s h = Unit {0}
Stays End r s h = Unit {0}
Stays (Stop alarm place) r s h = (s ≡ r) × (h ≡ Nothing)

-- a program that is called and the place that is jumped to are on the tape
abbrev pub Leads : List ℕ → ℕ → Onward → Type 0
Leads tape first On = Unit {0}
Leads tape first (Call p times) = FoundAt tape first p
Leads tape first (Jump p) = p ≤ length tape
Leads tape first Return = Unit {0}
Leads tape first End = Unit {0}
Leads tape first (Stop alarm place) = Unit {0}

-- THE STEP IS THE ONE THAT IS DEFINED, and what is in hand are its records
pub record Lawful (t : Task) (f : Frame) (r : Run) (d : Opened) : Type 0 where
  pub done : d.done ≡ (taken_from t f r).done
  pub hand : in_hand d.hand ≡ listed_by (taken_from t f r).step
  pub goes : Leads t.tape t.first d.done.onward

-- a step that was taken. That it is the one that is defined is said where what is looked up in the table of places is what the walk along the tape finds, and where the frame's program is on the
-- tape; what is needed to go on, in any case
pub record OpenMeets (tape : List ℕ) (table : List ℤ) (set : Settings) (places : List ℕ) (count room : ℕ) (f : Frame) (r : Run) (d : Opened) : Type 0 where
  pub lawful : (first : ℕ) → Finds (take count places) tape first → FoundAt tape first f.program → Lawful (task_in tape table set first room) f r d
  pub sound : HandSound d.hand
  pub state : Sound d.done.run.state
  pub few : d.done.run.count ≤ room
  pub counted : d.done.run.count ≡ r.count + length (in_hand d.hand)
  pub left : Falls d.done.onward r d.done.run
  pub stays : Stays d.done.onward r d.done.run d.hand
  pub after : d.done.after ≤ length tape
