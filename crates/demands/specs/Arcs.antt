-- THE PROMISE OF ARCS, of every run. 02, request 4: "The soft limits hold for the end and for every quadrant point, on the circle through the start, that the arc crosses between its ends. The team
-- proves that each point of the arc on that circle, its place given by fractions, then stays within the limits widened by 10 micrometres per side." What that says of a row of records is `ArcsKeep`: each
-- arc is read off two records, and starts where the records before it leave the axes.
use Rattle.std.specs.Prelude.{◌≡◌, Bool, true, cond, List, [], ◌∷◌, ◌++◌, ℕ, ℤ, length}
use Rattle.whole.specs.Among.{among}
use Rattle.moves.specs.Kinds.{tool_kind, miscellaneous_kind, speed_kind}
use Rattle.moves.specs.Reading.{records_in}
use Rattle.moves.specs.declared.Record.{Record}
use Rattle.codes.specs.declared.Motion.TheVariants as motion
use Rattle.acts.specs.declared.Kept.TheVariants as kept
use Rattle.block.specs.Slots.{path_slots, any_in}
use Rattle.block.specs.declared.Block.{Block}
use Rattle.settings.specs.declared.Settings.{Settings}
use Rattle.arcs.specs.Arcs.{arc_records}
use Rattle.straying.specs.Rows.{ArcsKeep}
use Rattle.arcs.specs.declared.Arc.{Arc}
use Rattle.state.specs.Modal.{block_motion, settled}
use Rattle.targets.specs.Target.{offset_of}
use Rattle.state.specs.declared.State.{State}
use Rattle.scaling.specs.Wanted.{arc_wanted}
use Rattle.interpreter.specs.of_taking.Steps.{Task, Step, block_on}
use Rattle.interpreter.specs.of_runners.Runs.{records_of}
use Rattle.interpreter.specs.of_answers.Answers.{count_of}
use Rattle.interpreter.specs.Answers.{Result, interpretation, laid_by, buffer_of}
use Rattle.demands.specs.Demands.{Each, EachFrom, StandsIn, task}

-- what is owed of a result: of the records of all its steps, from where the settings start, those before an alarm too
abbrev pub ArcsOwed : Settings → Result → Type 0
ArcsOwed set x = ArcsKeep set.limits set.x set.z (records_of x.steps)

-- and of the records that are read off the bytes of the buffer b after it, as many as its answer tells
abbrev pub ArcsOwedIn : Settings → List ℕ → Result → Type 0
ArcsOwedIn set b x = ArcsKeep set.limits set.x set.z (records_in (laid_by x b) 0 (count_of x.answer))

-- of every tape, table, settings, length of the table of places, and length of the buffer or buffer b
abbrev pub ArcPromise : List ℕ → List ℤ → Settings → ℕ → ℕ → Type 0
ArcPromise tape table set size bytes = ArcsOwed set (interpretation tape table set size bytes)

abbrev pub ArcPromiseInBuffer : List ℕ → List ℤ → Settings → ℕ → List ℕ → Type 0
ArcPromiseInBuffer tape table set size b = ArcsOwedIn set b (interpretation tape table set size (length b))

-- ---- which arc a block asks for: read off its words and the state before it, and not off what the block did
-- "G02 and G03 are kept .. and want a path word as G01 does": the block's motion, its own or the kept one, is G02 where the arc is clockwise, else G03, and it has a path word
pub record OpensArc (clockwise : Bool) (s : State) (b : Block) : Type 0 where
  pub motion : block_motion s.motion b ≡ kept.Of (cond clockwise motion.Clockwise motion.Counterclockwise)
  pub path : any_in b path_slots ≡ true

-- in the state s before the block, as `wanted_in` is
unfoldable pub arc_in : Bool → List ℤ → State → Block → Arc
arc_in clockwise table s b = arc_wanted clockwise b (settled s b) (offset_of table (settled s b))

-- the other records of its block: a tool, an M or a speed, at a place
pub record Beside (x z : ℤ) (r : Record) : Type 0 where
  pub kind : among r.kind (tool_kind ∷ miscellaneous_kind ∷ speed_kind ∷ []) ≡ true
  pub on_x : r.x ≡ x
  pub on_z : r.z ≡ z

abbrev pub AllBeside : ℤ → ℤ → List Record → Type 0
AllBeside x z [] = Unit {0}
AllBeside x z (r ∷ rs) = Beside x z r × AllBeside x z rs

-- the records of a block that asks for the arc a: its two records, one behind the other, those before them where it starts, and those behind them where it ends
pub record ArcWritten (a : Arc) (f : ℕ) (g95 : Bool) (rs : List Record) : Type 0 where
  pub before : List Record
  pub behind : List Record
  pub are : rs ≡ before ++ (arc_records a f g95 ++ behind)
  pub starts : AllBeside a.start.x a.start.z before
  pub ends : AllBeside a.end.x a.end.z behind

-- with the feed that the block's own words leave in force
abbrev pub Written : Bool → List ℤ → State → Block → List Record → Type 0
Written clockwise table s b rs = ArcWritten (arc_in clockwise table s b) (settled s b).f (settled s b).g95 rs

-- a step whose block asks for an arc has written that arc
abbrev pub Rounds : Task → Step → Type 0
Rounds t st =
    (clockwise : Bool) → OpensArc clockwise st.before.state (block_on t.tape st.place)
    → Written clockwise t.table st.before.state (block_on t.tape st.place) st.records

abbrev pub ArcsWritten : List ℕ → List ℤ → Settings → ℕ → ℕ → Type 0
ArcsWritten tape table set size bytes = Each (Rounds (task tape table set size bytes)) (interpretation tape table set size bytes).steps

-- in the buffer: it starts where the records before it have left the axes, and its records are that arc's
pub record WrittenIn (clockwise : Bool) (t : Task) (e : List ℕ) (st : Step) (k : ℕ) : Type 0 where
  pub stands : StandsIn t e st k
  pub written : Written clockwise t.table st.before.state (block_on t.tape st.place) (records_in e k (length st.records))

abbrev pub RoundsIn : Task → List ℕ → Step → ℕ → Type 0
RoundsIn t e st k = (clockwise : Bool) → OpensArc clockwise st.before.state (block_on t.tape st.place) → WrittenIn clockwise t e st k

abbrev pub ArcsWrittenInBuffer : List ℕ → List ℤ → Settings → ℕ → List ℕ → Type 0
ArcsWrittenInBuffer tape table set size b =
    EachFrom (RoundsIn (task tape table set size (length b)) (buffer_of tape table set size b)) 0 (interpretation tape table set size (length b)).steps
