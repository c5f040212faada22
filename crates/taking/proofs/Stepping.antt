-- A step that is taken, refused or done: what the code makes of its parts is what is defined, and what is known before it is known after it.
-- Assumes nothing.
use mathlib.Core.Path.{◌≡◌, refl, sym, ap, ◌∙◌, subst}
use mathlib.Core.Bool.{Bool, true, false, cond, ◌||◌}
use mathlib.Core.List.{List, []}
use Prim.Native.Nat.{ℕ, zero, suc, ◌+◌, ◌-◌, ◌≤◌, ◌<◌}
use native.Mathlib.Omega.{arith}
use lib.Dec.{ltb, eqb}
use lib.IntN.{ℤ}
use lib.ListN.{length, take}
use borrow.Author.Tests.{eqb-true, eqb-false, eq-eqb, ne_eqb}
use Rattle.alarms.specs.Numbers.{too_many_begun, wrong_end}
use Rattle.alarms.specs.Given.{IsAlarm}
use Rattle.alarms.proofs.Above.{alarm_above}
use Rattle.moves.specs.Form.{stamped}
use Rattle.moves.specs.declared.Record.{Record}
use Rattle.moves.specs.declared.Origin.{Origin}
use Rattle.moves.proofs.OneReading.{length_stamped}
use Rattle.tape.specs.Lines.{line_at, lines}
use Rattle.numbers.proofs.Bounds.{cond_ind}
use Rattle.addresses.specs.Words.{lacks_point}
use Rattle.codes.specs.Codes.{g_code, m_code}
use Rattle.block.specs.Words.{slot_of, no_words, is_end, put_word}
use Rattle.block.specs.Slots.{has, code_in, g_in, m_in}
use Rattle.block.specs.declared.Block.{Block}
use Rattle.state.specs.Known.{Sound}
use Rattle.requests.specs.Request.{steered, flow_by, request_of}
use Rattle.requests.specs.declared.Request.{Request}
use Rattle.requests.specs.declared.Request.TheVariants as next
use Rattle.jumping.specs.Jumping.{jump_words}
use Rattle.places.specs.declared.Found.{Found}
use Rattle.places.specs.declared.Found.TheVariants.{At, Nowhere}
use Rattle.settings.specs.Wrong.{highest_subroutine}
use Rattle.settings.specs.declared.Settings.{Settings}
use Rattle.finding.specs.Finding.{first_block}
use Rattle.finding.specs.Finds.{Finds}
use Rattle.machine.specs.of_verdicts.Verdicts.{alarm_in}
use Rattle.machine.specs.Blocks.{done_records, done_state, block_records, outcome_of}
use Rattle.machine.specs.declared.BlockOutcome.TheVariants.{Done}
use Rattle.machine.proofs.Wordless.{wordless_records, wordless_done, jump_records, jump_done}
use Rattle.machine.proofs.Running.{was_done, done_few, done_recorded, sound_after}
use Rattle.ahead.specs.Ahead.{most_calls, onto, called_at, jumped_to, looked_by, looked_up, looked_up_in, LooksUp, FoundAt}
use Rattle.ahead.specs.declared.Frame.{Frame}
use Rattle.ahead.specs.declared.Onward.{Onward}
use Rattle.ahead.specs.declared.Onward.TheVariants.{On, Call, Jump, Return, End, Stop}
use Rattle.ahead.proofs.Places.{OnwardOn, looked_on, CallFound, looked_found, looked_same}
use Rattle.taking.specs.declared.Run.{Run}
use Rattle.taking.specs.declared.StepDone.{StepDone}
use Rattle.taking.specs.declared.Hand.{Hand}
use Rattle.taking.specs.declared.Hand.TheVariants as hand
use Rattle.taking.specs.declared.Opened.{Opened}
use Rattle.taking.specs.declared.quiet.Quiet.{Quiet}
use Rattle.taking.specs.declared.quiet.Quiet.TheVariants as quiet
use Rattle.taking.specs.Steps.{Task, task_in, block_on, onward_by, onward_of, alarm_by, alarm_at, run_after, done_at, records_at, passed_by, origin_at, listed_by, Taken, taken_by, taken_from}
use Rattle.taking.specs.Hands.{in_hand, HandSound, Able, Falls, Stays, Leads, Lawful, OpenMeets}
use Rattle.taking.specs.Meets.{Told, QuietMeets, Begun, stopped_by, went_by, onward_in, Asks, jumped_by, Jumped, QuietDone, refused_by}

-- ---- what a block asks of the runner
pub onward_on : (tape : List ℕ) (set : Settings) (first : ℕ) (f : Frame) (left : ℕ) (b : Block) → OnwardOn (length tape) (onward_by tape set first f left b)
unfolding onward_by
onward_on tape set first f left b = go (eqb left 0)
  where
    go : (t : Bool) → OnwardOn (length tape) (cond t (Stop too_many_begun f.at) (looked_up tape set first f (request_of b)))
    go true = refl
    go false = looked_on tape set first f (request_of b)

onward_found : (tape : List ℕ) (set : Settings) (first : ℕ) (f : Frame) (left : ℕ) (b : Block) → CallFound tape first (onward_by tape set first f left b)
unfolding onward_by
onward_found tape set first f left b = go (eqb left 0)
  where
    go : (t : Bool) → CallFound tape first (cond t (Stop too_many_begun f.at) (looked_up tape set first f (request_of b)))
    go true = tt
    go false = looked_found tape set first f (request_of b)

-- it is the same by the table of places
pub onward_same : (row tape : List ℕ) (first : ℕ) → Finds row tape first → (set : Settings) (f : Frame) → FoundAt tape first f.program → (left : ℕ) (b : Block)
    → onward_in row set f left b ≡ onward_by tape set first f left b
unfolding onward_in onward_by
onward_same row tape first t set f h left b = ap (cond (eqb left 0) (Stop too_many_begun f.at)) (looked_same row tape first t set f h (request_of b))

-- where it is no alarm, blocks are left to begin
begun_some : (left p : ℕ) (o : Onward) → alarm_by (cond (eqb left 0) (Stop too_many_begun p) o) ≡ 0 → 0 < left
unfolding alarm_by
begun_some zero p o e = absurd (omega (arith, e))
begun_some (suc n) p o e = omega arith

pub some_left : (tape : List ℕ) (set : Settings) (first : ℕ) (f : Frame) (left : ℕ) (b : Block) → alarm_by (onward_by tape set first f left b) ≡ 0 → 0 < left
unfolding onward_by
some_left tape set first f left b e = begun_some left f.at (looked_up tape set first f (request_of b)) e

-- one without words goes on
request_none : request_of no_words ≡ next.On
unfolding no_words has g_in m_in steered flow_by request_of
request_none = refl

onward_none : (tape : List ℕ) (set : Settings) (first : ℕ) (f : Frame) (left : ℕ) (b : Block) → b ≡ no_words → 0 < left → onward_by tape set first f left b ≡ On
unfolding onward_by looked_up looked_by
onward_none tape set first f left b e some =
    rw (ne_eqb left 0 (λ z. absurd (omega (arith, some, z)))) (ap (λ (x : Block). looked_up tape set first f (request_of x)) e ∙ ap (looked_up tape set first f) request_none)

quiet_on : alarm_by On ≡ 0
unfolding alarm_by
quiet_on = refl

-- a jump alone: what is looked up for it is what the block asks of the runner
jump_request : (n : ℕ) → request_of (jump_words n) ≡ next.Jump n
unfolding no_words g_code m_code slot_of is_end lacks_point put_word jump_words has code_in g_in m_in steered flow_by request_of
jump_request n = refl

jump_onward : (row tape : List ℕ) (first : ℕ) → Finds row tape first → (set : Settings) (f : Frame) → FoundAt tape first f.program → (left : ℕ) → 0 < left → (b : Block) (n : ℕ) → b ≡ jump_words n
    → looked_up_in row set f (next.Jump n) ≡ onward_by tape set first f left b
unfolding onward_in
jump_onward row tape first finds set f there left some b n e =
    ap (looked_up_in row set f) (sym (ap request_of e ∙ jump_request n))
    ∙ ap (λ (t : Bool). cond t (Stop too_many_begun f.at) (looked_up_in row set f (request_of b))) (sym (ne_eqb left 0 (λ z. absurd (omega (arith, some, z)))))
    ∙ onward_same row tape first finds set f there left b

-- where it is looked up on the tape, the places are on it
leads_of : (tape : List ℕ) (first : ℕ) (w : Onward) → OnwardOn (length tape) w → CallFound tape first w → Leads tape first w
leads_of tape first On h k = tt
leads_of tape first (Call p times) h k = k
leads_of tape first (Jump p) h k = omega (arith, h)
leads_of tape first Return h k = tt
leads_of tape first End h k = tt
leads_of tape first (Stop alarm place) h k = tt

-- ---- whatever a table of places has: where the runner is asked to stop, it is with an alarm
abbrev pub Stops : Onward → Type 0
Stops On = Unit {0}
Stops (Call p times) = Unit {0}
Stops (Jump p) = Unit {0}
Stops Return = Unit {0}
Stops End = Unit {0}
Stops (Stop alarm place) = IsAlarm false alarm

called_stops : (x : Found) (n : ℕ) (f : Frame) (times : ℕ) → Stops (called_at x n f times)
unfolding called_at
called_stops Nowhere n f times = refl
called_stops (At p) n f times = cond_ind Stops (eqb f.calls_left 0) _ (Call (record { number = n; line = p }) times) (λ _. refl) tt

looked_stops : (x : Found) (set : Settings) (f : Frame) (n : Request) → Stops (looked_by (λ _. x) (λ _. x) set f n)
unfolding looked_by jumped_to
looked_stops x set f next.On = tt
looked_stops x set f (next.Call n times) =
    cond_ind Stops (ltb n set.lowest_subroutine || ltb highest_subroutine n) _ (called_at x n f times) (λ _. refl) (called_stops x n f times)
looked_stops Nowhere set f (next.Jump n) = refl
looked_stops (At p) set f (next.Jump n) = tt
looked_stops x set f next.Return = cond_ind Stops (eqb f.calls_left most_calls) _ Return (λ _. refl) tt
looked_stops x set f next.End = cond_ind Stops (eqb f.calls_left most_calls) End _ (λ _. tt) refl

looks_stops : (set : Settings) (f : Frame) (n : Request) (w : Onward) → LooksUp set f n w → Stops w
looks_stops set f n w l = subst Stops (sym l.looks) (looked_stops l.found set f n)

module _ (set : Settings) (f : Frame) (left : ℕ) (b : Block) (w : Onward) (a : Asks set f left b w) where
  pub asks_stops : Stops w
  asks_stops = subst Stops (sym a.asks) (by (eqb left 0))
    where
      by : (t : Bool) → Stops (cond t (Stop too_many_begun f.at) (looked_by (λ _. a.found) (λ _. a.found) set f (request_of b)))
      by true = refl
      by false = looked_stops a.found set f (request_of b)

  pub asks_some : alarm_by w ≡ 0 → 0 < left
  asks_some e = begun_some left f.at _ (sym (ap alarm_by a.asks) ∙ e)

-- so that a step that is no alarm goes on
falls_of : (w : Onward) → Stops w → alarm_by w ≡ 0 → (r s : Run) → s.blocks_left < r.blocks_left → Falls w r s
unfolding alarm_by
falls_of On k e r s l = l
falls_of (Call p times) k e r s l = l
falls_of (Jump p) k e r s l = l
falls_of Return k e r s l = l
falls_of End k e r s l = l
falls_of (Stop alarm place) k e r s l = omega (arith, l)

stays_of : (w : Onward) → Stops w → alarm_by w ≡ 0 → (r s : Run) (h : Hand) → Stays w r s h
unfolding alarm_by
stays_of On k e r s h = tt
stays_of (Call p times) k e r s h = tt
stays_of (Jump p) k e r s h = tt
stays_of Return k e r s h = tt
stays_of End k e r s h = tt
stays_of (Stop alarm place) k e r s h = absurd (alarm_above false alarm k e)

-- ---- what a block comes to, by its alarm
module _ (t : Task) (f : Frame) (r : Run) where
  abbrev words : Block
  words = block_on t.tape f.at

  abbrev own : ℕ
  own = alarm_in t.table t.settings r.state words (t.room - r.count)

  -- a refused block
  module _ {a : ℕ} (is : alarm_at t f r ≡ a) (some : a ≡ 0 → ⊥) where
    not_zero : eqb (alarm_at t f r) 0 ≡ false
    not_zero = ne_eqb (alarm_at t f r) 0 (λ e. some (sym is ∙ e))

    no_records : records_at t f r ≡ []
    unfolding records_at
    no_records = rw not_zero refl

    done_refused : {after : ℕ} → after ≡ (line_at t.tape f.at).after → stopped_by a f.at r after ≡ done_at t f r
    unfolding done_at
    done_refused e = (λ i. record { onward = Stop (sym is i) f.at; run = r; after = e i }) ∙ rw not_zero refl

  -- by what it asks of the runner
  asked_is : {a : ℕ} → a ≡ alarm_by (onward_of t f r) → (a ≡ 0 → ⊥) → alarm_at t f r ≡ a
  unfolding alarm_at
  asked_is {a} e some = rw (ne_eqb (alarm_by (onward_of t f r)) 0 (λ z. some (e ∙ z))) (sym e)

  -- by its own alarm
  own_is : alarm_by (onward_of t f r) ≡ 0 → alarm_at t f r ≡ own
  unfolding alarm_at
  own_is fine = rw (eq-eqb (alarm_by (onward_of t f r)) 0 fine) refl

  -- a block that is done
  module _ (free : alarm_at t f r ≡ 0) where
    done_went : {w : Onward} {after : ℕ} → w ≡ onward_of t f r → after ≡ (line_at t.tape f.at).after
        → went_by w (done_state t.table t.settings r.state words) r (r.count + length (done_records t.table t.settings r.state words)) after ≡ done_at t f r
    unfolding run_after done_at
    done_went ew ea = (λ i. record { onward = ew i; run = run_after t f.at r; after = ea i }) ∙ rw (eq-eqb (alarm_at t f r) 0 free) refl

    records_done : records_at t f r ≡ done_records t.table t.settings r.state words
    unfolding records_at
    records_done = rw (eq-eqb (alarm_at t f r) 0 free) refl

-- ---- a step that is taken
stamped_none : (o : Origin) → stamped o [] ≡ []
unfolding stamped
stamped_none o = refl

taken_is : (t : Task) (f : Frame) (r : Run) {g : Found} → first_block (lines t.tape f.at) ≡ g → taken_from t f r ≡ taken_by t f r g
unfolding taken_from
taken_is t f r e = ap (taken_by t f r) e

module _ (tape : List ℕ) (table : List ℤ) (set : Settings) (places : List ℕ) (count room : ℕ) (f : Frame) (r : Run) (n : Able tape table set places count room f r) where
  abbrev task : ℕ → Task
  task first = task_in tape table set first room

  -- a step that stops: the run is as it was, and nothing is in hand
  stopped : {a place after : ℕ} → after ≤ length tape
      → ((first : ℕ) → Finds (take count places) tape first → FoundAt tape first f.program → Lawful (task first) f r (refused_by a place r after))
      → OpenMeets tape table set places count room f r (refused_by a place r after)
  unfolding in_hand
  stopped h lawful = record { lawful = lawful; sound = tt; state = n.state; few = n.few; counted = omega arith; left = omega arith; stays = (refl, refl); after = h }

  -- the program ends before a block
  pub ended : first_block (lines tape f.at) ≡ Nowhere → OpenMeets tape table set places count room f r (refused_by wrong_end f.program.line r f.at)
  unfolding taken_by in_hand stamped
  ended e = stopped n.here (λ first _ _.
      let is = taken_is (task first) f r e in
      record { done = ap (λ (y : Taken). y.done) (sym is); hand = ap (λ (y : Taken). listed_by y.step) (sym is); goes = tt })

  -- ---- the block at p
  module _ (p : ℕ) (here : first_block (lines tape f.at) ≡ At p) where
    abbrev there : Frame
    there = onto f p

    abbrev block : Block
    block = block_on tape p

    lawful_at : (first : ℕ) (d : Opened) → d.done ≡ done_at (task first) there r → in_hand d.hand ≡ stamped (origin_at tape there) (records_at (task first) there r) → Leads tape first d.done.onward
        → Lawful (task first) f r d
    unfolding taken_by
    lawful_at first d e h l =
        let is = taken_is (task first) f r here in
        record { done = e ∙ ap (λ (y : Taken). y.done) (sym is); hand = h ∙ ap (λ (y : Taken). listed_by y.step) (sym is); goes = l }

    -- refused
    refused : {a after : ℕ} → ((first : ℕ) → Finds (take count places) tape first → FoundAt tape first f.program → alarm_at (task first) there r ≡ a) → (a ≡ 0 → ⊥)
        → after ≡ (line_at tape p).after → after ≤ length tape → OpenMeets tape table set places count room f r (refused_by a p r after)
    unfolding in_hand
    refused is some e h = stopped h (λ first finds k.
        let same = is first finds k in
        lawful_at first _ (done_refused (task first) there r same some e)
        (sym (stamped_none (origin_at tape there)) ∙ ap (stamped (origin_at tape there)) (sym (no_records (task first) there r same some))) tt)

    module _ {w : Onward} (same : (first : ℕ) → Finds (take count places) tape first → FoundAt tape first f.program → w ≡ onward_of (task first) there r) {after : ℕ} (e : after ≡ (line_at tape p).after)
        (h : after ≤ length tape) where
      -- by what it asks of the runner
      pub refused_asked : {a : ℕ} → a ≡ alarm_by w → (a ≡ 0 → ⊥) → OpenMeets tape table set places count room f r (refused_by a p r after)
      refused_asked q some = refused (λ first finds k. asked_is (task first) there r (q ∙ ap alarm_by (same first finds k)) some) some e h

      module _ (fine : alarm_by w ≡ 0) where
        -- by its own alarm
        pub refused_own : {a : ℕ} → a ≡ alarm_in table set r.state block (room - r.count) → (a ≡ 0 → ⊥) → OpenMeets tape table set places count room f r (refused_by a p r after)
        refused_own q some = refused (λ first finds k. own_is (task first) there r (sym (ap alarm_by (same first finds k)) ∙ fine) ∙ sym q) some e h

        -- done
        module _ (some : 0 < r.blocks_left) (stops : Stops w) (well : alarm_in table set r.state block (room - r.count) ≡ 0) where
          abbrev records : List Record
          records = done_records table set r.state block

          abbrev came : StepDone
          came = went_by w (done_state table set r.state block) r (r.count + length records) after

          pub gone : (d : Opened) (o : Origin) → d.done ≡ came → in_hand d.hand ≡ stamped o records → HandSound d.hand → ((first : ℕ) → FoundAt tape first f.program → o ≡ origin_at tape there)
              → OpenMeets tape table set places count room f r d
          gone d o is in-hand held from =
              let few = done_few table set r.state block (room - r.count) well in
              let less : came.run.blocks_left < r.blocks_left = omega (arith, some) in
              record {
                lawful = λ first finds k.
                    let asked = same first finds k in
                    let free = own_is (task first) there r (sym (ap alarm_by asked) ∙ fine) ∙ well in
                    lawful_at first d (is ∙ done_went (task first) there r free asked e) (in-hand ∙ ap (λ (x : Origin). stamped x records) (from first k) ∙ ap (stamped (origin_at tape there)) (sym (records_done (task first) there r free)))
                    (subst (λ (x : StepDone). Leads tape first x.onward) (sym is) (leads_of tape first w
                    (subst (OnwardOn (length tape)) (sym asked) (onward_on tape set first there r.blocks_left block)) (subst (CallFound tape first) (sym asked) (onward_found tape set first there r.blocks_left block))));
                sound = held;
                state = subst (λ (x : StepDone). Sound x.run.state) (sym is) (sound_after table set r.state block (room - r.count) well n.range n.state);
                few = omega (arith, ap (λ (x : StepDone). x.run.count) is, few, n.few);
                counted = ap (λ (x : StepDone). x.run.count) is ∙ ap (λ (k : ℕ). r.count + k) (sym (ap length in-hand ∙ length_stamped o records));
                left = subst (λ (x : StepDone). Falls x.onward r x.run) (sym is) (falls_of w stops fine r came.run less);
                stays = subst (λ (x : StepDone). Stays x.onward r x.run d.hand) (sym is) (stays_of w stops fine r came.run d.hand);
                after = subst (λ (x : StepDone). x.after ≤ length tape) (sym is) h;
              }

    -- ---- a block that changes nothing and has no records
    quiet_gone : {w : Onward} → ((first : ℕ) → Finds (take count places) tape first → FoundAt tape first f.program → w ≡ onward_of (task first) there r) → {after : ℕ} → after ≡ (line_at tape p).after
        → after ≤ length tape → alarm_by w ≡ 0 → 0 < r.blocks_left → Stops w → outcome_of table set r.state block room r.count ≡ Done (record { state = r.state; count = r.count })
        → block_records table set r.state block (room - r.count) ≡ [] → OpenMeets tape table set places count room f r (record { done = went_by w r.state r r.count after; hand = hand.Nothing })
    unfolding in_hand
    quiet_gone {w} same {after} e h fine some stops is none =
        let was = was_done table set r.state block room r.count is in
        let empty : done_records table set r.state block ≡ [] = sym (done_recorded table set r.state block (room - r.count) was.well) ∙ none in
        gone same e h fine some stops was.well _ (origin_at tape there) (λ i. went_by w (was.state i) r (was.count i) after)
        (sym (stamped_none (origin_at tape there)) ∙ ap (stamped (origin_at tape there)) (sym empty)) tt (λ _ _. refl)

  -- a block without words is passed
  pub passed : (p : ℕ) {after : ℕ} → Told tape f.at r.blocks_left p after no_words → OpenMeets tape table set places count room f r (record { done = passed_by r after; hand = hand.Nothing })
  passed p t =
      quiet_gone p t.first (λ first _ _. sym (onward_none tape set first (onto f p) r.blocks_left (block_on tape p) t.words t.some)) t.behind t.ends quiet_on t.some tt
      (ap (λ (x : Block). outcome_of table set r.state x room r.count) t.words ∙ wordless_done table set r.state n.state room r.count)
      (ap (λ (x : Block). block_records table set r.state x (room - r.count)) t.words ∙ wordless_records table set r.state n.state (room - r.count))

  -- a jump alone
  pub jumped : (p k : ℕ) {after : ℕ} → Told tape f.at r.blocks_left p after (jump_words k) → {d : StepDone} → Jumped (take count places) set (onto f p) k r after d
      → OpenMeets tape table set places count room f r (record { done = d; hand = hand.Nothing })
  jumped p k {after} t {d} j = subst (λ (x : StepDone). OpenMeets tape table set places count room f r (record { done = x; hand = hand.Nothing })) (sym j.is) (by (eqb (alarm_by w) 0) refl)
    where
      w : Onward
      w = j.onward

      same : (first : ℕ) → Finds (take count places) tape first → FoundAt tape first f.program → w ≡ onward_of (task first) (onto f p) r
      same first finds k' = j.found finds.ascends ∙ jump_onward (take count places) tape first finds set (onto f p) k' r.blocks_left t.some (block_on tape p) k t.words

      by : (y : Bool) → eqb (alarm_by w) 0 ≡ y
          → OpenMeets tape table set places count room f r (record { done = cond y (went_by w r.state r r.count after) (stopped_by (alarm_by w) p r after); hand = hand.Nothing })
      by true q =
          quiet_gone p t.first same t.behind t.ends (eqb-true (alarm_by w) 0 q) t.some (looks_stops set (onto f p) (next.Jump k) w j.looks)
          (ap (λ (x : Block). outcome_of table set r.state x room r.count) t.words ∙ jump_done table set r.state n.state k room r.count)
          (ap (λ (x : Block). block_records table set r.state x (room - r.count)) t.words ∙ jump_records table set r.state n.state k (room - r.count))
      by false q = refused_asked p t.first same t.behind t.ends refl (eqb-false (alarm_by w) 0 q)

  -- ---- A STEP WITHOUT A BLOCK'S WORDS, as it is met and done
  pub quiet_opens : (q : Quiet) → QuietMeets tape f.at r.blocks_left q → {d : StepDone} → QuietDone (take count places) set f q r d
      → OpenMeets tape table set places count room f r (record { done = d; hand = hand.Nothing })
  quiet_opens quiet.Ended m e = subst (λ (x : StepDone). OpenMeets tape table set places count room f r (record { done = x; hand = hand.Nothing })) (sym e) (ended m)
  quiet_opens (quiet.Bare p after) m e = subst (λ (x : StepDone). OpenMeets tape table set places count room f r (record { done = x; hand = hand.Nothing })) (sym e) (passed p m)
  quiet_opens (quiet.Jump p k after) m j = jumped p k m j

-- ---- what the code makes of what was looked up for a jump
module _ (o : Onward) (f : Frame) (r : Run) (after : ℕ) where
  pub jump_refused : {a : ℕ} → a ≡ alarm_by o → (a ≡ 0 → ⊥) → stopped_by a f.at r after ≡ jumped_by o f r after
  jump_refused {a} e some =
      (λ i. stopped_by (e i) f.at r after)
      ∙ ap (λ (y : Bool). cond y (went_by o r.state r r.count after) (stopped_by (alarm_by o) f.at r after)) (sym (ne_eqb (alarm_by o) 0 (λ z. some (e ∙ z))))

  pub jump_went : alarm_by o ≡ 0 → went_by o r.state r r.count after ≡ jumped_by o f r after
  jump_went fine = ap (λ (y : Bool). cond y (went_by o r.state r r.count after) (stopped_by (alarm_by o) f.at r after)) (sym (eq-eqb (alarm_by o) 0 fine))

-- ---- a block that is begun is one of those that may be
pub quiet_begun : (tape : List ℕ) (from left : ℕ) (q : Quiet) → QuietMeets tape from left q → Begun left q
quiet_begun tape from left quiet.Ended m = tt
quiet_begun tape from left (quiet.Bare p after) m = m.some
quiet_begun tape from left (quiet.Jump p n after) m = m.some
