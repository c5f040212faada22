-- The program and the block of every step are those of the tape. The induction goes along the fuel, the calls, the repeats and the returns, as that of Linked.antt does.
-- Assumes nothing.
use mathlib.Core.Path.{◌≡◌, refl, sym, ap, ◌∙◌, subst}
use mathlib.Core.Bool.{Bool, true, false, cond, ◌||◌}
use mathlib.Core.List.{List, [], ◌∷◌, ◌++◌}
use Prim.Native.Nat.{ℕ, zero, suc, ◌<◌}
use native.Mathlib.Omega.{arith}
use lib.Dec.{ltb, eqb}
use lib.ListN.{length}
use borrow.Author.Tests.{eqb-true}
use Rattle.moves.specs.Form.{FittingOrigin}
use Rattle.tape.specs.Lines.{text_at, line_at, lines_up, lines}
use Rattle.numbers.proofs.Bounds.{cond_ind}
use Rattle.block.specs.Words.{head_of}
use Rattle.block.specs.declared.Head.{Head}
use Rattle.block.specs.declared.Head.TheVariants.{Blank, ProgramLine, BlockLine, Other}
use Rattle.block.proofs.Heads.{HeadIn, head_in}
use Rattle.settings.specs.Wrong.{highest_subroutine}
use Rattle.settings.specs.declared.Settings.{Settings}
use Rattle.finding.specs.Finding.{Sought, Program, Block, AnyBlock, here_of, found_by, seek_line, find_program, first_block, block_of_program, block_number}
use Rattle.finding.specs.declared.Here.{Here}
use Rattle.finding.specs.declared.Here.TheVariants as line
use Rattle.finding.proofs.Searching.{is_block}
use Rattle.places.specs.declared.Found.{Found}
use Rattle.places.specs.declared.Found.TheVariants.{At, Nowhere}
use Rattle.requests.specs.Request.{request_of}
use Rattle.requests.specs.declared.Request.{Request}
use Rattle.requests.specs.declared.Request.TheVariants as next
use Rattle.alarms.specs.Numbers.{too_many_begun}
use Rattle.ahead.specs.Ahead.{most_calls, called_at, jumped_to, looked_by, looked_up, FoundAt}
use Rattle.ahead.specs.declared.ProgramAt.{ProgramAt}
use Rattle.ahead.specs.declared.Frame.{Frame}
use Rattle.ahead.specs.declared.Onward.{Onward}
use Rattle.ahead.specs.declared.Onward.TheVariants.{On, Call, Jump, Return, End, Stop}
use Rattle.interpreter.specs.of_taking.declared.StepDone.{StepDone}
use Rattle.interpreter.specs.of_taking.declared.Run.{Run}
use Rattle.interpreter.specs.of_taking.Steps.{Task, Step, block_on, onward_by, onward_of, alarm_at, run_after, done_at, origin_at, taken_by, taken_from}
use Rattle.interpreter.specs.of_runners.Runs.{Ran, pre, go_back, and_then, go_on, onward, blocks, enough, repeated, called, entry, program_run}
use Rattle.interpreter.specs.of_runners.declared.Ending.{Ending}
use Rattle.interpreter.specs.of_runners.declared.Ending.TheVariants.{Returned, Ended, Stopped}
use Rattle.demands.specs.Demands.{Each}
use Rattle.demands.specs.Origins.{is_program_line, Reaches, arrived, passing, CameFrom}
use Rattle.demands.proofs.Linked.{done_free, done_alarm}

-- ---- what a search has found
no_place : (p : ℕ) → Nowhere ≡ At p → ⊥
no_place p e = subst nowhere e tt
  where
    nowhere : Found → Type 0
    nowhere Nowhere = Unit {0}
    nowhere (At q) = ⊥

same_place : (p q : ℕ) → At p ≡ At q → p ≡ q
same_place p q e = ap place e
  where
    place : Found → ℕ
    place (At n) = n
    place Nowhere = 0

-- one line of a search, by what it is to it: G follows where it is the one that was sought, and where it is passed
one_line : (w : Sought) (s : List ℕ) (a p : ℕ) (rest : Found) (G : Type 0) → (here_of w (head_of (text_at s a).bytes) ≡ line.Is → a ≡ p → G) → (here_of w (head_of (text_at s a).bytes) ≡ line.On → rest ≡ At p → G)
    → (h : Here) → here_of w (head_of (text_at s a).bytes) ≡ h → found_by h a rest ≡ At p → G
unfolding found_by
one_line w s a p rest G is on line.Is g f = is g (same_place a p f)
one_line w s a p rest G is on line.Ends g f = absurd (no_place p f)
one_line w s a p rest G is on line.On g f = on g f

some_lines : (w : Sought) (k : ℕ) (s : List ℕ) (a p : ℕ) (G : Type 0) → (here_of w (head_of (text_at s a).bytes) ≡ line.Is → a ≡ p → G)
    → (here_of w (head_of (text_at s a).bytes) ≡ line.On → seek_line w (lines_up k s (line_at s a).after) ≡ At p → G) → (t : Bool)
    → seek_line w (cond t (text_at s a ∷ lines_up k s (line_at s a).after) []) ≡ At p → G
unfolding seek_line
some_lines w k s a p G is on true e = one_line w s a p (seek_line w (lines_up k s (line_at s a).after)) G is on (here_of w (head_of (text_at s a).bytes)) refl e
some_lines w k s a p G is on false e = absurd (no_place p e)

-- the line at the place that was found is the one that was sought
up_here : (w : Sought) (k : ℕ) (s : List ℕ) (a p : ℕ) → seek_line w (lines_up k s a) ≡ At p → here_of w (head_of (text_at s p).bytes) ≡ line.Is
unfolding lines_up seek_line
up_here w zero s a p e = absurd (no_place p e)
up_here w (suc k) s a p e =
    some_lines w k s a p (here_of w (head_of (text_at s p).bytes) ≡ line.Is) (λ is same. subst (λ (q : ℕ). here_of w (head_of (text_at s q).bytes) ≡ line.Is) same is)
    (λ _ f. up_here w k s (line_at s a).after p f) (ltb a (length s)) e

seek_here : (w : Sought) (s : List ℕ) (a p : ℕ) → seek_line w (lines s a) ≡ At p → here_of w (head_of (text_at s p).bytes) ≡ line.Is
unfolding lines
seek_here w s a p e = up_here w (length s) s a p e

-- and a search that a program line ends has passed none
abbrev Within : Sought → Type 0
Within w = (n : ℕ) → here_of w (ProgramLine n) ≡ line.Ends

not_on : line.Ends ≡ line.On → ⊥
not_on e = subst ends e tt
  where
    ends : Here → Type 0
    ends line.Ends = Unit {0}
    ends line.Is = ⊥
    ends line.On = ⊥

none_passed : (w : Sought) → Within w → (h : Head) → here_of w h ≡ line.On → is_program_line h ≡ false
none_passed w e (ProgramLine n) f = absurd (not_on (sym (e n) ∙ f))
none_passed w e (BlockLine n) f = refl
none_passed w e Blank f = refl
none_passed w e (Other lacks) f = refl

up_reaches : (w : Sought) → Within w → (k : ℕ) (s : List ℕ) (a p : ℕ) → seek_line w (lines_up k s a) ≡ At p → Reaches s p a
unfolding lines_up seek_line
up_reaches w i zero s a p e = absurd (no_place p e)
up_reaches w i (suc k) s a p e =
    some_lines w k s a p (Reaches s p a) (λ _ same. subst (Reaches s p) (sym same) arrived)
    (λ passed f. passing (none_passed w i (head_of (text_at s a).bytes) passed) (up_reaches w i k s (line_at s a).after p f)) (ltb a (length s)) e

seek_reaches : (w : Sought) → Within w → (s : List ℕ) (a p : ℕ) → seek_line w (lines s a) ≡ At p → Reaches s p a
unfolding lines
seek_reaches w i s a p e = up_reaches w i (length s) s a p e

reaches_on : {s : List ℕ} {p b a : ℕ} → Reaches s b a → Reaches s p b → Reaches s p a
reaches_on arrived k = k
reaches_on (passing n h) k = passing n (reaches_on h k)

any_within : Within AnyBlock
unfolding here_of
any_within n = refl

block_within : (m : ℕ) → Within (Block m)
unfolding here_of
block_within m n = refl

-- ---- a program that was found, and the next block of it
not_is : line.On ≡ line.Is → ⊥
not_is e = subst on_only e tt
  where
    on_only : Here → Type 0
    on_only line.On = Unit {0}
    on_only line.Is = ⊥
    on_only line.Ends = ⊥

is_program : (n : ℕ) (h : Head) → here_of (Program n) h ≡ line.Is → h ≡ ProgramLine n
unfolding here_of
is_program n (ProgramLine k) e = by (eqb k n) refl e
  where
    by : (t : Bool) → eqb k n ≡ t → cond t line.Is line.On ≡ line.Is → ProgramLine k ≡ ProgramLine n
    by true f g = ap ProgramLine (eqb-true k n f)
    by false f g = absurd (not_is g)
is_program n (BlockLine k) e = absurd (not_is e)
is_program n Blank e = absurd (not_is e)
is_program n (Other lacks) e = absurd (not_is e)

module _ (tape : List ℕ) (first : ℕ) (program : ProgramAt) (found : FoundAt tape first program) where
  -- the line behind the program's
  abbrev begin : ℕ
  begin = (line_at tape program.line).after

  program_line : head_of (text_at tape program.line).bytes ≡ ProgramLine program.number
  program_line = is_program program.number (head_of (text_at tape program.line).bytes) (seek_here (Program program.number) tape first program.line found)

  module _ (from p : ℕ) (within : Reaches tape from begin) (next : first_block (lines tape from) ≡ At p) where
    abbrev head : Head
    head = head_of (text_at tape p).bytes

    block_line : head ≡ BlockLine (block_number head)
    block_line = let n = is_block head (seek_here AnyBlock tape from p next) in n.1 ∙ ap BlockLine (sym (ap block_number n.1))

    reached : Reaches tape p begin
    reached = reaches_on within (seek_reaches AnyBlock any_within tape from p next)

    behind : Reaches tape (line_at tape p).after begin
    behind = reaches_on reached (passing (ap is_program_line block_line) arrived)

came : (t : Task) (program : ProgramAt) (found : FoundAt t.tape t.first program) (from p : ℕ) (within : Reaches t.tape from (line_at t.tape program.line).after)
    (next : first_block (lines t.tape from) ≡ At p) (calls : ℕ) (r : Run) → CameFrom t (taken_by t (record { program = program; calls_left = calls; at = from }) r (At p)).step
unfolding taken_by origin_at
came t program found from p within next calls r = record {
  line = program.line;
  there = found;
  program = program_line t.tape t.first program found;
  inside = reached t.tape t.first program found from p within next;
  block = block_line t.tape t.first program found from p within next;
}

-- ---- what a block asks for: a program that was found, and a line of the same program
abbrev Asks : List ℕ → ℕ → ℕ → Onward → Type 0
Asks tape first l On = Unit {0}
Asks tape first l (Call p times) = FoundAt tape first p
Asks tape first l (Jump p) = Reaches tape p (line_at tape l).after
Asks tape first l Return = Unit {0}
Asks tape first l End = Unit {0}
Asks tape first l (Stop alarm place) = Unit {0}

module _ (tape : List ℕ) (first : ℕ) (f : Frame) where
  abbrev Asked : Onward → Type 0
  Asked w = Asks tape first f.program.line w

  called_asks : (g : Found) (n times : ℕ) → find_program n (lines tape first) ≡ g → Asked (called_at g n f times)
  unfolding called_at
  called_asks Nowhere n times h = tt
  called_asks (At p) n times h = cond_ind Asked (eqb f.calls_left 0) _ (Call (record { number = n; line = p }) times) (λ _. tt) h

  jumped_asks : (g : Found) (n : ℕ) → block_of_program n tape f.program.line ≡ g → Asked (jumped_to g f)
  unfolding jumped_to block_of_program
  jumped_asks Nowhere n h = tt
  jumped_asks (At p) n h = seek_reaches (Block n) (block_within n) tape (line_at tape f.program.line).after p h

  looked_asks : (set : Settings) (n : Request) → Asked (looked_up tape set first f n)
  unfolding looked_up looked_by
  looked_asks set next.On = tt
  looked_asks set (next.Call n times) =
      cond_ind Asked (ltb n set.lowest_subroutine || ltb highest_subroutine n) _ (called_at (find_program n (lines tape first)) n f times) (λ _. tt) (called_asks (find_program n (lines tape first)) n times refl)
  looked_asks set (next.Jump n) = jumped_asks (block_of_program n tape f.program.line) n refl
  looked_asks set next.Return = cond_ind Asked (eqb f.calls_left most_calls) _ Return (λ _. tt) tt
  looked_asks set next.End = cond_ind Asked (eqb f.calls_left most_calls) End _ (λ _. tt) tt

onward_asks : (t : Task) (f : Frame) (r : Run) → Asks t.tape t.first f.program.line (onward_of t f r)
unfolding onward_by
onward_asks t f r =
    cond_ind (Asks t.tape t.first f.program.line) (eqb r.blocks_left 0) (Stop too_many_begun f.at) (looked_up t.tape t.settings t.first f (request_of (block_on t.tape f.at))) (λ _. tt)
    (looked_asks t.tape t.first f t.settings (request_of (block_on t.tape f.at)))

-- ---- the steps of a run
abbrev Comes : Task → Ran → Type 0
Comes t x = Each (CameFrom t) x.steps

pub each_append : (P : Step → Type 0) (v w : List Step) → Each P v → Each P w → Each P (v ++ w)
unfolding Each
each_append P [] w h k = k
each_append P (st ∷ v) w h k = (h.0, each_append P v w h.1 k)

one_step : (P : Step → Type 0) (st : Step) → P st → Each P (st ∷ [])
unfolding Each
one_step P st h = (h, tt)

none_came : (t : Task) → Each (CameFrom t) []
unfolding Each
none_came t = tt

comes_pre : (t : Task) (v : List Step) (x : Ran) → Each (CameFrom t) v → Comes t x → Comes t (pre v x)
unfolding pre
comes_pre t v x h k = each_append (CameFrom t) v x.steps h k

comes_back : (t : Task) (h : Ending) (x : Ran) (k : Run → Ran) → Comes t x → ((q : Run) → Comes t (k q)) → Comes t (go_back h x k)
unfolding go_back
comes_back t Returned x k p f = comes_pre t x.steps (k x.outcome.run) p (f x.outcome.run)
comes_back t Ended x k p f = p
comes_back t (Stopped alarm place) x k p f = p

comes_then : (t : Task) (x : Ran) (k : Run → Ran) → Comes t x → ((q : Run) → Comes t (k q)) → Comes t (and_then x k)
unfolding and_then
comes_then t x k p f = comes_back t x.outcome.ending x k p f

module _ (t : Task) (program : ProgramAt) (calls : ℕ) (found : FoundAt t.tape t.first program) (call : ProgramAt → ℕ → Run → Ran)
    (call_comes : (p : ProgramAt) (n : ℕ) (r : Run) → FoundAt t.tape t.first p → Comes t (call p n r)) where
  abbrev start : ℕ
  start = (line_at t.tape program.line).after

  abbrev frame : ℕ → Frame
  frame at = record { program = program; calls_left = calls; at = at }

  module _ (k : ℕ → Run → Ran) (f : (p : ℕ) (q : Run) → Reaches t.tape p start → Comes t (k p q)) where
    went : (w : Onward) (q : Run) (after : ℕ) (st : Step) → Reaches t.tape after start → CameFrom t st → Asks t.tape t.first program.line w → Comes t (go_on call k w q after st)
    unfolding go_on
    went On q after st r c a = comes_pre t (st ∷ []) (k after q) (one_step (CameFrom t) st c) (f after q r)
    went (Jump p) q after st r c a = comes_pre t (st ∷ []) (k p q) (one_step (CameFrom t) st c) (f p q a)
    went (Call p n) q after st r c a =
        comes_pre t (st ∷ []) (and_then (call p n q) (k after)) (one_step (CameFrom t) st c) (comes_then t (call p n q) (k after) (call_comes p n q a) (λ u. f after u r))
    went Return q after st r c a = one_step (CameFrom t) st c
    went End q after st r c a = one_step (CameFrom t) st c
    went (Stop alarm place) q after st r c a = none_came t

    -- a block that was found, done or refused
    by_alarm : (from p : ℕ) (r : Run) (st : Step) → Reaches t.tape (line_at t.tape p).after start → CameFrom t st → (a : ℕ) → alarm_at t (frame p) r ≡ a
        → Comes t (go_on call k (done_at t (frame p) r).onward (done_at t (frame p) r).run (done_at t (frame p) r).after st)
    by_alarm from p r st h c zero e =
        subst (λ (d : StepDone). Comes t (go_on call k d.onward d.run d.after st)) (sym (done_free t (frame p) r e))
        (went (onward_of t (frame p) r) (run_after t p r) (line_at t.tape p).after st h c (onward_asks t (frame p) r))
    by_alarm from p r st h c (suc a) e =
        subst (λ (d : StepDone). Comes t (go_on call k d.onward d.run d.after st)) (sym (done_alarm t (frame p) r (λ z. omega (arith, e, z))))
        (went (Stop (alarm_at t (frame p) r) p) r (line_at t.tape p).after st h c tt)

    by_found : (from : ℕ) (r : Run) → Reaches t.tape from start → (g : Found) → first_block (lines t.tape from) ≡ g → Comes t (onward call k (taken_by t (frame from) r g))
    unfolding onward taken_by go_on
    by_found from r h (At p) e =
        by_alarm from p r (taken_by t (frame from) r (At p)).step (behind t.tape t.first program found from p h e) (came t program found from p h e calls r) (alarm_at t (frame p) r) refl
    by_found from r h Nowhere e = none_came t

  pub blocks_come : (n from : ℕ) (r : Run) → Reaches t.tape from start → Comes t (blocks call t n (frame from) r)
  unfolding blocks taken_from
  blocks_come zero from r h = none_came t
  blocks_come (suc n) from r h = by_found (λ p s. blocks call t n (frame p) s) (λ p s i. blocks_come n p s i) from r h (first_block (lines t.tape from)) refl

-- ---- calls and repeats
repeated_come : (t : Task) (one : Run → Ran) → ((r : Run) → Comes t (one r)) → (n : ℕ) (r : Run) → Comes t (repeated one n r)
unfolding repeated
repeated_come t one h zero r = none_came t
repeated_come t one h (suc n) r = comes_then t (one r) (λ s. repeated one n s) (h r) (λ q. repeated_come t one h n q)

called_come : (t : Task) (c : ℕ) (p : ProgramAt) (n : ℕ) (r : Run) → FoundAt t.tape t.first p → Comes t (called t c p n r)
unfolding called
called_come t zero p n r found = none_came t
called_come t (suc c) p n r found =
    repeated_come t (λ s. blocks (λ q m u. called t c q m u) t enough (entry t p c) s)
    (λ s. blocks_come t p c found (λ q m u. called t c q m u) (λ q m u on. called_come t c q m u on) enough (line_at t.tape p.line).after s arrived) n r

-- THE STEPS OF A PROGRAM'S RUN came from the blocks that their numbers name
pub program_comes : (t : Task) (p : ProgramAt) (c : ℕ) (r : Run) → FoundAt t.tape t.first p → Comes t (program_run t p c r)
program_comes t p c r found = blocks_come t p c found (called t c) (λ q m u on. called_come t c q m u on) enough (line_at t.tape p.line).after r arrived

-- ---- such numbers have 16 bits
pub origin_fits : (t : Task) (st : Step) → CameFrom t st → FittingOrigin st.origin
origin_fits t st c =
    let p : st.origin.program < 10_000 = subst HeadIn c.program (head_in (text_at t.tape c.line).bytes) in
    let b : st.origin.block < 10_000 = subst HeadIn c.block (head_in (text_at t.tape st.place).bytes) in
    record { program = omega (arith, p); block = omega (arith, b) }
