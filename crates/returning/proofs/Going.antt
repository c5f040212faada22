-- Where a run goes on, as the code has it, is where the engine of `resuming` goes on.
-- Assumes nothing.
use mathlib.Core.Path.{◌≡◌, refl, sym, ap, ◌∙◌}
use mathlib.Core.List.{List, [], ◌∷◌}
use Prim.Native.Nat.{ℕ, zero, suc, ◌+◌, ◌-◌, ◌%◌, ◌≤◌, ◌<◌}
use native.Mathlib.Numerals.{add-one}
use native.Mathlib.Omega.{arith}
use lib.ListN.{length, get_or, set, length-set}
use lib.Seq.{get_or-set_same, get_or-set_other}
use borrow.Author.Tests.{le-ltb}
use Rattle.alarms.specs.Numbers.{too_deep, wrong_end}
use Rattle.places.specs.Places.{sixteen_bits}
use Rattle.tape.specs.Lines.{line_at}
use Rattle.ahead.specs.Ahead.{most_calls}
use Rattle.ahead.specs.declared.ProgramAt.{ProgramAt}
use Rattle.ahead.specs.declared.Onward.{Onward}
use Rattle.ahead.specs.declared.Onward.TheVariants.{On, Call, Jump, Return, End, Stop}
use Rattle.paused.specs.of_taking.Steps.{Task, Step, listed_by}
use Rattle.paused.specs.of_taking.declared.Run.{Run}
use Rattle.paused.specs.of_answers.declared.Answer.{Answer}
use Rattle.paused.specs.of_answers.declared.Answer.TheVariants.{Complete, Alarm}
use Rattle.paused.specs.of_resuming.declared.Waiting.{Waiting}
use Rattle.paused.specs.of_resuming.Remains.{waiting}
use Rattle.paused.specs.of_resuming.Handed.{Made}
use Rattle.paused.specs.of_resuming.Engines.{running, ended, times_left, come_back, call_from, turn_by, ahead, joined, remaining}
use Rattle.paused.specs.Kept.{nobody}
use Rattle.paused.specs.declared.Phase.TheVariants.{Running}
use Rattle.paused.specs.declared.Going.{Going}
use Rattle.returning.specs.Standing.{stack_of, depth_of, phase_of, left_for}
use Rattle.returning.specs.Moving.{within_of, moved_to, over_with, stopped_with, last_of, top_of, popped_to, repeated_to, came_back, pushed_to, called_to, gone_on}
use Rattle.returning.proofs.Moving.{came_main, came_popped, came_repeated, called_deep, called_in}

-- ---- places
pub within_is : (size p : ℕ) → p ≤ size → within_of size p ≡ p
unfolding within_of
within_is size p h = rw (le-ltb size p h) refl

-- ---- the programs that wait
stack_set : (ws : List Waiting) (d m : ℕ) (w : Waiting) → d ≤ m → stack_of (set ws m w) d ≡ stack_of ws d
unfolding stack_of
stack_set ws zero m w h = refl
stack_set ws (suc d) m w h = λ i. get_or-set_other ws m d w nobody (λ e. omega (arith, e)) i ∷ stack_set ws d m w (omega arith) i

pub stack_push : (ws : List Waiting) (d : ℕ) (w : Waiting) → d < length ws → stack_of (set ws d w) (suc d) ≡ w ∷ stack_of ws d
unfolding stack_of
stack_push ws d w h = λ i. get_or-set_same ws d w nobody h i ∷ stack_set ws d d w (omega arith) i

module _ (t : Task) (l : List Made) where
  -- an answer, and an alarm
  over_same : (g : Going) (r : Run) (a : Answer) (calls : ℕ) (program : ProgramAt) (fs : List Waiting) → left_for t l (over_with g r a) ≡ remaining t (ended l a calls program fs r)
  unfolding remaining ahead
  over_same g r a calls program fs = refl

  stopped_same : (g : Going) (r : Run) (alarm place : ℕ) → place < sixteen_bits → (calls : ℕ) (program : ProgramAt) (fs : List Waiting)
      → left_for t l (stopped_with g r alarm place) ≡ remaining t (ended l (Alarm alarm place r.count) calls program fs r)
  unfolding remaining ahead
  stopped_same g r alarm place h calls program fs =
      let e : place % sixteen_bits ≡ place = omega arith in
      ap (λ (p : ℕ). joined l (record { records = []; answer = Alarm alarm p r.count })) e

  -- ---- a return
  module _ (g : Going) (on : g.phase ≡ Running) (size : length g.waiting ≡ most_calls) where
    abbrev calls : ℕ
    calls = g.frame.calls_left

    abbrev program : ProgramAt
    program = g.frame.program

    module _ (d : ℕ) (e : depth_of g ≡ suc d) where
      abbrev last : Waiting
      last = get_or g.waiting d nobody

      place : last_of g ≡ d
      place = omega arith

      is_top : last ≡ top_of g
      is_top = ap (λ (n : ℕ). get_or g.waiting n nobody) (sym place)

      under : calls ≡ most_calls → ⊥
      under h = omega (arith, h)

      homed : left_for t l (popped_to g last) ≡ remaining t (running l (suc calls) last.program last.after (stack_of g.waiting d) g.run)
      homed =
          let q : most_calls - (calls + 1) ≡ d = omega arith in
          λ i. remaining t (record {
            rest = l;
            phase = phase_of (on i);
            calls = add-one calls i;
            program = last.program;
            from = last.after;
            frames = stack_of g.waiting (q i);
            run = g.run;
          })

      again : (n : ℕ) → last.times ≡ suc n
          → left_for t l (repeated_to t.tape g last)
          ≡ remaining t (running l calls program (line_at t.tape program.line).after (waiting last.program last.after n ∷ stack_of g.waiting d) g.run)
      again n z =
          let w : Waiting = waiting last.program last.after (last.times - 1) in
          let m : last.times - 1 ≡ n = omega arith in
          let f : stack_of (set g.waiting (last_of g) w) (depth_of g) ≡ waiting last.program last.after n ∷ stack_of g.waiting d =
          (λ i. stack_of (set g.waiting (place i) w) (e i)) ∙ stack_push g.waiting d w (omega (arith, size)) ∙ ap (λ (k : ℕ). waiting last.program last.after k ∷ stack_of g.waiting d) m in
          λ i. remaining t (record {
            rest = l;
            phase = phase_of (on i);
            calls = calls;
            program = program;
            from = (line_at t.tape program.line).after;
            frames = f i;
            run = g.run;
          })

      by_times : (n : ℕ) → last.times ≡ n
          → left_for t l (came_back t.tape g) ≡ remaining t (times_left t l calls program n last.program last.after (stack_of g.waiting d) g.run)
      unfolding times_left
      by_times zero z = ap (left_for t l) (sym (came_popped t.tape g under is_top z)) ∙ homed
      by_times (suc n) z = ap (left_for t l) (sym (came_repeated t.tape g under is_top (λ h. omega (arith, z, h)))) ∙ again n z

    pub came_same : calls ≤ most_calls → left_for t l (came_back t.tape g) ≡ remaining t (come_back t l calls program (stack_of g.waiting (depth_of g)) g.run)
    unfolding come_back stack_of
    came_same h = go (depth_of g) refl
      where
        go : (d : ℕ) → depth_of g ≡ d → left_for t l (came_back t.tape g) ≡ remaining t (come_back t l calls program (stack_of g.waiting d) g.run)
        go zero e = ap (left_for t l) (sym (came_main t.tape g (omega arith))) ∙ stopped_same g g.run wrong_end 0 (omega arith) calls program []
        go (suc d) e = by_times d e (get_or g.waiting d nobody).times refl

  -- ---- a call
  module _ (g : Going) (on : g.phase ≡ Running) (size : length g.waiting ≡ most_calls) (few : g.frame.calls_left ≤ most_calls) where
    abbrev left : ℕ
    left = g.frame.calls_left

    abbrev caller : ProgramAt
    caller = g.frame.program

    abbrev stack : List Waiting
    stack = stack_of g.waiting (depth_of g)

    pushed_same : (r : Run) (p : ProgramAt) (n after c : ℕ) → left ≡ suc c
        → left_for t l (came_back t.tape (pushed_to g r p n after)) ≡ remaining t (come_back t l c p (waiting caller after n ∷ stack) r)
    pushed_same r p n after c e =
        let w : Waiting = waiting caller after n in
        let fewer : left - 1 ≡ c = omega arith in
        let at : most_calls - 1 - (left - 1) ≡ depth_of g = omega arith in
        let deep : most_calls - (left - 1) ≡ suc (depth_of g) = omega arith in
        let f : stack_of (set g.waiting (most_calls - 1 - (left - 1)) w) (most_calls - (left - 1)) ≡ w ∷ stack =
        (λ i. stack_of (set g.waiting (at i) w) (deep i)) ∙ stack_push g.waiting (depth_of g) w (omega (arith, size)) in
        came_same (pushed_to g r p n after) on (length-set g.waiting (most_calls - 1 - (left - 1)) w ∙ size) (omega arith)
        ∙ (λ i. remaining t (come_back t l (fewer i) p (f i) r))

    pub called_same : (r : Run) (p : ProgramAt) (n after : ℕ) → p.line < sixteen_bits
        → left_for t l (called_to t.tape g r p n after) ≡ remaining t (call_from t l left caller stack p n r after)
    unfolding call_from
    called_same r p n after small = go left refl
      where
        go : (c : ℕ) → left ≡ c → left_for t l (called_to t.tape g r p n after) ≡ remaining t (call_from t l c caller stack p n r after)
        go zero e = ap (left_for t l) (sym (called_deep t.tape g r p n after e)) ∙ stopped_same g r too_deep p.line small 0 caller stack
        go (suc c) e = ap (left_for t l) (sym (called_in t.tape g r p n after (λ z. omega (arith, e, z)))) ∙ pushed_same r p n after c e

-- ---- behind a step
-- what is asked of where it goes: the places are on the tape; an alarm has nothing in hand, and its place has 16 bits
abbrev pub Clear : List Made → ℕ → Onward → Type 0
Clear l size On = Unit {0}
Clear l size (Call p n) = p.line ≤ size
Clear l size (Jump p) = p ≤ size
Clear l size Return = Unit {0}
Clear l size End = Unit {0}
Clear l size (Stop alarm place) = (l ≡ []) × (place < sixteen_bits)

pub gone_same : (t : Task) (st : Step) (g : Going) → g.phase ≡ Running → length g.waiting ≡ most_calls → g.frame.calls_left ≤ most_calls → length t.tape < sixteen_bits
    → (w : Onward) (r : Run) (after : ℕ) → Clear (listed_by st) (length t.tape) w
    → left_for t (listed_by st) (gone_on t.tape g w r after) ≡ remaining t (turn_by t g.frame.calls_left g.frame.program (stack_of g.waiting (depth_of g)) w r after st)
unfolding gone_on turn_by
gone_same t st g on size few small On r after k =
    λ i. remaining t (record {
      rest = listed_by st;
      phase = phase_of (on i);
      calls = g.frame.calls_left;
      program = g.frame.program;
      from = after;
      frames = stack_of g.waiting (depth_of g);
      run = r;
    })
gone_same t st g on size few small (Jump p) r after k =
    let e = within_is (length t.tape) p k in
    λ i. remaining t (record {
      rest = listed_by st;
      phase = phase_of (on i);
      calls = g.frame.calls_left;
      program = g.frame.program;
      from = e i;
      frames = stack_of g.waiting (depth_of g);
      run = r;
    })
gone_same t st g on size few small (Call p n) r after k =
    let e = within_is (length t.tape) p.line k in
    ap (λ (x : ℕ). left_for t (listed_by st) (called_to t.tape g r (record { number = p.number; line = x }) n after)) e
    ∙ called_same t (listed_by st) g on size few r p n after (omega arith)
gone_same t st g on size few small Return r after k = came_same t (listed_by st) (moved_to g g.frame r) on size few
gone_same t st g on size few small End r after k = over_same t (listed_by st) g r (Complete r.count) g.frame.calls_left g.frame.program (stack_of g.waiting (depth_of g))
gone_same t st g on size few small (Stop alarm place) r after k =
    stopped_same t (listed_by st) g r alarm place k.1 g.frame.calls_left g.frame.program (stack_of g.waiting (depth_of g))
    ∙ ap (λ (l : List Made). remaining t (ended l (Alarm alarm place r.count) g.frame.calls_left g.frame.program (stack_of g.waiting (depth_of g)) r)) k.0
