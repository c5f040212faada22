-- A turn of the engine keeps what is left to hand out.
-- Assumes nothing.
use mathlib.Core.Path.{◌≡◌, refl, sym, ap, ◌∙◌}
use mathlib.Core.List.{List, [], ◌∷◌}
use Prim.Native.Nat.{ℕ, zero, suc, ◌≤◌, ◌<◌}
use native.Mathlib.Omega.{arith}
use Rattle.interpreter.specs.of_taking.Steps.{Task, Step, listed_by, taken_from}
use Rattle.ahead.specs.declared.ProgramAt.{ProgramAt}
use Rattle.ahead.specs.declared.Onward.{Onward}
use Rattle.ahead.specs.declared.Onward.TheVariants.{On, Call, Jump, Return, End, Stop}
use Rattle.interpreter.specs.of_taking.declared.Run.{Run}
use Rattle.interpreter.specs.of_runners.Runs.{Ran, pre, listed_of, blocks_in_all}
use Rattle.interpreter.specs.of_answers.Answers.{answer_by}
use Rattle.interpreter.specs.Answers.{result_of}
use Rattle.resuming.specs.declared.Waiting.{Waiting}
use Rattle.resuming.specs.Remains.{waiting, frame_at, back, deeper, gone}
use Rattle.resuming.specs.Handed.{Made, Left, left_of}
use Rattle.resuming.specs.Engines.{Phase, Running, Done, Engine, times_left, come_back, call_from, turn_by, turn, ahead, joined, remaining}
use Rattle.resuming.proofs.Lowering.{Lower, lower}
use Rattle.resuming.proofs.Remaining.{stepped, home, again}

abbrev left_in : Ran → Left
left_in x = left_of (result_of x)

joined_pre : (st : Step) (x : Ran) → joined (listed_by st) (left_in x) ≡ left_in (pre (st ∷ []) x)
unfolding joined left_of result_of pre listed_of
joined_pre st x = refl

-- ---- what is left behind a return, a call, a step
times_same : (t : Task) (l : List Made) (calls : ℕ) (program : ProgramAt) (n : ℕ) (q : ProgramAt) (after : ℕ) (fs : List Waiting) (r : Run)
    → remaining t (times_left t l calls program n q after fs r) ≡ joined l (left_in (back t calls program (waiting q after n ∷ fs) r))
unfolding times_left remaining ahead
times_same t l calls program zero q after fs r = ap (λ (x : Ran). joined l (left_in x)) (sym (home t calls program q after fs r))
times_same t l calls program (suc n) q after fs r = ap (λ (x : Ran). joined l (left_in x)) (sym (again t calls program q after n fs r))

back_same : (t : Task) (l : List Made) (calls : ℕ) (program : ProgramAt) (fs : List Waiting) (r : Run)
    → remaining t (come_back t l calls program fs r) ≡ joined l (left_in (back t calls program fs r))
unfolding come_back remaining ahead back left_of result_of listed_of answer_by
back_same t l calls program [] r = refl
back_same t l calls program (f ∷ fs) r = times_same t l calls program f.times f.program f.after fs r

call_same : (t : Task) (l : List Made) (calls : ℕ) (program : ProgramAt) (fs : List Waiting) (p : ProgramAt) (n : ℕ) (r : Run) (after : ℕ)
    → remaining t (call_from t l calls program fs p n r after) ≡ joined l (left_in (deeper t calls program fs p n r after))
unfolding call_from deeper remaining ahead left_of result_of listed_of answer_by
call_same t l zero program fs p n r after = refl
call_same t l (suc c) program fs p n r after = back_same t l c p (waiting program after n ∷ fs) r

by_same : (t : Task) (calls : ℕ) (program : ProgramAt) (fs : List Waiting) (w : Onward) (r : Run) (after : ℕ) (st : Step)
    → remaining t (turn_by t calls program fs w r after st) ≡ left_in (gone t calls program fs w r after st)
unfolding turn_by gone remaining ahead joined left_of result_of listed_of answer_by pre
by_same t calls program fs On r after st = refl
by_same t calls program fs (Jump p) r after st = refl
by_same t calls program fs (Call p n) r after st = call_same t (listed_by st) calls program fs p n r after
by_same t calls program fs Return r after st = back_same t (listed_by st) calls program fs r
by_same t calls program fs End r after st = refl
by_same t calls program fs (Stop a p) r after st = refl

-- A TURN KEEPS WHAT IS LEFT
pub turn_same : (t : Task) (e : Engine) → e.run.blocks_left ≤ blocks_in_all → e.rest ≡ [] → e.phase ≡ Running → remaining t (turn t e) ≡ remaining t e
unfolding turn remaining ahead joined
turn_same t e h z p =
    let x = taken_from t (frame_at e.program e.calls e.from) e.run in
    by_same t e.calls e.program e.frames x.done.onward x.done.run x.done.after x.step
    ∙ ap left_in (sym (stepped t e.calls e.program e.from e.frames e.run h))
    ∙ sym (λ i. joined (z i) (ahead t (p i) e))

-- ---- and it comes nearer to the end
abbrev pub weight : Phase → Run → ℕ
weight Running r = suc r.blocks_left
weight (Done a) r = 0

abbrev pub weight_of : Engine → ℕ
weight_of e = weight e.phase e.run

times_run : (t : Task) (l : List Made) (calls : ℕ) (program : ProgramAt) (n : ℕ) (q : ProgramAt) (after : ℕ) (fs : List Waiting) (r : Run) → (times_left t l calls program n q after fs r).run ≡ r
unfolding times_left
times_run t l calls program zero q after fs r = refl
times_run t l calls program (suc n) q after fs r = refl

back_run : (t : Task) (l : List Made) (calls : ℕ) (program : ProgramAt) (fs : List Waiting) (r : Run) → (come_back t l calls program fs r).run ≡ r
unfolding come_back
back_run t l calls program [] r = refl
back_run t l calls program (f ∷ fs) r = times_run t l calls program f.times f.program f.after fs r

call_run : (t : Task) (l : List Made) (calls : ℕ) (program : ProgramAt) (fs : List Waiting) (p : ProgramAt) (n : ℕ) (r : Run) (after : ℕ) → (call_from t l calls program fs p n r after).run ≡ r
unfolding call_from
call_run t l zero program fs p n r after = refl
call_run t l (suc c) program fs p n r after = back_run t l c p (waiting program after n ∷ fs) r

weight_le : (p : Phase) (r : Run) → weight p r ≤ suc r.blocks_left
weight_le Running r = omega arith
weight_le (Done a) r = omega arith

-- an engine that stands at the run s, which is lower
pub record Nearer (r : Run) (e : Engine) : Type 0 where
  pub less : weight_of e < suc r.blocks_left
  pub left : e.run.blocks_left ≤ r.blocks_left

at_run : (r s : Run) (e : Engine) → e.run ≡ s → s.blocks_left < r.blocks_left → Nearer r e
at_run r s e h d = record { less = omega (arith, weight_le e.phase e.run, ap (λ (q : Run). q.blocks_left) h); left = omega (arith, ap (λ (q : Run). q.blocks_left) h) }

by_nearer : (t : Task) (calls : ℕ) (program : ProgramAt) (fs : List Waiting) (w : Onward) (r s : Run) (after : ℕ) (st : Step) → Lower w r s → Nearer r (turn_by t calls program fs w s after st)
unfolding turn_by
by_nearer t calls program fs On r s after st d = at_run r s _ refl d
by_nearer t calls program fs (Jump p) r s after st d = at_run r s _ refl d
by_nearer t calls program fs (Call p n) r s after st d = at_run r s _ (call_run t (listed_by st) calls program fs p n s after) d
by_nearer t calls program fs Return r s after st d = at_run r s _ (back_run t (listed_by st) calls program fs s) d
by_nearer t calls program fs End r s after st d = record { less = omega arith; left = omega arith }
by_nearer t calls program fs (Stop a p) r s after st d = record { less = omega arith; left = d }

pub turn_nearer : (t : Task) (e : Engine) → Nearer e.run (turn t e)
unfolding turn
turn_nearer t e =
    let x = taken_from t (frame_at e.program e.calls e.from) e.run in
    by_nearer t e.calls e.program e.frames x.done.onward e.run x.done.run x.done.after x.step (lower t (frame_at e.program e.calls e.from) e.run)
