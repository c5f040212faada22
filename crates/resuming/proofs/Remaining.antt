-- Onward remains of a run, step by step: the recursive definition of a run, unrolled at an explicit stack.
-- Assumes nothing.
use mathlib.Core.Path.{◌≡◌, refl, sym, ap, ◌∙◌}
use mathlib.Core.List.{List, [], ◌∷◌, ◌++◌, append_assoc, append-nil}
use Prim.Native.Nat.{ℕ, zero, suc, ◌≤◌, ◌<◌}
use native.Mathlib.Omega.{arith}
use Rattle.tape.specs.Lines.{line_at}
use Rattle.interpreter.specs.of_taking.Steps.{Task, Step, taken_from}
use Rattle.ahead.specs.declared.ProgramAt.{ProgramAt}
use Rattle.ahead.specs.declared.Onward.{Onward}
use Rattle.ahead.specs.declared.Onward.TheVariants.{On, Call, Jump, Return, End, Stop}
use Rattle.interpreter.specs.of_taking.declared.Run.{Run}
use Rattle.interpreter.specs.of_runners.declared.Ending.{Ending}
use Rattle.interpreter.specs.of_runners.declared.Ending.TheVariants.{Returned, Ended, Stopped}
use Rattle.interpreter.specs.of_runners.Runs.{Ran, ran, pre, go_back, and_then, go_on, onward, blocks, blocks_in_all, enough, repeated, called, program_run}
use Rattle.resuming.specs.declared.Waiting.{Waiting}
use Rattle.resuming.specs.Remains.{waiting, frame_at, back, remain, deeper, gone}
use Rattle.resuming.proofs.Lowering.{Lower, lower}

-- the place behind the line of a program
abbrev pub behind : Task → ProgramAt → ℕ
behind t program = (line_at t.tape program.line).after

-- ---- runs, one after another
pre_pre : (v w : List Step) (x : Ran) → pre v (pre w x) ≡ pre (v ++ w) x
unfolding pre
pre_pre v w x = ap (λ (l : List Step). record { outcome = x.outcome; steps = l }) (sym (append_assoc v w x.steps))

then_is : (x : Ran) (k : Run → Ran) {h : Ending} → x.outcome.ending ≡ h → and_then x k ≡ go_back h x k
unfolding and_then
then_is x k e = ap (λ (h : Ending). go_back h x k) e

back_pre : (h : Ending) (w : List Step) (x : Ran) (k : Run → Ran) → go_back h (pre w x) k ≡ pre w (go_back h x k)
unfolding go_back pre
back_pre Returned w x k = sym (pre_pre w x.steps (k x.outcome.run))
back_pre Ended w x k = refl
back_pre (Stopped a p) w x k = refl

then_pre : (w : List Step) (x : Ran) (k : Run → Ran) → and_then (pre w x) k ≡ pre w (and_then x k)
unfolding and_then pre
then_pre w x k = back_pre x.outcome.ending w x k

back_then : (h : Ending) (x : Ran) (k l : Run → Ran) → x.outcome.ending ≡ h → and_then (go_back h x k) l ≡ go_back h x (λ s. and_then (k s) l)
unfolding go_back
back_then Returned x k l e = then_pre x.steps (k x.outcome.run) l
back_then Ended x k l e = then_is x l e
back_then (Stopped a p) x k l e = then_is x l e

then_then : (x : Ran) (k l : Run → Ran) → and_then (and_then x k) l ≡ and_then x (λ s. and_then (k s) l)
unfolding and_then
then_then x k l = back_then x.outcome.ending x k l refl

back_unit : (h : Ending) (x : Ran) → x.outcome.ending ≡ h → go_back h x (λ s. ran Returned s []) ≡ x
unfolding go_back pre
back_unit Returned x e = (λ i. record { outcome = record { ending = sym e i; run = x.outcome.run }; steps = append-nil x.steps i })
back_unit Ended x e = refl
back_unit (Stopped a p) x e = refl

-- k matters only at the run that was come back with
back_cong : (h : Ending) (x : Ran) (k l : Run → Ran) → k x.outcome.run ≡ l x.outcome.run → go_back h x k ≡ go_back h x l
unfolding go_back
back_cong Returned x k l e = ap (pre x.steps) e
back_cong Ended x k l e = refl
back_cong (Stopped a p) x k l e = refl

-- ---- no run leaves more blocks to begin than it had
abbrev left_of : Ran → ℕ
left_of x = x.outcome.run.blocks_left

back_falls : (h : Ending) (x : Ran) (k : Run → Ran) (n : ℕ) → left_of x ≤ n → left_of (k x.outcome.run) ≤ n → left_of (go_back h x k) ≤ n
unfolding go_back pre
back_falls Returned x k n a b = b
back_falls Ended x k n a b = a
back_falls (Stopped al p) x k n a b = a

on_falls : (call : ProgramAt → ℕ → Run → Ran) (k : ℕ → Run → Ran) → ((p : ProgramAt) (n : ℕ) (r : Run) → left_of (call p n r) ≤ r.blocks_left) → ((p : ℕ) (r : Run) → left_of (k p r) ≤ r.blocks_left)
    → (w : Onward) (s : Run) (after : ℕ) (st : Step) → left_of (go_on call k w s after st) ≤ s.blocks_left
unfolding go_on pre and_then
on_falls call k hc hk On s after st = hk after s
on_falls call k hc hk (Jump p) s after st = hk p s
on_falls call k hc hk (Call p n) s after st =
    back_falls (call p n s).outcome.ending (call p n s) (k after) s.blocks_left (hc p n s) (omega (arith, hk after (call p n s).outcome.run, hc p n s))
on_falls call k hc hk Return s after st = omega arith
on_falls call k hc hk End s after st = omega arith
on_falls call k hc hk (Stop a p) s after st = omega arith

lower_le : (w : Onward) (r s : Run) → Lower w r s → s.blocks_left ≤ r.blocks_left
lower_le On r s h = omega arith
lower_le (Jump p) r s h = omega arith
lower_le (Call p n) r s h = omega arith
lower_le Return r s h = omega arith
lower_le End r s h = omega arith
lower_le (Stop a p) r s h = h

blocks_falls : (call : ProgramAt → ℕ → Run → Ran) → ((p : ProgramAt) (n : ℕ) (r : Run) → left_of (call p n r) ≤ r.blocks_left) → (t : Task) (program : ProgramAt) (calls f from : ℕ) (r : Run)
    → left_of (blocks call t f (frame_at program calls from) r) ≤ r.blocks_left
unfolding blocks onward
blocks_falls call hc t program calls zero from r = omega arith
blocks_falls call hc t program calls (suc f) from r =
    let x = taken_from t (frame_at program calls from) r in
    omega (
      arith,
      on_falls call (λ p s. blocks call t f (frame_at program calls p) s) hc (λ p s. blocks_falls call hc t program calls f p s) x.done.onward x.done.run x.done.after x.step,
      lower_le x.done.onward r x.done.run (lower t (frame_at program calls from) r),
    )

repeated_falls : (one : Run → Ran) → ((r : Run) → left_of (one r) ≤ r.blocks_left) → (n : ℕ) (r : Run) → left_of (repeated one n r) ≤ r.blocks_left
unfolding repeated and_then
repeated_falls one h zero r = omega arith
repeated_falls one h (suc n) r =
    back_falls (one r).outcome.ending (one r) (λ s. repeated one n s) r.blocks_left (h r) (omega (arith, repeated_falls one h n (one r).outcome.run, h r))

called_falls : (t : Task) (c : ℕ) (p : ProgramAt) (n : ℕ) (r : Run) → left_of (called t c p n r) ≤ r.blocks_left
unfolding called
called_falls t zero p n r = omega arith
called_falls t (suc c) p n r =
    repeated_falls (λ s. blocks (λ q m u. called t c q m u) t enough (frame_at p c (behind t p)) s)
    (λ s. blocks_falls (λ q m u. called t c q m u) (λ q m u. called_falls t c q m u) t p c enough (behind t p) s) n r

-- ---- MORE FUEL CHANGES NOTHING, where it is more than the blocks that may begin
on_same : (call : ProgramAt → ℕ → Run → Ran) → ((p : ProgramAt) (n : ℕ) (r : Run) → left_of (call p n r) ≤ r.blocks_left) → (k l : ℕ → Run → Ran) (r : Run)
    → ((p : ℕ) (s : Run) → s.blocks_left < r.blocks_left → k p s ≡ l p s)
    → (w : Onward) (s : Run) → Lower w r s → (after : ℕ) (st : Step) → go_on call k w s after st ≡ go_on call l w s after st
unfolding go_on and_then
on_same call hc k l r h On s d after st = ap (pre (st ∷ [])) (h after s d)
on_same call hc k l r h (Jump p) s d after st = ap (pre (st ∷ [])) (h p s d)
on_same call hc k l r h (Call p n) s d after st =
    ap (pre (st ∷ [])) (back_cong (call p n s).outcome.ending (call p n s) (k after) (l after) (h after (call p n s).outcome.run (omega (arith, hc p n s))))
on_same call hc k l r h Return s d after st = refl
on_same call hc k l r h End s d after st = refl
on_same call hc k l r h (Stop a p) s d after st = refl

fuel : (call : ProgramAt → ℕ → Run → Ran) → ((p : ProgramAt) (n : ℕ) (r : Run) → left_of (call p n r) ≤ r.blocks_left) → (t : Task) (program : ProgramAt) (calls f g from : ℕ) (r : Run)
    → r.blocks_left < f → r.blocks_left < g → blocks call t f (frame_at program calls from) r ≡ blocks call t g (frame_at program calls from) r
unfolding blocks onward
fuel call hc t program calls zero g from r a b = absurd (omega arith)
fuel call hc t program calls (suc f) zero from r a b = absurd (omega arith)
fuel call hc t program calls (suc f) (suc g) from r a b =
    let x = taken_from t (frame_at program calls from) r in
    on_same call hc (λ p s. blocks call t f (frame_at program calls p) s) (λ p s. blocks call t g (frame_at program calls p) s) r
    (λ p s d. fuel call hc t program calls f g p s (omega arith) (omega arith))
    x.done.onward x.done.run (lower t (frame_at program calls from) r) x.done.after x.step

-- so that a program's run is its first step and then itself
below : (r : Run) → r.blocks_left ≤ blocks_in_all → r.blocks_left < enough
unfolding enough
below r h = omega arith

one_more : (t : Task) (program : ProgramAt) (calls from : ℕ) (r : Run)
    → blocks (called t calls) t (suc enough) (frame_at program calls from) r
    ≡ onward (called t calls) (λ p s. blocks (called t calls) t enough (frame_at program calls p) s) (taken_from t (frame_at program calls from) r)
unfolding blocks
one_more t program calls from r = refl

pub unrolled : (t : Task) (program : ProgramAt) (calls from : ℕ) (r : Run) → r.blocks_left ≤ blocks_in_all
    → blocks (called t calls) t enough (frame_at program calls from) r
    ≡ onward (called t calls) (λ p s. blocks (called t calls) t enough (frame_at program calls p) s) (taken_from t (frame_at program calls from) r)
unrolled t program calls from r h =
    fuel (called t calls) (called_falls t calls) t program calls enough (suc enough) from r (below r h) (omega (arith, below r h)) ∙ one_more t program calls from r

-- ---- THE STACK IS WHAT REMAINS
-- a call
goes_deeper : (t : Task) (calls : ℕ) (program : ProgramAt) (fs : List Waiting) (p : ProgramAt) (n : ℕ) (s : Run) (after : ℕ)
    → and_then (and_then (called t calls p n s) (λ u. blocks (called t calls) t enough (frame_at program calls after) u)) (λ u. back t calls program fs u)
    ≡ deeper t calls program fs p n s after
unfolding deeper and_then go_back called back
goes_deeper t zero program fs p n s after = refl
goes_deeper t (suc c) program fs p n s after =
    then_then (called t (suc c) p n s) (λ u. blocks (called t (suc c)) t enough (frame_at program (suc c) after) u) (λ u. back t (suc c) program fs u)

-- a step
goes : (t : Task) (calls : ℕ) (program : ProgramAt) (fs : List Waiting) (w : Onward) (s : Run) (after : ℕ) (st : Step)
    → and_then (go_on (called t calls) (λ p u. blocks (called t calls) t enough (frame_at program calls p) u) w s after st) (λ u. back t calls program fs u)
    ≡ gone t calls program fs w s after st
unfolding go_on gone and_then go_back remain pre
goes t calls program fs On s after st = then_pre (st ∷ []) (blocks (called t calls) t enough (frame_at program calls after) s) (λ u. back t calls program fs u)
goes t calls program fs (Jump p) s after st = then_pre (st ∷ []) (blocks (called t calls) t enough (frame_at program calls p) s) (λ u. back t calls program fs u)
goes t calls program fs (Call p n) s after st =
    then_pre (st ∷ []) (and_then (called t calls p n s) (λ u. blocks (called t calls) t enough (frame_at program calls after) u)) (λ u. back t calls program fs u)
    ∙ ap (pre (st ∷ [])) (goes_deeper t calls program fs p n s after)
goes t calls program fs Return s after st = refl
goes t calls program fs End s after st = refl
goes t calls program fs (Stop a p) s after st = refl

pub stepped : (t : Task) (calls : ℕ) (program : ProgramAt) (from : ℕ) (fs : List Waiting) (r : Run) → r.blocks_left ≤ blocks_in_all
    → remain t calls program from fs r
    ≡ gone t calls program fs (taken_from t (frame_at program calls from) r).done.onward (taken_from t (frame_at program calls from) r).done.run (taken_from t (frame_at program calls from) r).done.after (taken_from t (frame_at program calls from) r).step
unfolding remain onward
stepped t calls program from fs r h =
    let x = taken_from t (frame_at program calls from) r in
    ap (λ (y : Ran). and_then y (λ s. back t calls program fs s)) (unrolled t program calls from r h) ∙ goes t calls program fs x.done.onward x.done.run x.done.after x.step

-- the last run of a called program has returned: on in the program that waits
pub home : (t : Task) (calls : ℕ) (program q : ProgramAt) (after : ℕ) (fs : List Waiting) (s : Run) → back t calls program (waiting q after 0 ∷ fs) s ≡ remain t (suc calls) q after fs s
unfolding back remain repeated and_then go_back pre
home t calls program q after fs s = refl

-- it runs once more
pub again : (t : Task) (calls : ℕ) (program q : ProgramAt) (after n : ℕ) (fs : List Waiting) (s : Run)
    → back t calls program (waiting q after (suc n) ∷ fs) s ≡ remain t calls program (behind t program) (waiting q after n ∷ fs) s
unfolding back remain repeated
again t calls program q after n fs s =
    then_then (program_run t program calls s) (λ u. repeated (λ v. program_run t program calls v) n u)
    (λ u. and_then (blocks (called t (suc calls)) t enough (frame_at q (suc calls) after) u) (λ v. back t (suc calls) q fs v))

-- at the start all of a program's run remains
pub begins : (t : Task) (program : ProgramAt) (calls : ℕ) (r : Run) → program_run t program calls r ≡ remain t calls program (behind t program) [] r
unfolding back remain and_then
begins t program calls r = let x = program_run t program calls r in sym (back_unit x.outcome.ending x refl)
