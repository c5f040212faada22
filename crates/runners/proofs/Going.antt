-- The two runners on their way: what a run so far came to, and how a step, a call or an end goes on from there.
-- Assumes nothing.
use mathlib.Core.Path.{◌≡◌, refl, sym, ap, subst, ◌∙◌}
use mathlib.Core.Logic.{⊎_elim}
use mathlib.Core.List.{List, [], ◌∷◌, ◌++◌, append_assoc, append-nil}
use Prim.Native.Nat.{ℕ, zero, suc, ◌-◌, ◌≤◌, ◌<◌}
use native.Mathlib.Omega.{arith}
use native.Mathlib.Numerals.{sub-one}
use lib.IntN.{ℤ}
use lib.ListN.{length, length-append}
use denote.Enum.Declared.{tag_of}
use types.Run.{OneOf}
use Rattle.octets.specs.Bytes.{laid}
use Rattle.octets.proofs.Laying.{laid_nil, length_laid}
use Rattle.alarms.specs.Numbers.{too_deep}
use Rattle.moves.specs.Form.{header_size, record_start, row_bytes, stamped, whats}
use Rattle.moves.specs.declared.Record.{Record}
use Rattle.moves.specs.declared.Listed.{Listed}
use Rattle.moves.proofs.OneReading.{length_row, length_whats, whats_append, whats_stamped}
use Rattle.moves.proofs.Rows.{row_on}
use Rattle.tape.specs.Lines.{line_at}
use Rattle.settings.specs.declared.Settings.{Settings}
use Rattle.moves.proofs.Room.{room_fits}
use Rattle.ahead.specs.Ahead.{onto, FoundAt}
use Rattle.steps.specs.of_taking.Steps.{Task, task_of, Step, listed_by, Taken, taken_from}
use Rattle.steps.specs.Meets.{Ready, Fit, Needs, Goes, Wrote, StepMeets}
use Rattle.ahead.specs.declared.ProgramAt.{ProgramAt}
use Rattle.ahead.specs.declared.Frame.{Frame}
use Rattle.ahead.specs.declared.Onward.{Onward}
use Rattle.ahead.specs.declared.Onward.TheVariants.{On, Call, Jump, Return, End, Stop}
use Rattle.steps.specs.of_taking.declared.StepDone.{StepDone}
use Rattle.steps.specs.of_taking.declared.Run.{Run}
use Rattle.runners.specs.declared.Ending.{Ending}
use Rattle.runners.specs.declared.Ending.TheVariants.{Returned, Ended, Stopped}
use Rattle.runners.specs.declared.Outcome.{Outcome}
use Rattle.runners.specs.Runs.{Ran, ran, records_of, listed_of, pre, go_back, and_then, go_on, onward, blocks, blocks_in_all, enough as spare, repeated, called, program_run}
use Rattle.runners.specs.Meets.{Begins, Took, RanMeets}
use Rattle.runners.specs.contracts.Ending.{the_type}

-- ---- written
pub took_nil : (t : Task) (b : List ℕ) (r : Run) → Fit t r → Took t b r [] b r
unfolding listed_of row_bytes
took_nil t b r f = record { buffer = sym (laid_nil b (record_start r.count)); count = omega arith; fit = f; left = omega arith }

pub records_append : (v w : List Step) → records_of (v ++ w) ≡ records_of v ++ records_of w
unfolding records_of
records_append [] w = refl
records_append (s ∷ v) w = ap (λ (l : List Record). s.records ++ l) (records_append v w) ∙ sym (append_assoc s.records (records_of v) (records_of w))

pub listed_append : (v w : List Step) → listed_of (v ++ w) ≡ listed_of v ++ listed_of w
unfolding listed_of
listed_append [] w = refl
listed_append (s ∷ v) w = ap (λ (l : List Listed). listed_by s ++ l) (listed_append v w) ∙ sym (append_assoc (listed_by s) (listed_of v) (listed_of w))

-- what is done by the list is what the steps have done, and there is a record in it for each of theirs
pub listed_whats : (v : List Step) → whats (listed_of v) ≡ records_of v
unfolding listed_of records_of whats
listed_whats [] = refl
listed_whats (s ∷ v) = whats_append (listed_by s) (listed_of v) ∙ (λ i. whats_stamped s.origin s.records i ++ listed_whats v i)

pub length_listed : (v : List Step) → length (listed_of v) ≡ length (records_of v)
length_listed v = sym (length_whats (listed_of v)) ∙ ap length (listed_whats v)

-- a step's records are those of the step
pub took_one : (t : Task) {b e : List ℕ} {r s : Run} (st : Step) → Wrote t b r (listed_by st) e s → Took t b r (st ∷ []) e s
unfolding listed_of
took_one t {b} {e} {r} {s} st w = subst (λ (l : List Listed). Wrote t b r l e s) (sym (append-nil (listed_by st))) w

-- ---- runs
pub pre_nil : (x : Ran) → x ≡ pre [] x
unfolding pre
pre_nil x = refl

pub pre_pre : (v w : List Step) (x : Ran) → pre v (pre w x) ≡ pre (v ++ w) x
unfolding pre
pre_pre v w x = ap (λ (l : List Step). record { outcome = x.outcome; steps = l }) (sym (append_assoc v w x.steps))

then_is : (x : Ran) (k : Run → Ran) {o : Outcome} {h : Ending} → o ≡ x.outcome → o.ending ≡ h → and_then x k ≡ go_back h x k
unfolding and_then
then_is x k p e = ap (λ (y : Outcome). go_back y.ending x k) (sym p) ∙ ap (λ (y : Ending). go_back y x k) e

onward_is : (call : ProgramAt → ℕ → Run → Ran) (k : ℕ → Run → Ran) (x : Taken) {d : StepDone} {w : Onward} → d ≡ x.done → d.onward ≡ w
    → onward call k x ≡ go_on call k w d.run d.after x.step
unfolding onward
onward_is call k x {d} p e =
    ap (λ (y : StepDone). go_on call k y.onward y.run y.after x.step) (sym p) ∙ ap (λ (v : Onward). go_on call k v d.run d.after x.step) e

-- a run that did not return, as the `_` of a `match` has it: its tag is one of the others
not_returned : (h : Ending) (x : Ran) (k : Run → Ran) → OneOf (1 ∷ 2 ∷ []) (tag_of the_type h) → go_back h x k ≡ x
unfolding go_back
not_returned Returned x k t = absurd (⊎_elim (λ e. omega arith) (λ e. omega arith) t)
not_returned Ended x k t = refl
not_returned (Stopped alarm place) x k t = refl

-- one step of a program, at any fuel
blocks_suc : (call : ProgramAt → ℕ → Run → Ran) (t : Task) (n : ℕ) (f : Frame) (r : Run) → blocks call t (suc n) f r ≡ onward call (λ p s. blocks call t n (onto f p) s) (taken_from t f r)
unfolding blocks
blocks_suc call t n f r = refl

-- a frame of its parts
abbrev pub on : ProgramAt → ℕ → ℕ → Frame
on program calls at = record { program = program; calls_left = calls; at = at }

-- A PROGRAM'S LOOP: from the buffer b₀ and the run r₀ it came to b and r, and what is left to run is the program from `at` on
pub record Going (t : Task) (program : ProgramAt) (calls : ℕ) (b₀ : List ℕ) (r₀ : Run) (b : List ℕ) (r : Run) (at : ℕ) : Type 0 where
  pub fuel : ℕ
  pub done : List Step
  pub same : program_run t program calls r₀ ≡ pre done (blocks (called t calls) t (suc fuel) (on program calls at) r)
  pub took : Took t b₀ r₀ done b r
  pub enough : r.blocks_left ≤ fuel
  pub size : length b ≡ length b₀
  pub here : at ≤ length t.tape

-- A CALL'S LOOP: from b₀ and r₀ it came to b and r, and n runs of the program are left
pub record Repeating (t : Task) (program : ProgramAt) (calls times : ℕ) (b₀ : List ℕ) (r₀ : Run) (b : List ℕ) (r : Run) (n : ℕ) : Type 0 where
  pub done : List Step
  pub same : called t calls program times r₀ ≡ pre done (repeated (program_run t program (calls - 1)) n r)
  pub took : Took t b₀ r₀ done b r
  pub size : length b ≡ length b₀

-- ---- with a buffer b₀, whose length gives the task its room
module _ (tape : List ℕ) (table : List ℤ) (set : Settings) (first : ℕ) (b₀ : List ℕ) (header : header_size ≤ length b₀) where
  abbrev t : Task
  t = task_of tape table set first (length b₀)

  -- a run that fits has its records in the buffer
  fits : (b : List ℕ) → length b ≡ length b₀ → {r : Run} → Fit t r → record_start r.count ≤ length b
  fits b same {r} f = omega (arith, same, room_fits (length b₀) r.count header f.count)

  pub wrote_length : {b e : List ℕ} → length b ≡ length b₀ → (v : List Listed) {r s : Run} → Wrote t b r v e s → length e ≡ length b₀
  wrote_length {b} {e} same v {r} {s} w =
      ap length w.buffer ∙ length_laid b (record_start r.count) (row_bytes v) (omega (arith, fits b same w.fit, w.count, length_row v)) ∙ same

  pub took_trans : (v w : List Step) {b m e : List ℕ} → length b ≡ length b₀ → {r q s : Run} → Took t b r v m q → Took t m q w e s → Took t b r (v ++ w) e s
  took_trans v w {b} {m} {e} same {r} {q} {s} p k =
      let x = listed_of v in
      let y = listed_of w in record {
        buffer = k.buffer
            ∙ ap (λ (l : List ℕ). laid l (record_start q.count) (row_bytes y)) p.buffer
            ∙ row_on b r.count x y q.count (sym p.count) (fits b same p.fit)
            ∙ ap (λ (l : List Listed). laid b (record_start r.count) (row_bytes l)) (sym (listed_append v w));
        count = omega (arith, p.count, k.count, ap length (listed_append v w) ∙ length-append x y);
        fit = k.fit;
        left = omega (arith, p.left, k.left);
      }

  -- a run after some steps
  pub after : (w : List Step) {x y : Ran} {b m e : List ℕ} → length b ≡ length b₀ → {r q : Run} {o : Outcome} → y ≡ pre w x → Took t b r w m q → RanMeets t x m q o e
      → RanMeets t y b r o e
  unfolding pre
  after w {x} {y} {b} {m} {e} same {r} {q} {o} h p k =
      subst (λ (z : Ran). RanMeets t z b r o e) (sym h) (record { outcome = k.outcome; took = took_trans w x.steps same p k.took })

  -- a run that is stopped before it begins
  pub nothing : {x : Ran} {h : Ending} {b : List ℕ} {r : Run} → x ≡ ran h r [] → Fit t r → RanMeets t x b r (record { ending = h; run = r }) b
  nothing {x} {h} {b} {r} e f =
      subst (λ (z : Ran). RanMeets t z b r (record { ending = h; run = r }) b) (sym e) (record { outcome = refl; took = took_nil t b r f })

  module _ (program : ProgramAt) (calls : ℕ) (r₀ : Run) where
    pub start : Fit t r₀ → r₀.blocks_left ≤ blocks_in_all → (line_at tape program.line).after ≤ length tape → Going t program calls b₀ r₀ b₀ r₀ (line_at tape program.line).after
    unfolding spare
    start f few here = record {
      fuel = 20_000;
      done = [];
      same = pre_nil (program_run t program calls r₀);
      took = took_nil t b₀ r₀ f;
      enough = few;
      size = refl;
      here = here;
    }

    pub start_at : Fit t r₀ → r₀.blocks_left ≤ blocks_in_all → {at : ℕ} → at ≡ (line_at tape program.line).after → at ≤ length tape → Going t program calls b₀ r₀ b₀ r₀ at
    start_at f few {at} e h =
        subst (Going t program calls b₀ r₀ b₀ r₀) (sym e) (start f few (subst (λ (p : ℕ). p ≤ length tape) e h))

    -- what a step asks for
    pub step_needs : {b places : List ℕ} {count : ℕ} {r : Run} {at : ℕ} → Going t program calls b₀ r₀ b r at → FoundAt tape first program → Ready t (length b₀) places count
        → Needs (task_of tape table set first (length b)) (length b) places count (on program calls at) r
    step_needs {b} {places} {count} {r} {at} g p k =
        subst (λ (n : ℕ). Needs (task_of tape table set first n) n places count (on program calls at) r) (sym g.size) (record { ready = k; fit = g.took.fit; there = p; here = g.here })

    -- the program at a fuel, a place and a run
    abbrev rest : ℕ → ℕ → Run → Ran
    rest f at r = blocks (called t calls) t f (on program calls at) r

    -- a turn that took the steps v
    turn : (f : ℕ) (w v : List Step) {b e : List ℕ} {r s : Run} (to : ℕ) → program_run t program calls r₀ ≡ pre w (pre v (rest f to s))
        → Took t b₀ r₀ w b r → length b ≡ length b₀ → Took t b r v e s → s.blocks_left < f → to ≤ length tape → Going t program calls b₀ r₀ e s to
    turn zero w v to h p l q enough here = absurd (omega arith)
    turn (suc f) w v {s = s} to h p l q enough here = record {
      fuel = f;
      done = w ++ v;
      same = h ∙ pre_pre w v (rest (suc f) to s);
      took = took_trans w v refl p q;
      enough = omega arith;
      size = wrote_length l (listed_of v) q;
      here = here;
    }

    module _ {b : List ℕ} {r : Run} {at : ℕ} (g : Going t program calls b₀ r₀ b r at) {d : StepDone} {e : List ℕ} (m₀ : StepMeets (task_of tape table set first (length b)) b (on program calls at) r d e) where
      -- the step, in the task of the whole run
      m : StepMeets t b (on program calls at) r d e
      m = subst (λ (n : ℕ). StepMeets (task_of tape table set first n) b (on program calls at) r d e) g.size m₀

      abbrev taken : Taken
      taken = taken_from t (on program calls at) r

      abbrev here : Step
      here = taken.step

      took : Took t b r (here ∷ []) e d.run
      took = took_one t here m.wrote

      pub size_after : length e ≡ length b₀
      size_after = wrote_length g.size (listed_by here) m.wrote

      -- what is left, by its next step, which asks w of the runner
      unrolled : {w : Onward} → d.onward ≡ w → program_run t program calls r₀ ≡ pre g.done (go_on (called t calls) (rest g.fuel) w d.run d.after here)
      unrolled h =
          g.same
          ∙ ap (pre g.done) (blocks_suc (called t calls) t g.fuel (on program calls at) r ∙ onward_is (called t calls) (rest g.fuel) taken m.done h)

      goes : {w : Onward} → d.onward ≡ w → Goes t r d.run here.records w
      goes h = subst (Goes t r d.run here.records) h m.goes

      -- on to the next line
      pub less_on : d.onward ≡ On → d.run.blocks_left < r.blocks_left
      less_on h = goes h

      pub next : d.onward ≡ On → Going t program calls b₀ r₀ e d.run d.after
      unfolding go_on
      next h = turn g.fuel g.done (here ∷ []) d.after (unrolled h) g.took g.size took (omega (arith, less_on h, g.enough)) m.after

      -- a jump
      pub less_jump : (p : ℕ) → d.onward ≡ Jump p → d.run.blocks_left < r.blocks_left
      less_jump p h = (goes h).0

      pub jump : (p : ℕ) → d.onward ≡ Jump p → Going t program calls b₀ r₀ e d.run p
      unfolding go_on
      jump p h = turn g.fuel g.done (here ∷ []) p (unrolled h) g.took g.size took (omega (arith, less_jump p h, g.enough)) (goes h).1

      -- an end that the block asks for, with the steps l
      ends : {w : Onward} {h : Ending} (l : List Step) → d.onward ≡ w → go_on (called t calls) (rest g.fuel) w d.run d.after here ≡ ran h d.run l
          → Took t b r l e d.run → RanMeets t (program_run t program calls r₀) b₀ r₀ (record { ending = h; run = d.run }) e
      ends {h = h} l p q k =
          after g.done refl (unrolled p ∙ ap (pre g.done) q) g.took (record { outcome = refl; took = k })

      pub returns : d.onward ≡ Return → RanMeets t (program_run t program calls r₀) b₀ r₀ (record { ending = Returned; run = d.run }) e
      unfolding go_on
      returns p = ends (here ∷ []) p refl took

      pub ended : d.onward ≡ End → RanMeets t (program_run t program calls r₀) b₀ r₀ (record { ending = Ended; run = d.run }) e
      unfolding go_on
      ended p = ends (here ∷ []) p refl took

      -- a refused block has written nothing
      pub stops : (alarm place : ℕ) → d.onward ≡ Stop alarm place → RanMeets t (program_run t program calls r₀) b₀ r₀ (record { ending = Stopped alarm place; run = d.run }) e
      unfolding go_on listed_of stamped
      stops alarm place p = ends [] p refl (subst (λ (l : List Record). Wrote t b r (stamped here.origin l) e d.run) (goes p) m.wrote)

      -- a call
      module _ (p : ProgramAt) (times : ℕ) (h : d.onward ≡ Call p times) where
        pub less_call : d.run.blocks_left < r.blocks_left
        less_call = (goes h).0

        pub call_begins : {places : List ℕ} {count : ℕ} → Ready t (length b₀) places count → r₀.blocks_left ≤ blocks_in_all
            → Begins (task_of tape table set first (length e)) (length e) places count p d.run
        call_begins {places} {count} k few =
            subst (λ (n : ℕ). Begins (task_of tape table set first n) n places count p d.run) (sym size_after)
            (record { ready = k; fit = m.wrote.fit; there = (goes h).1; few = omega (arith, less_call, g.took.left, few) })

        module _ {o : Outcome} {u : List ℕ} (q₀ : RanMeets (task_of tape table set first (length e)) (called (task_of tape table set first (length e)) calls p times d.run) e d.run o u) where
          q : RanMeets t (called t calls p times d.run) e d.run o u
          q = subst (λ (n : ℕ). RanMeets (task_of tape table set first n) (called (task_of tape table set first n) calls p times d.run) e d.run o u) size_after q₀

          abbrev run : Ran
          run = called t calls p times d.run

          been : {w : Ending} → o.ending ≡ w → program_run t program calls r₀ ≡ pre (g.done ++ (here ∷ [])) (go_back w run (rest g.fuel d.after))
          unfolding go_on
          been k =
              unrolled h ∙ pre_pre g.done (here ∷ []) (and_then run (rest g.fuel d.after))
              ∙ ap (pre (g.done ++ (here ∷ []))) (then_is run (rest g.fuel d.after) q.outcome k)

          so_far : Took t b₀ r₀ (g.done ++ (here ∷ [])) e d.run
          so_far = took_trans g.done (here ∷ []) refl g.took took

          pub call_size : length u ≡ length b₀
          call_size = wrote_length size_after (listed_of run.steps) q.took

          pub call_left : o.run.blocks_left < r.blocks_left
          call_left = omega (arith, less_call, q.took.left)

          pub call_returned : o.ending ≡ Returned → Going t program calls b₀ r₀ u o.run d.after
          unfolding go_back
          call_returned k =
              turn g.fuel (g.done ++ (here ∷ [])) run.steps d.after
              (been k ∙ ap (λ (x : Outcome). pre (g.done ++ (here ∷ [])) (pre run.steps (rest g.fuel d.after x.run))) (sym q.outcome))
              so_far size_after q.took (omega (arith, call_left, g.enough)) m.after

          pub call_broke : OneOf (1 ∷ 2 ∷ []) (tag_of the_type o.ending) → RanMeets t (program_run t program calls r₀) b₀ r₀ o u
          call_broke k =
              after (g.done ++ (here ∷ [])) refl (been refl ∙ ap (pre (g.done ++ (here ∷ []))) (not_returned o.ending run (rest g.fuel d.after) k)) so_far q

  -- ---- a call
  module _ (program : ProgramAt) (calls times : ℕ) (r₀ : Run) where
    abbrev body : Run → Ran
    body r = program_run t program (calls - 1) r

    pub none_left : calls ≡ 0 → called t calls program times r₀ ≡ ran (Stopped too_deep program.line) r₀ []
    unfolding called
    none_left e = ap (λ (c : ℕ). called t c program times r₀) e

    called_suc : (c : ℕ) → called t (suc c) program times r₀ ≡ repeated (λ s. program_run t program c s) times r₀
    unfolding called
    called_suc c = refl

    called_some : (c : ℕ) → (c ≡ 0 → ⊥) → called t c program times r₀ ≡ repeated (λ s. program_run t program (c - 1) s) times r₀
    called_some zero h = absurd (h refl)
    called_some (suc c) h = rw (sub-one (suc c)) (called_suc c)

    pub first_time : Fit t r₀ → (calls ≡ 0 → ⊥) → Repeating t program calls times b₀ r₀ b₀ r₀ times
    first_time f h = record { done = []; same = called_some calls h ∙ pre_nil (repeated body times r₀); took = took_nil t b₀ r₀ f; size = refl }

    repeated_some : (n : ℕ) (r : Run) → 0 < n → repeated body n r ≡ and_then (body r) (repeated body (n - 1))
    unfolding repeated
    repeated_some zero r h = absurd (omega arith)
    repeated_some (suc n) r h = rw (sub-one (suc n))

    -- all runs are done
    pub all : {b : List ℕ} {r : Run} {n : ℕ} → Repeating t program calls times b₀ r₀ b r n → n ≡ 0 → RanMeets t (called t calls program times r₀) b₀ r₀ (record { ending = Returned; run = r }) b
    unfolding repeated
    all {b} {r} g h = after g.done refl (g.same ∙ ap (λ (m : ℕ). pre g.done (repeated body m r)) h) g.took (nothing refl g.took.fit)

    module _ {b : List ℕ} {r : Run} {n : ℕ} (g : Repeating t program calls times b₀ r₀ b r n) (some : 0 < n) where
      pub run_begins : {places : List ℕ} {count : ℕ} → FoundAt tape first program → Ready t (length b₀) places count → r₀.blocks_left ≤ blocks_in_all
          → Begins (task_of tape table set first (length b)) (length b) places count program r
      run_begins {places} {count} p k few =
          subst (λ (m : ℕ). Begins (task_of tape table set first m) m places count program r) (sym g.size)
          (record { ready = k; fit = g.took.fit; there = p; few = omega (arith, g.took.left, few) })

      module _ {o : Outcome} {u : List ℕ} (q₀ : RanMeets (task_of tape table set first (length b)) (program_run (task_of tape table set first (length b)) program (calls - 1) r) b r o u) where
        back : RanMeets t (body r) b r o u
        back = subst (λ (m : ℕ). RanMeets (task_of tape table set first m) (program_run (task_of tape table set first m) program (calls - 1) r) b r o u) g.size q₀

        once : {w : Ending} → o.ending ≡ w → called t calls program times r₀ ≡ pre g.done (go_back w (body r) (repeated body (n - 1)))
        once k = g.same ∙ ap (pre g.done) (repeated_some n r some ∙ then_is (body r) (repeated body (n - 1)) back.outcome k)

        pub size_once : length u ≡ length b₀
        size_once = wrote_length g.size (listed_of (body r).steps) back.took

        pub again : o.ending ≡ Returned → Repeating t program calls times b₀ r₀ u o.run (n - 1)
        unfolding go_back
        again k = record {
          done = g.done ++ (body r).steps;
          same = once k ∙ pre_pre g.done (body r).steps (repeated body (n - 1) (body r).outcome.run)
              ∙ ap (λ (x : Outcome). pre (g.done ++ (body r).steps) (repeated body (n - 1) x.run)) (sym back.outcome);
          took = took_trans g.done (body r).steps refl g.took back.took;
          size = size_once;
        }

        pub broke : OneOf (1 ∷ 2 ∷ []) (tag_of the_type o.ending) → RanMeets t (called t calls program times r₀) b₀ r₀ o u
        broke k = after g.done refl (once refl ∙ ap (pre g.done) (not_returned o.ending (body r) (repeated body (n - 1)) k)) g.took back
