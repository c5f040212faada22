-- THE LAW OF THE ONE-MOVE ENGINE, at the definitions: the k-th answer is record k of the list engine's run, or its answer.
-- Assumes nothing.
use mathlib.Core.Path.{◌≡◌, refl, sym, ap, subst, ◌∙◌}
use mathlib.Core.Bool.{Bool, true, false, cond}
use mathlib.Core.List.{List, [], ◌∷◌}
use Prim.Native.Nat.{ℕ, zero, suc, ◌≤◌, ◌<◌}
use native.Mathlib.Omega.{arith}
use lib.Dec.{ltb}
use lib.IntN.{ℤ}
use lib.ListN.{length, take}
use Rattle.alarms.specs.Numbers.{bad_settings, tape_too_long, program_missing}
use Rattle.tape.specs.Lines.{lines}
use Rattle.finding.specs.Finding.{find_program}
use Rattle.reading.specs.Filling.{read_with}
use Rattle.places.specs.declared.Found.{Found}
use Rattle.places.specs.declared.Found.TheVariants.{At, Nowhere}
use Rattle.reading.specs.declared.Read.{Read}
use Rattle.reading.specs.declared.Read.TheVariants as read
use Rattle.settings.specs.declared.Settings.{Settings}
use Rattle.ahead.specs.Ahead.{most_calls}
use Rattle.interpreter.specs.of_taking.Steps.{Task, task_of}
use Rattle.interpreter.specs.of_taking.declared.Run.{Run}
use Rattle.interpreter.specs.of_runners.Runs.{Ran, program_run, listed_of, blocks_in_all, enough}
use Rattle.interpreter.specs.of_answers.declared.Answer.{Answer}
use Rattle.interpreter.specs.of_answers.declared.Answer.TheVariants.{Alarm}
use Rattle.interpreter.specs.of_answers.Answers.{start_of}
use Rattle.interpreter.specs.Answers.{Result, refused, result_of, main_at, main_by, main_run, read_then, longest_tape, interpretation_by, interpretation}
use Rattle.settings.specs.Points.{with_points}
use Rattle.settings.specs.Wrong.{settings_wrong}
use Rattle.resuming.specs.declared.Handed.TheVariants.{Over}
use Rattle.resuming.specs.Handed.{Made, Left, left_of, handed_of, handed, roomy}
use Rattle.resuming.specs.Engines.{Phase, Running, Done, Engine, turn, ready_by, ready, given, ask, answers, ahead, joined, remaining, Started, Refused, main_found, read_for, start, engine_at, answers_of}
use Rattle.resuming.specs.OneMove.{OneMove}
use Rattle.interpreter.proofs.Staying.{all_stay}
use Rattle.resuming.proofs.Remaining.{begins}
use Rattle.resuming.proofs.Turns.{turn_same, turn_nearer, weight, weight_of}

-- ---- made ready: the same is left, and a record is at hand or the run is over
abbrev Stopped : List Made → Phase → Type 0
Stopped (r ∷ rs) p = Unit {0}
Stopped [] (Done a) = Unit {0}
Stopped [] Running = ⊥

pub record Readied (t : Task) (e u : Engine) : Type 0 where
  pub same : remaining t u ≡ remaining t e
  pub left : u.run.blocks_left ≤ blocks_in_all
  pub stopped : Stopped u.rest u.phase

readied_by : (t : Task) (e next : Engine) → e.run.blocks_left ≤ blocks_in_all → (e.rest ≡ [] → e.phase ≡ Running → Readied t e next)
    → (l : List Made) (p : Phase) → e.rest ≡ l → e.phase ≡ p → Readied t e (ready_by l p e next)
unfolding ready_by
readied_by t e next b go (r ∷ rs) p x y = record { same = refl; left = b; stopped = subst (λ (l : List Made). Stopped l e.phase) (sym x) tt }
readied_by t e next b go [] (Done a) x y =
    record { same = refl; left = b; stopped = subst (λ (l : List Made). Stopped l e.phase) (sym x) (subst (Stopped []) (sym y) tt) }
readied_by t e next b go [] Running x y = go x y

heavy : (e : Engine) (f : ℕ) → weight_of e ≤ f → e.phase ≡ Running → e.run.blocks_left < f
heavy e f h p = subst (λ (q : Phase). weight q e.run ≤ f) p h

turned : (t : Task) (e u : Engine) → e.run.blocks_left ≤ blocks_in_all → e.rest ≡ [] → e.phase ≡ Running → Readied t (turn t e) u → Readied t e u
turned t e u b z p r = record { same = r.same ∙ turn_same t e b z p; left = r.left; stopped = r.stopped }

readied : (f : ℕ) (t : Task) (e : Engine) → weight_of e ≤ f → e.run.blocks_left ≤ blocks_in_all → Readied t e (ready (suc f) t e)
unfolding ready
readied zero t e h b =
    readied_by t e (turn t e) b (λ z p. absurd (omega (arith, heavy e 0 h p))) e.rest e.phase refl refl
readied (suc f) t e h b =
    readied_by t e (ready (suc f) t (turn t e)) b
    (λ z p. let n = turn_nearer t e in
    turned t e (ready (suc f) t (turn t e)) b z p (readied f t (turn t e) (omega (arith, n.less, heavy e (suc f) h p)) (omega (arith, n.left))))
    e.rest e.phase refl refl

-- ---- given
ahead_same : (t : Task) (p : Phase) (l : List Made) (q : Phase) (u : Engine)
    → ahead t p (record { rest = l; phase = q; calls = u.calls; program = u.program; from = u.from; frames = u.frames; run = u.run }) ≡ ahead t p u
unfolding ahead
ahead_same t (Done a) l q u = refl
ahead_same t Running l q u = refl

given_first : (t : Task) (u : Engine) (l : List Made) (p : Phase) → Stopped l p → u.rest ≡ l → u.phase ≡ p → handed (remaining t u) 0 ≡ (given l p u).handed
unfolding remaining joined ahead given handed_of
given_first t u (r ∷ rs) p s x y = ap (λ (l : List Made). handed (joined l (ahead t u.phase u)) 0) x
given_first t u [] (Done a) s x y = λ i. handed (joined (x i) (ahead t (y i) u)) 0
given_first t u [] Running s x y = absurd s

over_at_lem : (t : Task) (u : Engine) (a : Answer) → u.rest ≡ [] → u.phase ≡ Done a → (k : ℕ) → handed (remaining t u) k ≡ Over a
unfolding remaining joined ahead handed_of
over_at_lem t u a x y k = λ i. handed (joined (x i) (ahead t (y i) u)) k

given_others : (t : Task) (u : Engine) (l : List Made) (p : Phase) → Stopped l p → u.rest ≡ l → u.phase ≡ p → (k : ℕ)
    → handed (remaining t u) (suc k) ≡ handed (remaining t (given l p u).engine) k
unfolding remaining joined given handed_of
given_others t u (r ∷ rs) p s x y k =
    (λ i. handed (joined (x i) (ahead t (y i) u)) (suc k)) ∙ ap (λ (z : Left). handed (joined rs z) k) (sym (ahead_same t p rs p u))
given_others t u [] (Done a) s x y k = over_at_lem t u a x y (suc k) ∙ sym (over_at_lem t u a x y k)
given_others t u [] Running s x y k = absurd s

given_run : (u : Engine) (l : List Made) (p : Phase) → (given l p u).engine.run ≡ u.run
unfolding given
given_run u (r ∷ rs) p = refl
given_run u [] (Done a) = refl
given_run u [] Running = refl

-- ---- the answers, in turn
below : (e : Engine) → e.run.blocks_left ≤ blocks_in_all → weight_of e ≤ enough
unfolding enough
below e h = go e.phase
  where
    go : (p : Phase) → weight p e.run ≤ enough
    go Running = omega arith
    go (Done a) = omega arith

pub in_turn_lem : (k : ℕ) (t : Task) (e : Engine) → e.run.blocks_left ≤ blocks_in_all → answers t e k ≡ handed (remaining t e) k
unfolding answers ask
in_turn_lem zero t e h =
    let u = ready (suc enough) t e in
    let r = readied enough t e (below e h) h in
    sym (given_first t u u.rest u.phase r.stopped refl refl) ∙ ap (λ (x : Left). handed x 0) r.same
in_turn_lem (suc k) t e h =
    let u = ready (suc enough) t e in
    let r = readied enough t e (below e h) h in
    in_turn_lem k t (given u.rest u.phase u).engine (omega (arith, ap (λ (q : Run). q.blocks_left) (given_run u u.rest u.phase), r.left))
    ∙ sym (given_others t u u.rest u.phase r.stopped refl refl k) ∙ ap (λ (x : Left). handed x (suc k)) r.same

-- from the start of a program
started : (t : Task) (p : ℕ) → remaining t (engine_at t p) ≡ left_of (result_of (program_run t (main_at t.settings p) most_calls (start_of t.settings)))
unfolding engine_at remaining joined ahead
started t p = ap (λ (x : Ran). left_of (result_of x)) (sym (begins t (main_at t.settings p) most_calls (start_of t.settings)))

pub from_start : (t : Task) (p k : ℕ) → answers t (engine_at t p) k ≡ handed (left_of (result_of (program_run t (main_at t.settings p) most_calls (start_of t.settings)))) k
unfolding engine_at
from_start t p k =
    in_turn_lem k t (engine_at t p) (omega arith) ∙ ap (λ (x : Left). handed x k) (started t p)

-- ---- FOR EVERY TAPE, TABLE AND SETTINGS: the answers in turn are the list engine's records and then its answer, its buffer being 64,008 bytes
refused_all : (alarm place k : ℕ) → Over (Alarm alarm place 0) ≡ handed (left_of (refused alarm place)) k
unfolding left_of listed_of handed_of
refused_all alarm place k = refl

main_all : (t : Task) (f : Found) (k : ℕ) → answers_of (main_found t f) k ≡ handed (left_of (main_by t f)) k
unfolding answers_of main_found main_by
main_all t Nowhere k = refused_all program_missing 0 k
main_all t (At p) k = from_start t p k

read_all : (tape : List ℕ) (table : List ℤ) (set : Settings) (r : Read) (k : ℕ) → answers_of (read_for tape table set r) k ≡ handed (left_of (read_then tape table set roomy r)) k
unfolding read_for read_then main_run answers_of
read_all tape table set (read.Alarm alarm place) k = refused_all alarm place k
read_all tape table set (read.Whole first end) k =
    let t = task_of (take end tape) table (with_points false set) first roomy in
    main_all t (find_program t.settings.main (lines (take end tape) first)) k

either : (b : Bool) (alarm place k : ℕ) (s : Started) (x : Result) → answers_of s k ≡ handed (left_of x) k
    → answers_of (cond b (Refused alarm place) s) k ≡ handed (left_of (cond b (refused alarm place) x)) k
unfolding answers_of
either true alarm place k s x h = refused_all alarm place k
either false alarm place k s x h = h

same : (tape : List ℕ) (table : List ℤ) (set : Settings) (size k : ℕ) → answers_of (start tape table set size) k ≡ handed (left_of (interpretation tape table set size roomy)) k
unfolding start interpretation interpretation_by
same tape table set size k =
    let r = (read_with set.points size tape).read in
    either (settings_wrong table set) bad_settings 0 k (cond (ltb longest_tape (length tape)) (Refused tape_too_long 0) (read_for tape table set r))
    (cond (ltb longest_tape (length tape)) (refused tape_too_long 0) (read_then tape table set roomy r))
    (either (ltb longest_tape (length tape)) tape_too_long 0 k (read_for tape table set r) (read_then tape table set roomy r) (read_all tape table set r k))

pub one_move : (tape : List ℕ) (table : List ℤ) (set : Settings) (size : ℕ) → OneMove tape table set size
one_move tape table set size = record {
  same = same tape table set size;
  long = λ h k. same tape table set size k ∙ ap (λ (x : Result). handed (left_of x) k) (all_stay tape table set size h roomy);
}
