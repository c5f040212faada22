-- Demands 1 and 2: what the buffer holds after any answer, and that a list's bytes have one reading.
-- Assumes nothing.
use mathlib.Core.Path.{◌≡◌, refl, sym, ap, ◌∙◌, subst}
use mathlib.Core.Bool.{Bool, false}
use mathlib.Core.List.{List, [], ◌∷◌, ◌++◌, append_assoc}
use Prim.Native.Nat.{ℕ, ◌+◌, ◌-◌, ◌*◌, ◌/◌, ◌%◌, ◌<◌, ◌≤◌}
use native.Mathlib.Omega.{arith}
use lib.IntN.{ℤ}
use lib.ListN.{length, take, drop, length-append, length-take, length-drop}
use lib.Seq.{take_at, drop_at}
use borrow.Author.Tests.{ne_eqb}
use Rattle.octets.specs.Bytes.{laid}
use Rattle.octets.proofs.Laying.{laid_nil}
use Rattle.alarms.specs.Given.{IsAlarm}
use Rattle.alarms.proofs.Above.{alarm_above, not_eight, given_more}
use Rattle.moves.specs.Form.{header_size, record_size, record_start, record_limit, room_of, header_bytes, row_bytes, list_bytes, AllListed, LawfulList}
use Rattle.moves.specs.Reading.{row_at, count_in, list_in, row_in}
use Rattle.moves.specs.declared.Listed.{Listed}
use Rattle.moves.proofs.OneReading.{length_row, length_list, read_after, list_read, one_reading}
use Rattle.settings.specs.Known.{Table}
use Rattle.state.specs.Known.{Sound}
use Rattle.targets.proofs.Ranges.{start_sound}
use Rattle.settings.specs.Known.{InRange}
use Rattle.settings.specs.Points.{with_points}
use Rattle.settings.specs.declared.Settings.{Settings}
use Rattle.interpreter.proofs.of_machine.Running.{done_few}
use Rattle.moves.proofs.Room.{room_few, room_fits}
use Rattle.ahead.specs.Ahead.{most_calls, onto, FoundAt}
use Rattle.ahead.specs.declared.ProgramAt.{ProgramAt}
use Rattle.interpreter.specs.of_taking.Steps.{Task, task_of, Step, listed_by, block_on, run_after}
use Rattle.interpreter.specs.of_taking.declared.Run.{Run}
use Rattle.interpreter.specs.of_answers.Answers.{count_of, answer_by, start_of, headed}
use Rattle.interpreter.specs.Answers.{Result, refused, result_of, main_at, longest_tape, interpretation, answer_of, laid_by}
use Rattle.interpreter.specs.of_runners.Runs.{listed_of, program_run}
use Rattle.interpreter.proofs.of_runners.Going.{length_listed}
use Rattle.interpreter.specs.of_answers.declared.Answer.{Answer}
use Rattle.interpreter.specs.of_answers.declared.Answer.TheVariants.{Complete, Alarm}
use Rattle.interpreter.specs.of_runners.declared.Ending.{Ending}
use Rattle.interpreter.specs.of_runners.declared.Ending.TheVariants.{Returned, Ended, Stopped}
use Rattle.demands.specs.Demands.{Front, HoldsAfter, Named, Told, Owed, IsList, DemandOne, DemandTwo}
use Rattle.demands.specs.Steps.{Linked}
use Rattle.demands.proofs.Buffers.{AllFit, listed_fit, chain_fits, FrontBy, Form, form}
use Rattle.demands.proofs.Cycles.{counted}
use Rattle.demands.proofs.Demands.{count_by}
use Rattle.demands.proofs.Linked.{StopsOn, free_own, program_leads}
use Rattle.demands.proofs.Origins.{program_comes}
use Rattle.demands.proofs.Placed.{table_after}
use Rattle.demands.proofs.Results.{every_result}

-- ---- along the chain
all_fit : (sts : List Step) → AllFit sts → AllListed (listed_of sts)
unfolding listed_of
all_fit [] f = tt
all_fit (st ∷ sts) f = listed_fit (listed_by st) (listed_of sts) f.0 (all_fit sts f.1)

-- no more records than there is room for
chain_room : (t : Task) (sts : List Step) (r s : Run) → r.count ≤ t.room → Linked t r sts s → s.count ≤ t.room
unfolding Linked run_after
chain_room t [] r s h l = omega (arith, h, ap (λ (q : Run). q.count) l)
chain_room t (st ∷ sts) r s h l =
    let b = block_on t.tape st.place in
    let k = free_own t (onto l.0.frame st.place) r l.0.free in
    let few = done_few t.table t.settings r.state b (t.room - r.count) k in
    chain_room t sts (run_after t st.place r) s (omega (arith, h, few)) l.1

-- ---- an answer by its number
no_list : (alarm place n count : ℕ) → Alarm alarm place n ≡ Complete count → ⊥
no_list alarm place n count e = subst alarmed e tt
  where
    alarmed : Answer → Type 0
    alarmed (Alarm a p m) = Unit {0}
    alarmed (Complete m) = ⊥

alarm_named : (points : Bool) (alarm place n : ℕ) → IsAlarm points alarm → Named points (Alarm alarm place n)
alarm_named points alarm place n h = record { complete = λ z. absurd (alarm_above points alarm h z); alarm = λ _. h }

list_named : (points : Bool) (n : ℕ) → Named points (Complete n)
list_named points n = record { complete = λ _. refl; alarm = λ some. absurd (some refl) }

front_by : (points : Bool) (a : Answer) (b e : List ℕ) → Named points a → FrontBy a b e → Front a b e
front_by points (Complete n) b e h f = f
front_by points (Alarm alarm place n) b e h f = rw (ne_eqb alarm 0 (λ z. no_list alarm place n n (h.complete z))) f

-- ---- what a buffer of that form holds
module _ (a : Answer) (b e : List ℕ) (rs : List Listed) (f : Form a b e rs) (fits : AllListed rs) where
  rows : length (f.before ++ row_bytes rs) ≡ record_start (length rs)
  rows = omega (arith, length-append f.before (row_bytes rs), f.size, length_row rs)

  reads : row_at e 0 (length rs) ≡ rs
  unfolding row_bytes
  reads = ap (λ (x : List ℕ). row_at x 0 (length rs)) f.is ∙ read_after f.before [] rs f.behind f.size fits

  holds : (points : Bool) → Named points a → count_of a ≡ length rs → record_start (length rs) ≤ length b → HoldsAfter a b e rs
  holds points named c room = record {
    counted = c;
    records = ap (row_at e 0) c ∙ reads;
    written = ap (λ (n : ℕ). take (record_size * n) (drop header_size e)) c
        ∙ ap (λ (x : List ℕ). take (record_size * length rs) (drop header_size x)) f.is
        ∙ ap (take (record_size * length rs)) (drop_at f.before (row_bytes rs ++ f.behind) header_size f.size)
        ∙ take_at (row_bytes rs) f.behind (record_size * length rs) (length_row rs);
    front = front_by points a b e named f.front;
    behind = ap (λ (n : ℕ). drop (record_start n) e) c
        ∙ ap (drop (record_start (length rs))) (f.is ∙ sym (append_assoc f.before (row_bytes rs) f.behind))
        ∙ drop_at (f.before ++ row_bytes rs) f.behind (record_start (length rs)) rows
        ∙ f.rest
        ∙ ap (λ (n : ℕ). drop (record_start n) b) (sym c);
    size = ap length (f.is ∙ sym (append_assoc f.before (row_bytes rs) f.behind) ∙ ap (λ (x : List ℕ). (f.before ++ row_bytes rs) ++ x) f.rest)
        ∙ sized;
  }
    where
      sized : length ((f.before ++ row_bytes rs) ++ drop (record_start (length rs)) b) ≡ length b
      sized = omega (arith, length-append (f.before ++ row_bytes rs) (drop (record_start (length rs)) b), rows, length-drop (record_start (length rs)) b, room)

-- ---- of a run
record Shown (points : Bool) (size : ℕ) (b : List ℕ) (x : Result) : Type 0 where
  one : Owed points size x b
  two : (count : ℕ) → x.answer ≡ Complete count → IsList count (laid_by x b) (listed_of x.steps)

-- an alarm before any block is begun
pub none_owed : (points : Bool) (size : ℕ) (b : List ℕ) (alarm place : ℕ) → IsAlarm points alarm → place ≤ size - 1 → place ≤ longest_tape → Owed points size (refused alarm place) b
unfolding laid_by listed_of row_bytes row_in
none_owed points size b alarm place some on near =
    let same : laid b (record_start 0) [] ≡ b = laid_nil b (record_start 0) in record {
      holds = record { counted = refl; records = refl; written = refl; front = front_by points (Alarm alarm place 0) b (laid b (record_start 0) []) (alarm_named points alarm place 0 some) (ap (take header_size) same); behind = ap (drop (record_start 0)) same; size = ap length same };
      told = record { number = alarm_named points alarm place 0 some; place = on; near = near; count = omega arith };
    }

none_shown : (points : Bool) (size : ℕ) (b : List ℕ) (alarm place : ℕ) → IsAlarm points alarm → place ≤ size - 1 → place ≤ longest_tape → Shown points size b (refused alarm place)
none_shown points size b alarm place some on near = record { one = none_owed points size b alarm place some on near; two = λ count e. absurd (no_list alarm place 0 count e) }

-- the numbers of an answer that a run comes to
told_by_lem : (points : Bool) (h : Ending) (n cut size : ℕ) → cut ≤ size → size ≤ longest_tape → StopsOn cut h → n ≤ record_limit → Told points size (answer_by h n)
unfolding answer_by
told_by_lem points Ended n cut size short near on few = record { number = list_named points n; place = omega arith; near = omega arith; count = few }
told_by_lem points (Stopped alarm place) n cut size short near on few =
    record { number = alarm_named points alarm place n (given_more points alarm on.0); place = omega (arith, short, on.1); near = omega (arith, short, near, on.1); count = few }
told_by_lem points Returned n cut size short near on few = record { number = alarm_named points _ 0 n refl; place = omega arith; near = omega arith; count = few }

-- the count of a complete list
complete_count : {a : Answer} {count : ℕ} → a ≡ Complete count → count_of a ≡ count
complete_count e = ap count_of e

list_count : (rs : List Listed) (tail : List ℕ) → LawfulList rs → count_in (list_bytes rs ++ tail) ≡ length rs
unfolding list_bytes header_bytes
list_count rs tail f = counts (length rs) f.few
  where
    counts : (n : ℕ) → n ≤ record_limit → n % 256 + 256 * (n / 256 % 256 + 256 * 0) ≡ n
    counts n h = omega (arith, h)

listed : (a : Answer) (b e : List ℕ) (rs : List Listed) → Form a b e rs → LawfulList rs → (count : ℕ) → a ≡ Complete count → count ≡ length rs → IsList count e rs
unfolding list_bytes
listed a b e rs f lawful count k c =
    let front : take header_size e ≡ header_bytes count = subst (λ (x : Answer). FrontBy x b e) k f.front in
    let before : f.before ≡ header_bytes count = sym (ap (take header_size) f.is ∙ take_at f.before (row_bytes rs ++ f.behind) header_size f.size) ∙ front in
    let is : e ≡ list_bytes rs ++ f.behind =
    f.is
    ∙ ap (λ (x : List ℕ). x ++ (row_bytes rs ++ f.behind)) (before ∙ ap header_bytes c)
    ∙ sym (append_assoc (header_bytes (length rs)) (row_bytes rs) f.behind) in record {
      lawful = lawful;
      written = ap (λ (n : ℕ). take (record_start n) e) c ∙ ap (take (record_start (length rs))) is ∙ take_at (list_bytes rs) f.behind (record_start (length rs)) (length_list rs);
      reads = ap list_in is ∙ list_read rs f.behind lawful;
      header = ap count_in is ∙ list_count rs f.behind lawful ∙ sym c;
      counted = c;
      alone = λ ss tail other same. sym (one_reading rs ss f.behind tail lawful other (sym is ∙ same));
    }

run_shown : (points : Bool) (size : ℕ) (b : List ℕ) → header_size ≤ length b → (t : Task) → length t.tape ≤ size → size ≤ longest_tape → t.room ≡ room_of (length b) → Table t.table → InRange t.settings
    → Sound (start_of t.settings).state → (p : ProgramAt) → p.line < length t.tape → FoundAt t.tape t.first p → Shown points size b (result_of (program_run t p most_calls (start_of t.settings)))
unfolding result_of laid_by list_bytes
run_shown points size b header t short near room known range sound p on found =
    let r = start_of t.settings in
    let x = program_run t p most_calls r in
    let leads = program_leads t p most_calls r on in
    let l = leads.linked in
    let rs = listed_of x.steps in
    let n = x.outcome.run.count in
    let a = answer_by x.outcome.ending n in
    let e = laid b (record_start 0) (row_bytes rs) in
    let f : Form a b (headed a e) rs = form b rs header a in
    let fits : AllListed rs = all_fit x.steps (chain_fits t known range x.steps r x.outcome.run sound (omega arith) l (program_comes t p most_calls r found)) in
    let are : n ≡ 0 + length rs = omega (arith, counted t x.steps r x.outcome.run l, length_listed x.steps) in
    let many : n ≡ length rs = omega (arith, are) in
    let few : n ≤ t.room = chain_room t x.steps r x.outcome.run (omega arith) l in
    let inside : record_start (length rs) ≤ length b = omega (arith, many, room_fits (length b) n header (omega (arith, few, room))) in
    let lawful : LawfulList rs = record { few = omega (arith, many, few, room, room_few (length b)); each = fits } in
    let told : Told points size a = told_by_lem points x.outcome.ending n (length t.tape) size short near leads.stops (omega (arith, few, room, room_few (length b))) in record {
      one = record { holds = holds a b (headed a e) rs f fits points told.number (count_by x.outcome.ending n ∙ many) inside; told = told };
      two = λ count k. listed a b (headed a e) rs f lawful count k (sym (complete_count k) ∙ count_by x.outcome.ending n ∙ many);
    }

-- ---- of every input
cut_short : (end : ℕ) (tape : List ℕ) → length (take end tape) ≤ length tape
cut_short end tape = omega (arith, length-take end tape)

module _ (tape : List ℕ) (table : List ℤ) (set : Settings) (size : ℕ) (b : List ℕ) where
  shown : Shown set.points (length tape) b (interpretation tape table set size (length b))
  shown =
      every_result (λ _. Shown set.points (length tape) b) tape table set size (length b) (λ _ alarm place some on near. none_shown set.points (length tape) b alarm place some on near)
      (λ h near _ k first end p on found.
      run_shown set.points (length tape) b h (task_of (take end tape) table (with_points false set) first (length b)) (cut_short end tape) near refl k.offsets k.range
      (start_sound set.x set.z k.starts.x k.starts.z) (main_at set p) on found)

  pub all_owed : Owed set.points (length tape) (interpretation tape table set size (length b)) b
  all_owed = shown.one

  pub demand_two : DemandTwo tape table set size b
  demand_two h = shown.two _ (shown.one.told.number.complete h)

  -- 02: "Show that 8 is never given"
  pub never_eight : (place count : ℕ) → answer_of tape table set size (length b) ≡ Alarm 8 place count → ⊥
  never_eight place count e = not_eight set.points ((subst (Named set.points) e all_owed.told.number).alarm (λ z. omega (arith, z)))

pub demand_one : (tape : List ℕ) (table : List ℤ) (set : Settings) (places b : List ℕ) → DemandOne tape table set places b
demand_one tape table set places b = (all_owed tape table set (length places) b, table_after tape table set places (length b))
