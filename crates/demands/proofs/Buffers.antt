-- A promise of every block, off the bytes of the buffer: the records of each step are read where they were written.
-- Assumes nothing.
use mathlib.Core.Path.{◌≡◌, refl, sym, ap, ◌∙◌, subst}
use mathlib.Core.Bool.{Bool, true, false, cond}
use mathlib.Core.List.{List, [], ◌∷◌, ◌++◌, append_assoc}
use Prim.Native.Nat.{ℕ, ◌+◌, ◌-◌, ◌<◌, ◌≤◌}
use native.Mathlib.Omega.{arith}
use lib.IntN.{ℤ}
use lib.ListN.{length, take, drop, length-append}
use lib.Seq.{length-take-le, take_at, drop_at}
use Rattle.octets.specs.Bytes.{laid}
use Rattle.moves.specs.Form.{header_size, record_start, header_bytes, row_bytes, stamped, whats, AllFitting, FittingOrigin, AllListed}
use Rattle.moves.specs.Reading.{row_at, records_in}
use Rattle.moves.specs.declared.Record.{Record}
use Rattle.moves.specs.declared.Origin.{Origin}
use Rattle.moves.specs.declared.Listed.{Listed}
use Rattle.moves.proofs.OneReading.{length_row, length_header, row_append, read_after, length_stamped, whats_append, whats_stamped}
use Rattle.settings.specs.Known.{Table}
use Rattle.state.specs.Known.{Sound}
use Rattle.targets.proofs.Ranges.{start_sound}
use Rattle.settings.specs.Known.{InRange}
use Rattle.settings.specs.Points.{with_points}
use Rattle.settings.specs.declared.Settings.{Settings}
use Rattle.interpreter.proofs.of_machine.Running.{sound_after}
use Rattle.ahead.specs.Ahead.{most_calls, onto, FoundAt}
use Rattle.ahead.specs.declared.ProgramAt.{ProgramAt}
use Rattle.interpreter.specs.of_taking.Steps.{Task, task_of, Step, listed_by, block_on, run_after}
use Rattle.interpreter.specs.of_taking.declared.Run.{Run}
use Rattle.interpreter.proofs.of_taking.Lines.{worded_on}
use Rattle.interpreter.specs.Answers.{Result, refused, result_of, main_at, interpretation, laid_by}
use Rattle.interpreter.specs.of_answers.Answers.{answer_by, start_of, headed}
use Rattle.interpreter.specs.of_runners.Runs.{listed_of, program_run}
use Rattle.interpreter.specs.of_answers.declared.Answer.{Answer}
use Rattle.interpreter.specs.of_answers.declared.Answer.TheVariants.{Complete, Alarm}
use Rattle.demands.specs.Demands.{Each, EachFrom, StandsIn, task}
use Rattle.demands.specs.Steps.{Done, Linked}
use Rattle.demands.proofs.Cycles.{every_step}
use Rattle.block.specs.declared.Block.{Block}
use Rattle.state.specs.declared.State.{State}
use Rattle.interpreter.specs.of_verdicts.Verdicts.{alarm_in}
use Rattle.interpreter.specs.of_machine.Blocks.{done_records}
use Rattle.demands.proofs.Fits.{block_fitting, feed_after_lem}
use Rattle.moves.specs.Last.{last_of}
use Rattle.moves.proofs.Last.{last_append}
use Rattle.demands.proofs.Standing.{block_stands}
use Rattle.demands.specs.Origins.{CameFrom}
use Rattle.demands.proofs.Linked.{free_own, program_leads}
use Rattle.demands.proofs.Origins.{program_comes, origin_fits}
use Rattle.demands.proofs.Results.{every_result}

-- ---- every record of a chain of steps fits
abbrev pub AllFit : List Step → Type 0
AllFit [] = Unit {0}
AllFit (st ∷ sts) = AllListed (listed_by st) × AllFit sts

-- records that fit, of a block whose numbers do
stamped_fits : (o : Origin) (rs : List Record) → FittingOrigin o → AllFitting rs → AllListed (stamped o rs)
unfolding stamped
stamped_fits o [] f h = tt
stamped_fits o (r ∷ rs) f h = ((h.0, f), stamped_fits o rs f h.1)

pub listed_fit : (v w : List Listed) → AllListed v → AllListed w → AllListed (v ++ w)
listed_fit [] w h k = k
listed_fit (l ∷ v) w h k = (h.0, listed_fit v w h.1 k)

module _ (t : Task) (known : Table t.table) (range : InRange t.settings) where
  pub chain_fits : (sts : List Step) (r s : Run) → Sound r.state → r.state.f < 10_000_000 → Linked t r sts s → Each (CameFrom t) sts → AllFit sts
  unfolding Linked run_after Each
  chain_fits [] r s h f l c = tt
  chain_fits (st ∷ sts) r s h f l c =
      let b = block_on t.tape st.place in
      let k = free_own t (onto l.0.frame st.place) r l.0.free in
      let w = worded_on t.tape st.place in (
        stamped_fits st.origin st.records (origin_fits t st c.0) (subst AllFitting (sym l.0.wrote) (block_fitting t.table t.settings r.state b known range h f w (t.room - r.count) k)),
        chain_fits sts (run_after t st.place r) s (sound_after t.table t.settings r.state b (t.room - r.count) k range h)
            (feed_after_lem t.table t.settings r.state b known range h f w) l.1 c.1,
      )

-- the records at the front of the list
read_front : (h : List ℕ) (v : List Listed) (tail : List ℕ) → length h ≡ header_size → AllListed v → row_at (h ++ (row_bytes v ++ tail)) 0 (length v) ≡ v
unfolding row_bytes
read_front h v tail lh g = read_after h [] v tail lh g

-- where the axes stand after one more step, on X or on Z
stood : (second : Bool) (t : Task) (r : Run) (st : Step) (v : List Record) → Done t r st → (x : ℤ)
    → cond second r.state.z r.state.x ≡ last_of (λ q. cond second q.z q.x) x v
    → cond second (run_after t st.place r).state.z (run_after t st.place r).state.x ≡ last_of (λ q. cond second q.z q.x) x (v ++ st.records)
unfolding run_after
stood second t r st v d x h =
    let b = block_on t.tape st.place in
    let f : Record → ℤ = λ q. cond second q.z q.x in
    sym (block_stands second t.table t.settings r.state b)
    ∙ (λ i. last_of f (h i) (sym d.wrote i))
    ∙ sym (last_append f v st.records x)

-- ---- read where they were written: h is what stands before the records, v the records before the steps; P is the promise of a block
-- the step stands where the records before it have left the axes, its records keep the promise, and they are read there with its block
abbrev pub ReadIn : (Task → State → Block → List Record → Type 0) → Task → List ℕ → Step → ℕ → Type 0
ReadIn P t e st k =
    StandsIn t e st k × P t st.before.state (block_on t.tape st.place) (records_in e k (length st.records)) × (row_at e k (length st.records) ≡ listed_by st)

read_from_lem : (P : Task → State → Block → List Record → Type 0) (t : Task) (h tail : List ℕ) (e : List ℕ) (v : List Listed) (sts : List Step) (r s : Run) → length h ≡ header_size
    → e ≡ h ++ (row_bytes (v ++ listed_of sts) ++ tail) → AllListed v → AllFit sts → Each (λ st. P t st.before.state (block_on t.tape st.place) st.records) sts → Linked t r sts s
    → r.state.x ≡ last_of (λ q. q.x) t.settings.x (whats v) → r.state.z ≡ last_of (λ q. q.z) t.settings.z (whats v)
    → EachFrom (ReadIn P t e) (length v) sts
unfolding EachFrom Each listed_of Linked run_after
read_from_lem P t h tail e v [] r s lh is g f c l x z = tt
read_from_lem P t h tail e v (st ∷ sts) r s lh is g f c l x z =
    let w = listed_by st in
    let rest = listed_of sts in
    let b = block_on t.tape st.place in
    let many : length w ≡ length st.records = length_stamped st.origin st.records in
    let split : row_bytes (v ++ (w ++ rest)) ++ tail ≡ row_bytes v ++ (row_bytes w ++ (row_bytes rest ++ tail)) =
    ap (λ (y : List ℕ). y ++ tail) (row_append v (w ++ rest) ∙ ap (λ (y : List ℕ). row_bytes v ++ y) (row_append w rest))
    ∙ append_assoc (row_bytes v) (row_bytes w ++ row_bytes rest) tail
    ∙ ap (λ (y : List ℕ). row_bytes v ++ y) (append_assoc (row_bytes w) (row_bytes rest) tail) in
    let whole_is : e ≡ h ++ (row_bytes v ++ (row_bytes w ++ (row_bytes rest ++ tail))) = is ∙ ap (λ (y : List ℕ). h ++ y) split in
    let listed : row_at e (length v) (length st.records) ≡ w =
    ap (row_at e (length v)) (sym many) ∙ ap (λ (y : List ℕ). row_at y (length v) (length w)) whole_is ∙ read_after h v w (row_bytes rest ++ tail) lh f.0 in
    let there : st.records ≡ records_in e (length v) (length st.records) = sym (ap whats listed ∙ whats_stamped st.origin st.records) in
    let before : whats v ≡ records_in e 0 (length v) = ap whats (sym (ap (λ (y : List ℕ). row_at y 0 (length v)) whole_is ∙ read_front h v (row_bytes w ++ (row_bytes rest ++ tail)) lh g)) in
    let onward : e ≡ h ++ (row_bytes ((v ++ w) ++ rest) ++ tail) = is ∙ ap (λ (y : List Listed). h ++ (row_bytes y ++ tail)) (sym (append_assoc v w rest)) in
    let with_step : whats v ++ st.records ≡ whats (v ++ w) = sym (whats_append v w ∙ ap (λ (y : List Record). whats v ++ y) (whats_stamped st.origin st.records)) in
    let x_after = stood false t r st (whats v) l.0 t.settings.x x ∙ ap (last_of (λ q. q.x) t.settings.x) with_step in
    let z_after = stood true t r st (whats v) l.0 t.settings.z z ∙ ap (last_of (λ q. q.z) t.settings.z) with_step in
    let more = read_from_lem P t h tail e (v ++ w) sts (run_after t st.place r) s lh onward (listed_fit v w g f.0) f.1 c.1 l.1 x_after z_after in (
      (
        record {
          x = ap (λ (q : Run). q.state.x) l.0.begun ∙ x ∙ ap (last_of (λ q. q.x) t.settings.x) before;
          z = ap (λ (q : Run). q.state.z) l.0.begun ∙ z ∙ ap (last_of (λ q. q.z) t.settings.z) before;
        },
        subst (P t st.before.state b) there c.0,
        listed,
      ),
      subst (λ (n : ℕ). EachFrom (ReadIn P t e) n sts) (length-append v w ∙ ap (λ (n : ℕ). length v + n) many) more,
    )

-- ---- the buffer: a header or what was there, the records, and the rest as it came
abbrev pub FrontBy : Answer → List ℕ → List ℕ → Type 0
FrontBy (Complete count) b e = take header_size e ≡ header_bytes count
FrontBy (Alarm alarm place count) b e = take header_size e ≡ take header_size b

pub record Form (a : Answer) (b e : List ℕ) (rs : List Listed) : Type 0 where
  pub before : List ℕ
  pub behind : List ℕ
  pub size : length before ≡ header_size
  pub is : e ≡ before ++ (row_bytes rs ++ behind)
  pub rest : behind ≡ drop (record_start (length rs)) b
  pub front : FrontBy a b e

module _ (b : List ℕ) (rs : List Listed) (h : header_size ≤ length b) where
  abbrev after : List ℕ
  after = drop (8 + length (row_bytes rs)) b

  e_is : laid b (record_start 0) (row_bytes rs) ≡ take 8 b ++ (row_bytes rs ++ after)
  unfolding laid
  e_is = refl

  rest_is : after ≡ drop (record_start (length rs)) b
  rest_is = ap (λ (k : ℕ). drop k b) (ap (λ (k : ℕ). 8 + k) (length_row rs))

  -- with the header laid over the front
  over : (n : ℕ) → laid (laid b (record_start 0) (row_bytes rs)) 0 (header_bytes n) ≡ header_bytes n ++ (row_bytes rs ++ after)
  unfolding laid
  over n =
      ap (λ (k : ℕ). header_bytes n ++ drop k (take 8 b ++ (row_bytes rs ++ after))) (eight n)
      ∙ ap (λ (x : List ℕ). header_bytes n ++ x) (drop_at (take 8 b) (row_bytes rs ++ after) 8 (length-take-le 8 b h))
    where
      eight : (n : ℕ) → 0 + length (header_bytes n) ≡ 8
      eight n = omega (arith, length_header n)

  pub form : (a : Answer) → Form a b (headed a (laid b (record_start 0) (row_bytes rs))) rs
  form (Complete n) = record {
    before = header_bytes n;
    behind = after;
    size = length_header n;
    is = over n;
    rest = rest_is;
    front = ap (take 8) (over n) ∙ take_at (header_bytes n) (row_bytes rs ++ after) 8 (length_header n);
  }
  form (Alarm alarm place n) = record {
    before = take 8 b;
    behind = after;
    size = length-take-le 8 b h;
    is = e_is;
    rest = rest_is;
    front = ap (take 8) e_is ∙ take_at (take 8 b) (row_bytes rs ++ after) 8 (length-take-le 8 b h);
  }

-- ---- of every input
module _ (P : Task → State → Block → List Record → Type 0)
    (kept : (t : Task) (s : State) (b : Block) (left : ℕ) → alarm_in t.table t.settings s b left ≡ 0 → P t s b (done_records t.table t.settings s b)) where
  pub record Shown (t : Task) (b : List ℕ) (x : Result) : Type 0 where
    pub steps : EachFrom (ReadIn P t (laid_by x b)) 0 x.steps

  none_shown : (t : Task) (b : List ℕ) (alarm place : ℕ) → Shown t b (refused alarm place)
  unfolding EachFrom
  none_shown t b alarm place = record { steps = tt }

  run_shown : (b : List ℕ) → header_size ≤ length b → (t : Task) → Table t.table → InRange t.settings → Sound (start_of t.settings).state → (p : ProgramAt) → p.line < length t.tape
      → FoundAt t.tape t.first p → Shown t b (result_of (program_run t p most_calls (start_of t.settings)))
  unfolding result_of laid_by whats
  run_shown b header t known range sound p on found =
      let r = start_of t.settings in
      let x = program_run t p most_calls r in
      let l = (program_leads t p most_calls r on).linked in
      let a = answer_by x.outcome.ending x.outcome.run.count in
      let e = laid b (record_start 0) (row_bytes (listed_of x.steps)) in
      let f = form b (listed_of x.steps) header a in record {
        steps = read_from_lem P t f.before f.behind (headed a e) [] x.steps r x.outcome.run f.size f.is tt
            (chain_fits t known range x.steps r x.outcome.run sound (omega arith) l (program_comes t p most_calls r found)) (every_step P kept t x.steps r x.outcome.run l) l refl refl;
      }

  pub every_read : (tape : List ℕ) (table : List ℤ) (set : Settings) (size : ℕ) (b : List ℕ) → Shown (task tape table set size (length b)) b (interpretation tape table set size (length b))
  every_read tape table set size b =
      every_result (λ t. Shown t b) tape table set size (length b) (λ t alarm place _ _ _. none_shown t b alarm place)
      (λ h _ _ k first end p on found. run_shown b h (task_of (take end tape) table (with_points false set) first (length b)) k.offsets k.range (start_sound set.x set.z k.starts.x k.starts.z) (main_at set p) on found)
