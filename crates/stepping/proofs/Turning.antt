-- A turn keeps what is left to hand out, and what can be asked of a run.
-- Assumes nothing.
use mathlib.Core.Path.{◌≡◌, refl, sym, ap, subst, ◌∙◌}
use mathlib.Core.List.{List, []}
use Prim.Native.Nat.{ℕ, ◌-◌, ◌≤◌, ◌<◌}
use native.Mathlib.Omega.{arith}
use lib.IntN.{ℤ}
use lib.ListN.{length}
use Rattle.settings.specs.declared.Settings.{Settings}
use Rattle.state.specs.Known.{Sound}
use Rattle.ahead.specs.Ahead.{most_calls, FoundAt}
use Rattle.ahead.specs.declared.ProgramAt.{ProgramAt}
use Rattle.ahead.specs.declared.Onward.{Onward}
use Rattle.ahead.specs.declared.Onward.TheVariants.{On, Call, Jump, Return, End, Stop}
use Rattle.ahead.proofs.Places.{found_within}
use Rattle.holding.specs.of_taking.Steps.{Task, Step, listed_by, taken_from}
use Rattle.holding.specs.of_taking.Hands as hands
use Rattle.holding.specs.of_taking.Hands.{in_hand, Falls, Stays, Leads}
use Rattle.holding.specs.of_taking.declared.Run.{Run}
use Rattle.holding.specs.of_taking.declared.StepDone.{StepDone}
use Rattle.holding.specs.of_taking.declared.Hand.{Hand}
use Rattle.holding.specs.of_taking.declared.Hand.TheVariants.{Nothing}
use Rattle.skipping.specs.of_answers.Answers.{place_of}
use Rattle.skipping.specs.of_resuming.declared.Waiting.{Waiting}
use Rattle.skipping.specs.of_resuming.Handed.{Made, Left}
use Rattle.skipping.specs.of_resuming.Engines.{running, turn_by, ahead, joined, remaining}
use Rattle.skipping.specs.of_paused.Kept.{Fitting, Kept}
use Rattle.skipping.specs.of_paused.declared.Phase.{Phase}
use Rattle.skipping.specs.of_paused.declared.Phase.TheVariants.{Running, Over}
use Rattle.skipping.specs.of_paused.declared.Going.{Going}
use Rattle.skipping.specs.of_returning.Standing.{stack_of, depth_of, phase_of, left_for, task_for, AllFound, Placed, PlacedOn}
use Rattle.skipping.specs.of_returning.Moving.{moved_to, gone_on}
use Rattle.skipping.proofs.of_returning.Going.{Clear, gone_same}
use Rattle.skipping.proofs.of_returning.Keeping.{Ran, kept_moved, kept_gone}
use Rattle.skipping.proofs.of_returning.Finding.{gone_stays, gone_placed}
use Rattle.skipping.specs.declared.Passed.{Passed}
use Rattle.stepping.specs.declared.Turned.{Turned}
use Rattle.holding.specs.Held.{Held}
use Rattle.skipping.specs.Passed.{PassMeets}
use Rattle.stepping.specs.Meets.{Fit, Lawful, TurnMeets, Nearer, Stands}
use Rattle.holding.proofs.Handing.{none_in_hand}
use Rattle.skipping.proofs.Passing.{step_same}

falls_le : (w : Onward) (r s : Run) → Falls w r s → s.blocks_left ≤ r.blocks_left
falls_le On r s h = omega arith
falls_le (Call p n) r s h = omega arith
falls_le (Jump p) r s h = omega arith
falls_le Return r s h = omega arith
falls_le End r s h = omega arith
falls_le (Stop alarm place) r s h = h

nearer_on : (p : Phase) (r s : Run) → s.blocks_left < r.blocks_left → Nearer p r s
nearer_on Running r s h = h
nearer_on (Over a) r s h = tt

-- an alarm's place is that of the answer that is left
stop_place : (t : Task) (calls : ℕ) (program : ProgramAt) (fs : List Waiting) (alarm place : ℕ) (r : Run) (after : ℕ) (st : Step)
    → place_of (remaining t (turn_by t calls program fs (Stop alarm place) r after st)).answer ≡ place
unfolding remaining turn_by ahead joined
stop_place t calls program fs alarm place r after st = refl

module _ (tape : List ℕ) (table : List ℤ) (set : Settings) (places : List ℕ) (g : Going) (n : Fit tape table set places g) (on : g.phase ≡ Running) (p : Passed)
    (m : PassMeets tape table set places g.filled g.frame g.run p) where
  -- where the step was taken
  abbrev here : Going
  here = moved_to g p.frame p.run

  abbrev done : StepDone
  done = p.opened.done

  pub kept_here : Kept here
  kept_here =
      kept_moved tape g n.kept n.read p.frame p.run (record { blocks = omega (arith, m.left, n.kept.blocks); count = m.able.few })
      (omega (arith, m.able.here, n.read)) (subst (λ (x : ProgramAt). x.line ≤ g.end) (sym m.program) n.kept.line) (omega (arith, m.calls, n.kept.calls))

  abbrev next : Going
  next = gone_on tape here done.onward done.run done.after

  ran : Ran done.run
  ran = record { blocks = omega (arith, falls_le done.onward p.run done.run m.opened.left, m.left, n.kept.blocks); count = m.opened.few }

  pub kept_next : Kept next
  kept_next = kept_gone tape here kept_here n.read done.onward done.run done.after ran (omega (arith, m.opened.after, n.read))

  -- ---- where the table of places is the tape's own
  module _ (first : ℕ) (k : Placed tape places first g) (f : Fitting (left_for (task_for tape table set first) [] g).answer) where
    abbrev t : Task
    t = task_for tape table set first

    law : hands.Lawful t p.frame p.run p.opened
    law = m.opened.lawful first k.finds (subst (FoundAt tape first) (sym m.program) k.there)

    abbrev step : Step
    step = (taken_from t p.frame p.run).step

    abbrev stack : List Waiting
    stack = stack_of g.waiting (depth_of here)

    abbrev Turns : Onward → Left
    Turns w = remaining t (turn_by t p.frame.calls_left p.frame.program stack w done.run done.after step)

    same_before : remaining t (running [] p.frame.calls_left p.frame.program p.frame.at stack p.run) ≡ left_for t [] g
    same_before =
        (λ i. remaining t (running [] (m.calls i) (m.program i) p.frame.at (stack_of g.waiting (most_calls - m.calls i)) p.run))
        ∙ m.same first k.finds k.there n.kept.blocks (stack_of g.waiting (depth_of g))
        ∙ (λ i. remaining t (record { rest = []; phase = phase_of (sym on i); calls = g.frame.calls_left; program = g.frame.program; from = g.frame.at; frames = stack_of g.waiting (depth_of g); run = g.run }))

    whole : Turns done.onward ≡ left_for t [] g
    whole = step_same t p.frame.program p.frame.calls_left p.frame.at p.run done law.done (omega (arith, m.left, n.kept.blocks)) stack ∙ same_before

    leads : (w : Onward) → done.onward ≡ w → Leads tape first w
    leads w e = subst (Leads tape first) e law.goes

    clear : (w : Onward) → done.onward ≡ w → Clear (listed_by step) (length tape) w
    clear On e = tt
    clear (Call q times) e = found_within tape first q (leads (Call q times) e)
    clear (Jump q) e = leads (Jump q) e
    clear Return e = tt
    clear End e = tt
    clear (Stop alarm place) e =
        let stays = subst (λ (w : Onward). Stays w p.run done.run p.opened.hand) e m.opened.stays in
        let at : place_of (left_for t [] g).answer ≡ place =
        ap (λ (x : Left). place_of x.answer) (sym whole ∙ ap Turns e) ∙ stop_place t p.frame.calls_left p.frame.program stack alarm place done.run done.after step in
        (sym law.hand ∙ ap in_hand stays.1 ∙ none_in_hand, omega (arith, at, f.place))

    gone : left_for t (listed_by step) next ≡ left_for t [] g
    gone =
        gone_same t step here on n.kept.size (omega (arith, m.calls, n.kept.calls)) (omega (arith, n.read, n.kept.tape)) done.onward done.run done.after (clear done.onward refl)
        ∙ whole

    lawful : (h : Hand) → in_hand h ≡ in_hand p.opened.hand → Lawful tape table set places first g (record { hand = h; going = next })
    lawful h e =
        record {
          same = ap (λ (l : List Made). left_for t l next) (e ∙ law.hand) ∙ gone;
          placed = gone_placed tape places first here on n.kept.size (omega (arith, m.calls, n.kept.calls))
              (record {
                finds = k.finds;
                there = subst (FoundAt tape first) (sym m.program) k.there;
                waits = subst (λ (c : ℕ). AllFound tape first (stack_of g.waiting (most_calls - c))) (sym m.calls) k.waits;
              })
              done.onward done.run done.after law.goes;
        }

  -- ---- A TURN
  module _ (h : Hand) (e : in_hand h ≡ in_hand p.opened.hand) (held : Held h) where
    turned : TurnMeets tape table set places g (record { hand = h; going = next })
    turned =
        let s = gone_stays tape here done.onward done.run done.after in
        record {
          lawful = λ first k f. lawful first k f h e;
          held = held;
          kept = kept_next;
          state = subst (λ (r : Run). Sound r.state) (sym s.run) m.opened.state;
          end = s.end;
          filled = s.filled;
        }

    pub turn_meets : (x : Going) → x ≡ next → TurnMeets tape table set places g (record { hand = h; going = x })
    turn_meets x is = subst (λ (y : Going). TurnMeets tape table set places g (record { hand = h; going = y })) (sym is) turned

  fewer : (w : Onward) → done.onward ≡ w → Falls w p.run done.run
  fewer w e = subst (λ (x : Onward). Falls x p.run done.run) e m.opened.left

  nears : (w : Onward) → done.onward ≡ w → Nearer (gone_on tape here w done.run done.after).phase g.run done.run
  unfolding gone_on
  nears On e = nearer_on (gone_on tape here On done.run done.after).phase g.run done.run (omega (arith, fewer On e, m.left))
  nears (Call q times) e = nearer_on (gone_on tape here (Call q times) done.run done.after).phase g.run done.run (omega (arith, fewer (Call q times) e, m.left))
  nears (Jump q) e = nearer_on (gone_on tape here (Jump q) done.run done.after).phase g.run done.run (omega (arith, fewer (Jump q) e, m.left))
  nears Return e = nearer_on (gone_on tape here Return done.run done.after).phase g.run done.run (omega (arith, fewer Return e, m.left))
  nears End e = tt
  nears (Stop alarm place) e = tt

  pub turn_nearer : (x : Going) → x ≡ next → Nearer x.phase g.run x.run
  turn_nearer x is =
      subst (λ (y : Going). Nearer y.phase g.run y.run) (sym is)
      (subst (Nearer next.phase g.run) (sym (gone_stays tape here done.onward done.run done.after).run) (nears done.onward refl))

-- ---- turns, one after the other
pub record Advancing (tape : List ℕ) (table : List ℤ) (set : Settings) (places : List ℕ) (g now : Going) : Type 0 where
  pub fit : Fit tape table set places now
  pub on : now.phase ≡ Running
  pub end : now.end ≡ g.end
  pub filled : now.filled ≡ g.filled
  pub same : (first : ℕ) → Placed tape places first g → Fitting (left_for (task_for tape table set first) [] g).answer
      → (left_for (task_for tape table set first) [] now ≡ left_for (task_for tape table set first) [] g) × Placed tape places first now

module _ (tape : List ℕ) (table : List ℤ) (set : Settings) (places : List ℕ) (g : Going) where
  pub advance_first : Fit tape table set places g → g.phase ≡ Running → Advancing tape table set places g g
  advance_first n on = record { fit = n; on = on; end = refl; filled = refl; same = λ first k f. (refl, k) }

  module _ (now : Going) (a : Advancing tape table set places g now) (r : Turned) (m : TurnMeets tape table set places now r) where
    fitting : (first : ℕ) → Placed tape places first g → Fitting (left_for (task_for tape table set first) [] g).answer → Fitting (left_for (task_for tape table set first) [] now).answer
    fitting first k f = subst (λ (x : Left). Fitting x.answer) (sym (a.same first k f).0) f

    turn_law : (first : ℕ) → Placed tape places first g → Fitting (left_for (task_for tape table set first) [] g).answer → Lawful tape table set places first now r
    turn_law first k f = m.lawful first (a.same first k f).1 (fitting first k f)

    pub advance_meets : TurnMeets tape table set places g r
    advance_meets =
        record {
          lawful = λ first k f. record { same = (turn_law first k f).same ∙ (a.same first k f).0; placed = (turn_law first k f).placed };
          held = m.held;
          kept = m.kept;
          state = m.state;
          end = m.end ∙ a.end;
          filled = m.filled ∙ a.filled;
        }

    pub advance_on : r.hand ≡ Nothing → r.going.phase ≡ Running → Advancing tape table set places g r.going
    unfolding in_hand
    advance_on none on =
        let n = a.fit in
        record {
          fit = record { offsets = n.offsets; range = n.range; filled = omega (arith, m.filled, n.filled); read = n.read ∙ sym m.end; state = m.state; kept = m.kept };
          on = on;
          end = m.end ∙ a.end;
          filled = m.filled ∙ a.filled;
          same = λ first k f.
              let l = turn_law first k f in (
                ap (λ (h : Hand). left_for (task_for tape table set first) (in_hand h) r.going) (sym none) ∙ l.same ∙ (a.same first k f).0,
                subst (λ (x : Phase). PlacedOn x tape places first r.going) on l.placed,
              );
        }

-- it comes nearer to the end
pub nearer : (r : Run) (s : Run) {p : Phase} → p ≡ Running → Nearer p r s → s.blocks_left < r.blocks_left
nearer r s e h = subst (λ (x : Phase). Nearer x r s) e h

pub stands_block : (h : Hand) (p : Phase) {x : Hand} → h ≡ x → Stands x p → Stands h p
stands_block h p e s = subst (λ (y : Hand). Stands y p) (sym e) s

pub stands_over : (h : Hand) (p : Phase) {x : Hand} {q : Phase} → h ≡ x → p ≡ q → Stands x q → Stands h p
stands_over h p {x} e f s = subst (λ (y : Hand). Stands y p) (sym e) (subst (λ (y : Phase). Stands x y) (sym f) s)
