-- What could be asked of a run before can be asked of it after, and programs that were on the tape are still those.
-- Assumes nothing.
use mathlib.Core.Path.{◌≡◌, refl, sym, ap, subst, ◌∙◌}
use mathlib.Core.Bool.{Bool, true, false, cond}
use mathlib.Core.List.{List}
use Prim.Native.Nat.{ℕ, ◌-◌, ◌≤◌, ◌<◌}
use native.Mathlib.Omega.{arith}
use lib.Dec.{ltb, eqb}
use lib.ListN.{length, get_or, set, length-set}
use lib.Seq.{get_or-set_same, get_or-set_other}
use borrow.Author.Tests.{ltb-false, eqb-true, eqb-false}
use Rattle.tape.proofs.Lining.{line_in_lem}
use Rattle.moves.specs.Form.{record_limit}
use Rattle.ahead.specs.Ahead.{most_calls}
use Rattle.ahead.specs.declared.ProgramAt.{ProgramAt}
use Rattle.ahead.specs.declared.Frame.{Frame}
use Rattle.ahead.specs.declared.Onward.{Onward}
use Rattle.ahead.specs.declared.Onward.TheVariants.{On, Call, Jump, Return, End, Stop}
use Rattle.paused.specs.of_taking.declared.Run.{Run}
use Rattle.paused.specs.of_runners.Runs.{blocks_in_all}
use Rattle.paused.specs.of_answers.declared.Answer.{Answer}
use Rattle.paused.specs.of_resuming.declared.Waiting.{Waiting}
use Rattle.paused.specs.of_resuming.Remains.{waiting}
use Rattle.paused.specs.Kept.{nobody, Waits, Fitting, Kept}
use Rattle.paused.specs.declared.Going.{Going}
use Rattle.returning.specs.Moving.{within_of, moved_to, over_with, stopped_with, last_of, top_of, popped_to, repeated_to, came_back, pushed_to, called_to, program_within, gone_on}
use Rattle.returning.proofs.Moving.{came_main, came_popped, came_repeated, called_deep, called_in}

pub within_fits : (size p : ℕ) → within_of size p ≤ size
unfolding within_of
within_fits size p = go (ltb size p) refl
  where
    go : (t : Bool) → ltb size p ≡ t → cond t size p ≤ size
    go true e = omega arith
    go false e = ltb-false size p e

-- ---- WHAT CAN BE ASKED
-- a run behind a block
pub record Ran (r : Run) : Type 0 where
  pub blocks : r.blocks_left ≤ blocks_in_all
  pub count : r.count ≤ record_limit

set_waits : (end m : ℕ) (ws : List Waiting) (w : Waiting) → length ws ≡ most_calls → m < most_calls → Waits end w → ((k : ℕ) → k < most_calls → Waits end (get_or ws k nobody))
    → (k : ℕ) → k < most_calls → Waits end (get_or (set ws m w) k nobody)
set_waits end m ws w size h new old k b = go (eqb k m) refl
  where
    go : (t : Bool) → eqb k m ≡ t → Waits end (get_or (set ws m w) k nobody)
    go true e =
        let q : k ≡ m = eqb-true k m e in
        subst (Waits end) (sym (ap (λ (n : ℕ). get_or (set ws m w) n nobody) q ∙ get_or-set_same ws m w nobody (omega (arith, size)))) new
    go false e = subst (Waits end) (sym (get_or-set_other ws m k w nobody (eqb-false k m e))) (old k b)

module _ (tape : List ℕ) (g : Going) (k : Kept g) (read : length tape ≡ g.end) where
  pub kept_moved : (f : Frame) (r : Run) → Ran r → f.at ≤ g.end → f.program.line ≤ g.end → f.calls_left ≤ most_calls → Kept (moved_to g f r)
  kept_moved f r n a b c =
      record {
        here = a;
        line = b;
        calls = c;
        size = k.size;
        waits = k.waits;
        blocks = n.blocks;
        count = n.count;
        tape = k.tape;
        filled = k.filled;
        answer = k.answer;
      }

  pub kept_over : (r : Run) (a : Answer) → Ran r → Fitting a → Kept (over_with g r a)
  kept_over r a n f =
      record {
        here = k.here;
        line = k.line;
        calls = k.calls;
        size = k.size;
        waits = k.waits;
        blocks = n.blocks;
        count = n.count;
        tape = k.tape;
        filled = k.filled;
        answer = f;
      }

  kept_stopped : (r : Run) (alarm place : ℕ) → Ran r → Kept (stopped_with g r alarm place)
  kept_stopped r alarm place n = kept_over r _ n (record { place = omega arith; count = omega (arith, n.count) })

  -- a return
  kept_back : Kept (came_back tape g)
  kept_back = go (eqb g.frame.calls_left most_calls) refl
    where
      own : Ran g.run
      own = record { blocks = k.blocks; count = k.count }

      less : (g.frame.calls_left ≡ most_calls → ⊥) → g.frame.calls_left < most_calls
      less h = omega (arith, h, k.calls)

      top : g.frame.calls_left < most_calls → Waits g.end (top_of g)
      top h = k.waits (last_of g) (omega arith)

      popped : g.frame.calls_left < most_calls → Kept (popped_to g (top_of g))
      popped h = kept_moved _ g.run own (top h).after (top h).line (omega arith)

      repeated : g.frame.calls_left < most_calls → Kept (repeated_to tape g (top_of g))
      repeated h =
          record {
            here = omega (arith, read, (line_in_lem tape g.frame.program.line (omega (arith, k.line))).ends);
            line = k.line;
            calls = k.calls;
            size = length-set g.waiting (last_of g) (waiting (top_of g).program (top_of g).after ((top_of g).times - 1)) ∙ k.size;
            waits = set_waits g.end (last_of g) g.waiting _ k.size (omega arith) (record { line = (top h).line; after = (top h).after }) k.waits;
            blocks = k.blocks;
            count = k.count;
            tape = k.tape;
            filled = k.filled;
            answer = k.answer;
          }

      by : (h : g.frame.calls_left ≡ most_calls → ⊥) (t : Bool) → eqb (top_of g).times 0 ≡ t → Kept (came_back tape g)
      by h true z = subst Kept (came_popped tape g h refl (eqb-true (top_of g).times 0 z)) (popped (less h))
      by h false z = subst Kept (came_repeated tape g h refl (eqb-false (top_of g).times 0 z)) (repeated (less h))

      go : (t : Bool) → eqb g.frame.calls_left most_calls ≡ t → Kept (came_back tape g)
      go true e = subst Kept (came_main tape g (eqb-true g.frame.calls_left most_calls e)) (kept_stopped g.run _ 0 own)
      go false e = by (eqb-false g.frame.calls_left most_calls e) (eqb (top_of g).times 0) refl

-- a call
module _ (tape : List ℕ) (g : Going) (k : Kept g) (read : length tape ≡ g.end) where
  kept_called : (r : Run) (p : ProgramAt) (n after : ℕ) → Ran r → p.line ≤ g.end → after ≤ g.end → Kept (called_to tape g r p n after)
  kept_called r p n after m h a = go (eqb g.frame.calls_left 0) refl
    where
      pushed : (g.frame.calls_left ≡ 0 → ⊥) → Kept (pushed_to g r p n after)
      pushed some =
          record {
            here = a;
            line = h;
            calls = omega (arith, k.calls);
            size = length-set g.waiting (most_calls - 1 - (g.frame.calls_left - 1)) (waiting g.frame.program after n) ∙ k.size;
            waits = set_waits g.end (most_calls - 1 - (g.frame.calls_left - 1)) g.waiting _ k.size (omega arith) (record { line = k.line; after = a }) k.waits;
            blocks = m.blocks;
            count = m.count;
            tape = k.tape;
            filled = k.filled;
            answer = k.answer;
          }

      go : (t : Bool) → eqb g.frame.calls_left 0 ≡ t → Kept (called_to tape g r p n after)
      go true e = subst Kept (called_deep tape g r p n after (eqb-true g.frame.calls_left 0 e)) (kept_stopped tape g k read r _ p.line m)
      go false e =
          let some = eqb-false g.frame.calls_left 0 e in
          subst Kept (called_in tape g r p n after some) (kept_back tape (pushed_to g r p n after) (pushed some) read)

  -- behind a step
  pub kept_gone : (w : Onward) (r : Run) (after : ℕ) → Ran r → after ≤ g.end → Kept (gone_on tape g w r after)
  unfolding gone_on
  kept_gone On r after m a = kept_moved tape g k read _ r m a k.line k.calls
  kept_gone (Jump p) r after m a = kept_moved tape g k read _ r m (omega (arith, read, within_fits (length tape) p)) k.line k.calls
  kept_gone (Call p n) r after m a = kept_called r (program_within (length tape) p) n after m (omega (arith, read, within_fits (length tape) p.line)) a
  kept_gone Return r after m a = kept_back tape (moved_to g g.frame r) (kept_moved tape g k read g.frame r m k.here k.line k.calls) read
  kept_gone End r after m a = kept_over tape g k read r _ m (record { place = omega arith; count = omega (arith, m.count) })
  kept_gone (Stop alarm place) r after m a = kept_stopped tape g k read r alarm place m
