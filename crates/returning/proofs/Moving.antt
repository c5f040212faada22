-- Where a run goes on, by the tests of the code.
-- Assumes nothing.
use mathlib.Core.Path.{◌≡◌, refl, sym, ap, ◌∙◌}
use mathlib.Core.List.{List}
use Prim.Native.Nat.{ℕ}
use borrow.Author.Tests.{eq-eqb, ne_eqb}
use Rattle.alarms.specs.Numbers.{too_deep, wrong_end}
use Rattle.ahead.specs.Ahead.{most_calls}
use Rattle.ahead.specs.declared.ProgramAt.{ProgramAt}
use Rattle.paused.specs.of_taking.declared.Run.{Run}
use Rattle.paused.specs.of_resuming.declared.Waiting.{Waiting}
use Rattle.paused.specs.declared.Going.{Going}
use Rattle.returning.specs.Moving.{stopped_with, top_of, popped_to, repeated_to, came_back, pushed_to, called_to}

module _ (tape : List ℕ) (g : Going) where
  pub came_main : g.frame.calls_left ≡ most_calls → stopped_with g g.run wrong_end 0 ≡ came_back tape g
  unfolding came_back
  came_main e = rw (eq-eqb g.frame.calls_left most_calls e) refl

  module _ (under : g.frame.calls_left ≡ most_calls → ⊥) where
    pub came_popped : {w : Waiting} → w ≡ top_of g → w.times ≡ 0 → popped_to g w ≡ came_back tape g
    unfolding came_back
    came_popped {w} is e =
        ap (popped_to g) is ∙ rw (ne_eqb g.frame.calls_left most_calls under, eq-eqb (top_of g).times 0 (sym (ap (λ (x : Waiting). x.times) is) ∙ e)) refl

    pub came_repeated : {w : Waiting} → w ≡ top_of g → (w.times ≡ 0 → ⊥) → repeated_to tape g w ≡ came_back tape g
    unfolding came_back
    came_repeated {w} is some =
        ap (repeated_to tape g) is
        ∙ rw (ne_eqb g.frame.calls_left most_calls under, ne_eqb (top_of g).times 0 (λ e. some (ap (λ (x : Waiting). x.times) is ∙ e))) refl

  module _ (r : Run) (called : ProgramAt) (times after : ℕ) where
    pub called_deep : g.frame.calls_left ≡ 0 → stopped_with g r too_deep called.line ≡ called_to tape g r called times after
    unfolding called_to
    called_deep e = rw (eq-eqb g.frame.calls_left 0 e) refl

    pub called_in : (g.frame.calls_left ≡ 0 → ⊥) → came_back tape (pushed_to g r called times after) ≡ called_to tape g r called times after
    unfolding called_to
    called_in some = rw (ne_eqb g.frame.calls_left 0 some) refl
