-- The end of a run, as an answer and a header.
-- Assumes nothing.
use mathlib.Core.Path.{◌≡◌, sym, ap, ◌∙◌}
use mathlib.Core.List.{List}
use Prim.Native.Nat.{ℕ}
use Rattle.runners.specs.declared.Ending.{Ending}
use Rattle.answers.specs.declared.Answer.{Answer}
use Rattle.answers.specs.Answers.{answer_by, headed}

pub finished : {g h : Ending} (count : ℕ) {a : Answer} → g ≡ h → a ≡ answer_by h count → (b : List ℕ) {e : List ℕ} → e ≡ headed a b → (a ≡ answer_by g count) × (e ≡ headed (answer_by g count) b)
finished count {a} p q b {e} k =
    let is = q ∙ ap (λ (x : Ending). answer_by x count) (sym p) in (is, k ∙ ap (λ (x : Answer). headed x b) is)
