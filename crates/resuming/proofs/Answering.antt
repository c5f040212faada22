-- Asked in turn: whatever answers so that each answer takes off what it must, its k-th answer is that of the promise.
-- Assumes nothing.
use mathlib.Core.Path.{◌≡◌, sym, ap, ◌∙◌}
use mathlib.Core.List.{List}
use Prim.Native.Nat.{ℕ, zero, suc}
use Rattle.interpreter.specs.of_answers.declared.Answer.{Answer}
use Rattle.resuming.specs.Handed.{Made, Left, handed_of, handed, Takes}
use Rattle.resuming.specs.declared.Handed.{Handed}
use Rattle.resuming.specs.declared.Handed.TheVariants.{Move, Over}

pub first : (x : Left) (h : Handed) (y : Left) → Takes x h y → handed x 0 ≡ h
unfolding Takes handed_of
first x (Move r) y (e, s) = ap (λ (l : List Made). handed_of l x.answer 0) e
first x (Over a) y (e, s, q) = ap (λ (l : List Made). handed_of l x.answer 0) e ∙ ap Over s

pub others : (x : Left) (h : Handed) (y : Left) → Takes x h y → (k : ℕ) → handed x (suc k) ≡ handed y k
unfolding Takes handed_of
others x (Move r) y (e, s) k = ap (λ (l : List Made). handed_of l x.answer (suc k)) e ∙ ap (λ (a : Answer). handed_of y.records a k) (sym s)
others x (Over a) y (e, s, q) k =
    ap (λ (l : List Made). handed_of l x.answer (suc k)) e ∙ sym (ap (λ (l : List Made). handed_of l x.answer k) e) ∙ ap (λ (z : Left). handed z k) (sym q)

pub in_turn_lem : (left : ℕ → Left) (answer : ℕ → Handed) → ((k : ℕ) → Takes (left k) (answer k) (left (suc k))) → (k : ℕ) → answer k ≡ handed (left 0) k
in_turn_lem left answer t k = sym (go k left answer t)
  where
    go : (k : ℕ) (left : ℕ → Left) (answer : ℕ → Handed) → ((k : ℕ) → Takes (left k) (answer k) (left (suc k))) → handed (left 0) k ≡ answer k
    go zero left answer t = first (left 0) (answer 0) (left 1) (t 0)
    go (suc k) left answer t = others (left 0) (answer 0) (left 1) (t 0) k ∙ go k (λ n. left (suc n)) (λ n. answer (suc n)) (λ n. t (suc n))
