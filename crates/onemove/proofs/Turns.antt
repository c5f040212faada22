-- ASKED IN TURN: the k-th ask behind a start hands out what is wanted k-th.
-- Assumes nothing.
use mathlib.Core.Path.{sym, subst}
use mathlib.Core.List.{List}
use Prim.Native.Nat.{ℕ, zero, suc}
use lib.IntN.{ℤ}
use Rattle.runbounds.specs.of_resuming.Handed.{Left}
use Rattle.runbounds.specs.of_resuming.Handed as left
use Rattle.runbounds.proofs.of_resuming.Answering.{first, others}
use Rattle.packing.specs.declared.Told.{Told}
use Rattle.onemove.specs.OneMove.{Holds, Hands, Lawful, InTurn}

module _ (tape : List ℕ) (table numbers : List ℤ) (places : List ℕ) where
  behind : (w b c : ℕ → List ℕ) (r : ℕ → Told) → InTurn tape table numbers places w b c r → (x : Left) → Holds tape table numbers places (w 0) x → Lawful tape table numbers places x (b 0) (r 0) (w 1) (c 0)
  behind w b c r t x m = ((t.each 0).asks (t.room 0)).lawful x m

  pub each_in_turn : (k : ℕ) (w b c : ℕ → List ℕ) (r : ℕ → Told) → InTurn tape table numbers places w b c r → (x : Left) → Holds tape table numbers places (w 0) x → Hands (r k) (b k) (c k) (left.handed x k)
  each_in_turn zero w b c r t x m =
      let l = behind w b c r t x m in
      subst (Hands (r 0) (b 0) (c 0)) (sym (first x l.handed l.left l.takes)) l.hands
  each_in_turn (suc k) w b c r t x m =
      let l = behind w b c r t x m in
      subst (Hands (r (suc k)) (b (suc k)) (c (suc k))) (sym (others x l.handed l.left l.takes k))
      (each_in_turn k (λ n. w (suc n)) (λ n. b (suc n)) (λ n. c (suc n)) (λ n. r (suc n)) (record { room = λ n. t.room (suc n); each = λ n. t.each (suc n) }) l.left l.holds)
