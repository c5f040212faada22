-- ONE MOVE AT A TIME, at the door: the k-th ask behind a start answers with the list engine's record k, and from its count on with its end or alarm.
-- Assumes nothing.
use mathlib.Core.Path.{◌≡◌, refl, sym, ap, subst, ◌∙◌}
use mathlib.Core.Bool.{Bool, true, false, cond}
use mathlib.Core.List.{List, [], ◌∷◌}
use Prim.Native.Nat.{ℕ, zero, suc, ◌+◌, ◌≤◌}
use native.Mathlib.Omega.{arith}
use lib.IntN.{ℤ}
use lib.ListN.{length, replicate, length-replicate}
use Rattle.alarms.specs.Numbers.{bad_settings, buffer_too_short, places_too_short}
use Rattle.reading.specs.Filling.{most_places}
use Rattle.panel.specs.Row.{unfit, settings_of}
use Rattle.alarmed.specs.of_answers.Answers.{number_of}
use Rattle.alarmed.specs.of_answers.declared.Answer.{Answer}
use Rattle.alarmed.specs.of_answers.declared.Answer.TheVariants.{Alarm}
use Rattle.alarmed.specs.of_interpreter.Answers.{Result, refused, interpretation}
use Rattle.alarmed.proofs.of_interpreter.Staying.{all_stay}
use Rattle.onemove.specs.of_resuming.Handed.{Made, Left, left_of, handed_of, roomy}
use Rattle.onemove.specs.of_resuming.Handed as left
use Rattle.onemove.specs.of_resuming.declared.Handed.TheVariants as handed
use Rattle.onemove.specs.of_paused.Kept.{Fitting}
use Rattle.onemove.specs.of_inhand.State.{state_words}
use Rattle.onemove.specs.of_packing.declared.Told.{Told}
use Rattle.onemove.specs.of_packing.declared.Told.TheVariants as told
use Rattle.onemove.specs.OneMove.{result_at, Holds, Hands, InTurn}
use Rattle.onemove.proofs.Turns.{each_in_turn}
use Rattle.alarmed.proofs.Ample.{never_short, never_full}
use Rattle.board.specs.Door.{at_door, first_at_door}
use Rattle.board.specs.Asked.{start_number, StartAtDoor, AsksAtDoor, Answers, OneMoveAtDoor, OneMoveLaw}
use Rattle.onemove.specs.of_packing.Packing.{answer_number, over, told_number, FitsTold}
use Rattle.board.proofs.Doors.{demand_one_at_door}

-- ---- what is wanted
same_wanted : (tape : List ℕ) (table numbers : List ℤ) (size : ℕ) → result_at tape table numbers size ≡ at_door tape table numbers size roomy
unfolding result_at at_door
same_wanted tape table numbers size = refl

wanted_fits : (tape : List ℕ) (table numbers : List ℤ) (places : List ℕ) → Fitting (left_of (at_door tape table numbers (length places) roomy)).answer
unfolding left_of
wanted_fits tape table numbers places =
    let b : List ℕ = replicate roomy 0 in
    let t = (demand_one_at_door tape table numbers places b).0.told in
    subst (λ (n : ℕ). Fitting (at_door tape table numbers (length places) n).answer) (length-replicate {A = ℕ} roomy 0) (record { place = t.near; count = omega (arith, t.count) })

-- the first layout, where the table of places is long enough
same_long : (tape : List ℕ) (table numbers : List ℤ) (size : ℕ) → most_places ≤ size → at_door tape table numbers size roomy ≡ first_at_door tape table numbers roomy
unfolding at_door first_at_door
same_long tape table numbers size h = ap (cond (unfit numbers) (refused bad_settings 0)) (all_stay tape table (settings_of numbers) size h roomy)

-- what holds of alarm 1 and of every answer of the interpreter holds at the door
by_door : (P : Result → Type 0) (tape : List ℕ) (table numbers : List ℤ) (size : ℕ) → P (refused bad_settings 0) → P (interpretation tape table (settings_of numbers) size roomy) → P (at_door tape table numbers size roomy)
unfolding at_door
by_door P tape table numbers size bad run = go (unfit numbers)
  where
    go : (b : Bool) → P (cond b (refused bad_settings 0) (interpretation tape table (settings_of numbers) size roomy))
    go true = bad
    go false = run

no_three : (tape : List ℕ) (table numbers : List ℤ) (size place count : ℕ) → (at_door tape table numbers size roomy).answer ≡ Alarm buffer_too_short place count → ⊥
no_three tape table numbers size place count =
    by_door (λ x. x.answer ≡ Alarm buffer_too_short place count → ⊥) tape table numbers size (λ e. omega (arith, ap number_of e))
    (never_short (record { tape = tape; table = table; settings = settings_of numbers; size = size; bytes = roomy }) (omega arith) place count)

no_twenty_two : (tape : List ℕ) (table numbers : List ℤ) (size : ℕ) → most_places ≤ size → (place count : ℕ) → (at_door tape table numbers size roomy).answer ≡ Alarm places_too_short place count → ⊥
no_twenty_two tape table numbers size h place count =
    by_door (λ x. x.answer ≡ Alarm places_too_short place count → ⊥) tape table numbers size (λ e. omega (arith, ap number_of e))
    (never_full (record { tape = tape; table = table; settings = settings_of numbers; size = size; bytes = roomy }) h place count)

-- ---- an ask, as a number
-- what is handed out, and the number that tells it
move_number : (b c : List ℕ) (r : ℕ) (t : Told) (l : Made) → Hands t b c (handed.Move l) → r ≡ told_number t → Answers (handed.Move l) b r c
move_number b c r told.Move l h e = (e, h)
move_number b c r (told.Over a) l h e = absurd h
move_number b c r told.Refused l h e = absurd h

over_number : (b c : List ℕ) (r : ℕ) (t : Told) (a : Answer) → Hands t b c (handed.Over a) → r ≡ told_number t → Answers (handed.Over a) b r c
over_number b c r told.Move a h e = absurd h
over_number b c r (told.Over d) a h e = (e ∙ ap (λ (x : Answer). over + answer_number x) h.0, h.1)
over_number b c r told.Refused a h e = absurd h

number_of_lem : (b c : List ℕ) (r : ℕ) (t : Told) (l : List Made) (a : Answer) (k : ℕ) → Hands t b c (handed_of l a k) → r ≡ told_number t → Answers (handed_of l a k) b r c
unfolding handed_of
number_of_lem b c r t [] a k h e = over_number b c r t a h e
number_of_lem b c r t (x ∷ xs) a zero h e = move_number b c r t x h e
number_of_lem b c r t (x ∷ xs) a (suc k) h e = number_of_lem b c r t xs a k h e

-- an answer that is told has 16 bits for its place and its count
pub told_fits : (t : Told) → ((a : Answer) → t ≡ told.Over a → Fitting a) → FitsTold t
told_fits told.Move f = tt
told_fits (told.Over a) f = let k = f a refl in record { place = omega (arith, k.place); count = omega (arith, k.count) }
told_fits told.Refused f = tt

-- ---- THE PROMISE
module _ (tape : List ℕ) (table numbers : List ℤ) (places : List ℕ) where
  abbrev wanted : Left
  wanted = left_of (at_door tape table numbers (length places) roomy)

  module _ (w p : List ℕ) (r : ℕ) (state b c : ℕ → List ℕ) (tells : ℕ → ℕ) (long : length w ≡ state_words) (s : StartAtDoor tape table numbers places w r p (state 0))
      (asks : AsksAtDoor tape table numbers p state b c tells) where
    begun : Holds tape table numbers p (state 0) wanted
    begun =
        let e = same_wanted tape table numbers (length places) in
        subst (Holds tape table numbers p (state 0)) (ap left_of e)
        (s.meets.holds long s.same (subst (λ (x : Result). Fitting (left_of x).answer) (sym e) (wanted_fits tape table numbers places)))

    in_turn_lem : InTurn tape table numbers p state b c (λ k. (asks.each k).told)
    in_turn_lem = record { room = asks.room; each = λ k. (asks.each k).meets }

    answers : (k : ℕ) → Answers (left.handed wanted k) (b k) (tells k) (c k)
    answers k =
        number_of_lem (b k) (c k) (tells k) (asks.each k).told wanted.records wanted.answer k
        (each_in_turn tape table numbers p k state b c (λ n. (asks.each n).told) in_turn_lem wanted begun) (asks.each k).is

    law : OneMoveAtDoor tape table numbers places r b c tells
    law =
        record {
          started = s.is ∙ ap start_number (s.meets.told long);
          same = answers;
          long = λ h k. subst (λ (x : Result). Answers (left.handed (left_of x) k) (b k) (tells k) (c k)) (same_long tape table numbers (length places) h) (answers k);
          no_three = no_three tape table numbers (length places);
          no_twenty_two = no_twenty_two tape table numbers (length places);
        }

  pub one_move_at_door : OneMoveLaw tape table numbers places
  one_move_at_door w p r state b c tells long s asks = law w p r state b c tells long s asks
