-- A run that is started in words.
-- Assumes nothing.
use mathlib.Core.Path.{◌≡◌, refl, sym, ap, subst, ◌∙◌}
use mathlib.Core.Bool.{true, false}
use mathlib.Core.List.{List}
use Prim.Native.Nat.{ℕ}
use native.Mathlib.Omega.{arith}
use lib.IntN.{ℤ}
use lib.ListN.{length, take}
use Rattle.alarms.specs.Numbers.{bad_settings}
use Rattle.panel.specs.Row.{unfit, settings_of}
use Rattle.settings.specs.declared.Settings.{Settings}
use Rattle.runbounds.specs.of_interpreter.Answers.{refused, places_of}
use Rattle.packing.specs.of_taking.declared.Hand.{Hand}
use Rattle.packing.specs.of_taking.declared.Hand.TheVariants.{Nothing}
use Rattle.runbounds.specs.of_resuming.Handed.{Made, left_of, roomy}
use Rattle.runbounds.specs.of_paused.Kept.{Fitting}
use Rattle.runbounds.specs.of_paused.declared.Phase.{Phase}
use Rattle.runbounds.specs.of_paused.declared.Phase.TheVariants.{Running, Over}
use Rattle.runbounds.specs.of_paused.declared.Going.{Going}
use Rattle.starting.specs.of_returning.Standing.{left_for, task_for, PlacedOn}
use Rattle.starting.specs.Starts.{Ready, StartMeets}
use Rattle.starting.specs.Begun.{refused_with}
use Rattle.starting.proofs.Meeting.{refused_left, refused_kept, refused_sound}
use Rattle.stepping.proofs.of_holding.Handing.{none_in_hand}
use Rattle.inhand.specs.State.{state_words, hand_in, run_in, PutMeets}
use Rattle.onemove.specs.OneMove.{result_at, wanted_at, places_started, running, Lent, Stood, BegunMeets, StartsIn}

module _ (tape : List ℕ) (table numbers : List ℤ) (places : List ℕ) where
  -- ---- the run
  pub begun_refused : unfit numbers ≡ true → {g : Going} → g ≡ refused_with bad_settings 0 → BegunMeets tape table numbers places g × (places ≡ places_started tape table numbers places)
  unfolding result_at places_started
  begun_refused e {g} is =
      let wanted : wanted_at tape table numbers (length places) ≡ left_of (refused bad_settings 0) = rw e refl in (
        subst (BegunMeets tape table numbers places) (sym is) (record {
          first = 0;
          same = refused_left (task_for (take 0 tape) table (running numbers) 0) bad_settings 0 ∙ sym wanted;
          placed = tt;
          lent = tt;
          kept = refused_kept bad_settings 0 (omega arith);
          state = refused_sound bad_settings 0;
        }),
        rw e refl,
      )

  lent_started : unfit numbers ≡ false → (p : Phase) (g : Going) → Ready p tape table (settings_of numbers) places g → Lent p tape table numbers places g
  lent_started e Running g r = (e, r)
  lent_started e (Over a) g r = tt

  module _ (e : unfit numbers ≡ false) where
    after_is : places_of tape table (settings_of numbers) places roomy ≡ places_started tape table numbers places
    unfolding places_started
    after_is = rw e refl

    begun_by : (g : Going) → StartMeets tape table (settings_of numbers) places g → BegunMeets tape table numbers places g
    unfolding result_at
    begun_by g m =
        record {
          first = m.first;
          same = m.same ∙ rw e refl;
          placed = subst (λ (p : List ℕ). PlacedOn g.phase (take g.end tape) p m.first g) after_is m.placed;
          lent = lent_started e g.phase g m.ready;
          kept = m.kept;
          state = m.state;
        }

    pub begun_started : {s : Settings} → s ≡ settings_of numbers → {g : Going} {p : List ℕ} → StartMeets tape table s places g → p ≡ places_of tape table s places roomy
        → BegunMeets tape table numbers places g × (p ≡ places_started tape table numbers places)
    begun_started is {g} m f =
        (begun_by g (subst (λ (s : Settings). StartMeets tape table s places g) is m), f ∙ ap (λ (s : Settings). places_of tape table s places roomy) is ∙ after_is)

  -- ---- in words
  pub not_started : (w : List ℕ) → (length w ≡ state_words → ⊥) → StartsIn tape table numbers places w false places w
  not_started w n =
      record {
        other = λ _. (refl, refl, refl);
        told = λ e. absurd (n e);
        filled = λ e. absurd (n e);
        holds = λ e. absurd (n e);
      }

  lent_same : (p : List ℕ) → length p ≡ length places → (f : Phase) (g : Going) → Lent f tape table numbers places g → Lent f tape table numbers p g
  lent_same p e Running g (u, (r, a, b)) = (u, (r, a, omega (arith, e, b)))
  lent_same p e (Over a) g l = tt

  pub started : (w : List ℕ) → length w ≡ state_words → {g : Going} → BegunMeets tape table numbers places g → {p : List ℕ} → p ≡ places_started tape table numbers places → (u : List ℕ) → run_in u ≡ g
      → {v : List ℕ} → PutMeets u Nothing v → StartsIn tape table numbers places w true p v
  started w long {g} m {p} f u run {v} put =
      record {
        other = λ n. absurd (n long);
        told = λ _. refl;
        filled = λ _. f;
        holds = λ _ same fits. record { long = put.long; stood = stood same fits };
      }
    where
      begun_stood : length p ≡ length places → Fitting (wanted_at tape table numbers (length places)).answer → Stood tape table numbers p Nothing g (wanted_at tape table numbers (length places))
      begun_stood same fits =
          record {
            held = record { sound = tt; some = tt };
            kept = m.kept;
            state = m.state;
            lent = lent_same p same g.phase g m.lent;
            first = m.first;
            same = ap (λ (l : List Made). left_for (task_for (take g.end tape) table (running numbers) m.first) l g) none_in_hand ∙ m.same;
            placed = subst (λ (y : List ℕ). PlacedOn g.phase (take g.end tape) y m.first g) (sym f) m.placed;
            fits = fits;
          }

      stood : length p ≡ length places → Fitting (wanted_at tape table numbers (length places)).answer → Stood tape table numbers p (hand_in v) (run_in v) (wanted_at tape table numbers (length places))
      stood same fits =
          subst (λ (h : Hand). Stood tape table numbers p h (run_in v) (wanted_at tape table numbers (length places))) (sym put.hand)
          (subst (λ (y : Going). Stood tape table numbers p Nothing y (wanted_at tape table numbers (length places))) (sym (put.run ∙ run)) (begun_stood same fits))
