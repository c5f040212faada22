-- A cycle ends where it began. (The two parts are those of `demands`, `Standing`; their places are `turning`, `grooving` and `drilling`.)
-- Assumes nothing.
use mathlib.Core.Path.{◌≡◌, refl, ap, ◌∙◌}
use mathlib.Core.List.{List, [], ◌∷◌, ◌++◌}
use Prim.Native.Nat.{ℕ}
use lib.IntN.{ℤ, ◌+ℤ◌}
use Rattle.whole.specs.Signed.{along}
use Rattle.whole.specs.declared.Side.{Side}
use Rattle.whole.specs.declared.Side.TheVariants.{Minus}
use Rattle.moves.specs.declared.Record.{Record}
use Rattle.axes.specs.Axis.{side}
use Rattle.axes.specs.Goes.{rapid_to}
use Rattle.axes.proofs.Moving.{rapid_moves, after_rapid}
use Rattle.turning.specs.Turning.{row, pass_for, pass_on, passes, turning}
use Rattle.turning.specs.declared.Turning as turns
use Rattle.threading.proofs.Counts.{threading_last}
use Rattle.grooving.specs.Grooving.{cuts, cutting, dwelling, plunge, plunges, after_first, steps, grooving, out_to}
use Rattle.grooving.specs.declared.Groove.{Groove}
use Rattle.drilling.specs.Drilling as drill
use Rattle.drilling.specs.declared.Bore.{Bore}
use Rattle.cycles.specs.declared.Cycle.{Cycle}
use Rattle.cycles.specs.declared.Cycle.TheVariants.{Turning, Threading, Grooving, Drilling}
use Rattle.cycles.specs.Cycle.{records}
use Rattle.cycles.specs.Known.{home}
use Rattle.moves.specs.Last.{after, last_of}
use Rattle.moves.proofs.Last.{last_append, ends_last}

-- ---- of any coordinate: f is X or Z of a record
module _ (f : Record → ℤ) where
  -- ---- a turning cycle ends where it began
  module _ (c : turns.Turning) (x : ℤ) (home : f (rapid_to c.facing c.infeed.start c.path.start) ≡ x) where
    pass_last : (l y : ℤ) → last_of f y (pass_on (pass_for c) l) ≡ x
    unfolding pass_on
    pass_last l y = after_rapid f c.facing c.infeed.start c.path.start _ ∙ home

    passes_last : (s : Side) (l : ℤ) (ds : List ℕ) → last_of f x (passes (pass_on (pass_for c)) s l ds) ≡ x
    unfolding passes
    passes_last s l [] = refl
    passes_last s l (d ∷ ds) =
        last_append f (pass_on (pass_for c) (l +ℤ along s d)) (passes (pass_on (pass_for c)) s (l +ℤ along s d) ds) x
        ∙ ap (λ (y : ℤ). last_of f y (passes (pass_on (pass_for c)) s (l +ℤ along s d) ds)) (pass_last (l +ℤ along s d) x)
        ∙ passes_last s (l +ℤ along s d) ds

    turning_last : last_of f x (turning c) ≡ x
    unfolding turning
    turning_last = passes_last (side c.infeed) c.infeed.start (row c)

  -- ---- and so does a groove
  module _ (g : Groove) (x : ℤ) (home : f (out_to g g.width.start g.depth.start) ≡ x) where
    plunge_last : (w y : ℤ) → last_of f y (plunge g w) ≡ f (out_to g w g.depth.start)
    unfolding plunge
    plunge_last w y =
        last_append f (cutting g w 0 (cuts g)) (dwelling g w ++ (out_to g w g.depth.start ∷ [])) y
        ∙ ends_last f (dwelling g w) (out_to g w g.depth.start) (last_of f y (cutting g w 0 (cuts g))) (rapid_moves g.facing g.depth.start w)

    plunges_last : (w : ℤ) (ss : List ℕ) (y : ℤ) → last_of f y (plunges g w ss) ≡ x
    unfolding plunges
    plunges_last w [] y = after_rapid f g.facing g.depth.start g.width.start y ∙ home
    plunges_last w (s ∷ ss) y =
        let v = w +ℤ along Minus s in
        let z = after f y (out_to g v g.depth.start) in
        last_append f (plunge g v) (plunges g v ss) z ∙ plunges_last v ss (last_of f z (plunge g v))

    after_last : (ss : List ℕ) (y : ℤ) → y ≡ x → last_of f y (after_first g ss) ≡ x
    after_last [] y h = h
    after_last (s ∷ ss) y h = plunges_last g.width.start (s ∷ ss) y

    grooving_last : (y : ℤ) → last_of f y (grooving g) ≡ x
    unfolding grooving
    grooving_last y =
        last_append f (plunge g g.width.start) (after_first g (steps g)) y
        ∙ after_last (steps g) (last_of f y (plunge g g.width.start)) (plunge_last g.width.start y ∙ home)

  -- ---- and a bore
  drilling_last : (b : Bore) (y : ℤ) → last_of f y (drill.drilling b) ≡ f (drill.out_to b b.start)
  unfolding drill.drilling
  drilling_last b y =
      last_append f (drill.boring b 0 (drill.bites b)) (drill.dwelling b ++ (drill.out_to b b.start ∷ [])) y
      ∙ ends_last f (drill.dwelling b) (drill.out_to b b.start) (last_of f y (drill.boring b 0 (drill.bites b))) refl

  -- ---- THE LAW, with a clause for each cycle
  pub goes_home : (c : Cycle) (x : ℤ) → f (home c) ≡ x → last_of f x (records c) ≡ x
  goes_home (Turning c) x h = turning_last c x h
  goes_home (Threading t) x h = threading_last f t x h
  goes_home (Grooving g) x h = grooving_last g x h x
  goes_home (Drilling b) x h = drilling_last b x ∙ h
