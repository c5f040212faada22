-- Where a turning cycle reaches: a move of it ends outside the limits just where one of two points does, its start, and the last pass line at the end line.
-- Every record lies between these two, and both are ends of moves.
-- Assumes nothing.
use mathlib.Core.Path.{◌≡◌, refl, sym, ap, ◌∙◌, subst}
use mathlib.Core.Bool.{Bool, false, ◌||◌}
use mathlib.Core.List.{List, [], ◌∷◌, ◌++◌}
use Prim.Native.Nat.{ℕ, ◌+◌, ◌<◌, ◌≤◌}
use native.Mathlib.Nat.{add-zero}
use native.Mathlib.Omega.{arith}
use lib.IntN.{ℤ, ◌+ℤ◌}
use lib.ListN.{length}
use Rattle.whole.specs.declared.Side.{Side}
use Rattle.whole.specs.Signed.{along}
use Rattle.division.specs.Division.{sum}
use Rattle.whole.proofs.Sides.{along_add, along_zero}
use Rattle.division.proofs.Divisions.{pieces_length, pieces_sum}
use Rattle.moves.specs.declared.Record.{Record}
use Rattle.settings.specs.declared.Limits.{Limits}
use Rattle.axes.specs.Axis.{side, net, allowance_line}
use Rattle.settings.specs.Limits.{outside_span}
use Rattle.axes.specs.Limits.{outside_to, any_outside}
use Rattle.axes.proofs.Axes.{line_net}
use Rattle.axes.proofs.Reaching.{span_between}
use Rattle.axes.proofs.Places.{alike, neither, both, in_span, across_span, within, not_outside, rapid_ends, feed_ends}
use Rattle.turning.specs.declared.Turning.{Turning}
use Rattle.turning.specs.declared.Pass.{Pass}
use Rattle.turning.specs.Turning.{pass_count, row, pass_for, pass_on, passes, turning}
use Rattle.turning.proofs.Turned.{some_passes}

-- ---- one pass: its four moves end within the limits just where these four places do
record Legs (l : Limits) (p : Pass) (line : ℤ) : Type 0 where
  on : outside_span (in_span l p.facing) line ≡ false
  from : outside_span (in_span l p.facing) p.from ≡ false
  home : outside_span (across_span l p.facing) p.home ≡ false
  end : outside_span (across_span l p.facing) p.end ≡ false

pass_ends : (l : Limits) (p : Pass) (k : ℤ) (rs : List Record)
    → any_outside l (pass_on p k ++ rs)
    ≡ (outside_to l p.facing k p.home || (outside_to l p.facing k p.end || (outside_to l p.facing p.from p.end || (outside_to l p.facing p.from p.home || any_outside l rs))))
unfolding pass_on any_outside
pass_ends l p k rs =
    let b = p.facing in
    λ j. rapid_ends l b k p.home j || (feed_ends l b p.f p.g95 k p.end j || (feed_ends l b p.f p.g95 p.from p.end j || (rapid_ends l b p.from p.home j || any_outside l rs)))

legs : (l : Limits) (p : Pass) (k : ℤ) (rs : List Record) → any_outside l (pass_on p k ++ rs) ≡ false → Legs l p k × (any_outside l rs ≡ false)
legs l p k rs e =
    let b = p.facing in
    let first = neither (outside_to l b k p.home) _ (sym (pass_ends l p k rs) ∙ e) in
    let second = neither (outside_to l b k p.end) _ first.1 in
    let third = neither (outside_to l b p.from p.end) _ second.1 in
    let fourth = neither (outside_to l b p.from p.home) _ third.1 in
    let to = within l b k p.end second.0 in
    let back = within l b p.from p.home fourth.0 in
    (record { on = to.inward; from = back.inward; home = back.across; end = to.across }, fourth.1)

no_leg : (l : Limits) (p : Pass) (k : ℤ) (rs : List Record) → Legs l p k → any_outside l rs ≡ false → any_outside l (pass_on p k ++ rs) ≡ false
no_leg l p k rs g e =
    let b = p.facing in
    pass_ends l p k rs
    ∙ both (outside_to l b k p.home) _ (not_outside l b k p.home (record { inward = g.on; across = g.home }))
    (both (outside_to l b k p.end) _ (not_outside l b k p.end (record { inward = g.on; across = g.end }))
    (both (outside_to l b p.from p.end) _ (not_outside l b p.from p.end (record { inward = g.from; across = g.end }))
    (both (outside_to l b p.from p.home) _ (not_outside l b p.from p.home (record { inward = g.from; across = g.home })) e)))

-- ---- a row of passes
-- where the start and a place n on from it are within the limits, so are passes no farther than n
all_within : (l : Limits) (p : Pass) (s : Side) (n : ℕ) → Legs l p (p.from +ℤ along s n) → (m : ℕ) (ds : List ℕ) → m + sum ds ≤ n
    → any_outside l (passes (pass_on p) s (p.from +ℤ along s m) ds) ≡ false
unfolding passes any_outside
all_within l p s n g m [] h = refl
all_within l p s n g m (d ∷ ds) h =
    let o : outside_span (in_span l p.facing) (p.from +ℤ along s (m + d)) ≡ false = span_between (in_span l p.facing) s p.from (m + d) n g.on g.from (omega arith) in
    subst (λ (k : ℤ). any_outside l (pass_on p k ++ passes (pass_on p) s k ds) ≡ false) (sym (along_add p.from s m d))
    (no_leg l p (p.from +ℤ along s (m + d)) (passes (pass_on p) s (p.from +ℤ along s (m + d)) ds) (record { on = o; from = g.from; home = g.home; end = g.end })
    (all_within l p s n g (m + d) ds (omega arith)))

-- where all passes are within the limits, so is the last
last_within : (l : Limits) (p : Pass) (s : Side) (k : ℤ) (ds : List ℕ) → 0 < length ds
    → any_outside l (passes (pass_on p) s k ds) ≡ false → Legs l p (k +ℤ along s (sum ds))
unfolding passes
last_within l p s k [] h e = absurd (omega arith)
last_within l p s k (d ∷ []) h e =
    subst (λ (n : ℕ). Legs l p (k +ℤ along s n)) (sym (add-zero d)) (legs l p (k +ℤ along s d) [] e).0
last_within l p s k (d ∷ (d' ∷ ds)) h e =
    subst (Legs l p) (along_add k s d (sum (d' ∷ ds)))
    (last_within l p s (k +ℤ along s d) (d' ∷ ds) (omega arith) (legs l p (k +ℤ along s d) (passes (pass_on p) s (k +ℤ along s d) (d' ∷ ds)) e).1)

-- ---- THE LAW
pub reach : (l : Limits) (c : Turning) → 0 < net c.infeed
    → any_outside l (turning c)
    ≡ (outside_to l c.facing c.infeed.start c.path.start || outside_to l c.facing (allowance_line c.infeed) (allowance_line c.path))
unfolding turning
reach l c h =
    alike (any_outside l (passes (pass_on p) s from (row c))) (outside_to l b from home || outside_to l b last end)
    (λ e.
    let g : Legs l p last = subst (Legs l p) (ap (λ (m : ℕ). from +ℤ along s m) adds_up ∙ arrives) (last_within l p s from (row c) some e) in
    both (outside_to l b from home) (outside_to l b last end)
    (not_outside l b from home (record { inward = g.from; across = g.home }))
    (not_outside l b last end (record { inward = g.on; across = g.end })))
    (λ e.
    let t = neither (outside_to l b from home) (outside_to l b last end) e in
    let v = within l b from home t.0 in
    let w = within l b last end t.1 in
    let g : Legs l p last = record { on = w.inward; from = v.inward; home = v.across; end = w.across } in
    subst (λ (k : ℤ). any_outside l (passes (pass_on p) s k (row c)) ≡ false) (along_zero from s)
    (all_within l p s n (subst (Legs l p) (sym arrives) g) 0 (row c) (omega (arith, adds_up))))
  where
    p : Pass
    p = pass_for c

    s : Side
    s = side c.infeed

    b : Bool
    b = c.facing

    n : ℕ
    n = net c.infeed

    from : ℤ
    from = c.infeed.start

    home : ℤ
    home = c.path.start

    last : ℤ
    last = allowance_line c.infeed

    end : ℤ
    end = allowance_line c.path

    arrives : from +ℤ along s n ≡ last
    arrives = line_net c.infeed (omega arith)

    adds_up : sum (row c) ≡ n
    adds_up = pieces_sum n (pass_count n c.division) (some_passes n c.division h)

    some : 0 < length (row c)
    some = omega (arith, pieces_length n (pass_count n c.division) (some_passes n c.division h), some_passes n c.division h)
