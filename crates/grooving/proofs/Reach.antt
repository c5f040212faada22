-- Where a groove reaches: a move of it ends outside the limits just where one of two points does, its start, and the bottom of the last plunge.
-- Every record lies between these two on each axis, and both are ends of moves.
-- Assumes nothing.
use mathlib.Core.Path.{◌≡◌, sym, ◌∙◌, subst}
use mathlib.Core.Bool.{Bool, false, ◌||◌}
use Prim.Native.Nat.{ℕ, ◌≤◌}
use lib.IntN.{ℤ}
use Rattle.whole.specs.declared.Side.TheVariants.{Minus}
use Rattle.settings.specs.declared.Limits.{Limits}
use Rattle.settings.specs.Limits.{outside_span}
use Rattle.axes.specs.Limits.{outside_to, any_outside}
use Rattle.axes.proofs.Every.{Ends, each_ends, none_outside}
use Rattle.axes.proofs.Reaching.{span_between}
use Rattle.axes.proofs.Places.{alike, neither, both, in_span, across_span, Within, within, not_outside, rapid_ends, feed_ends, dwell_ends}
use Rattle.grooving.specs.declared.Groove.{Groove}
use Rattle.grooving.specs.Grooving.{length_of, way_of, wrong, rest, last_width, deep_at, grooving}
use Rattle.grooving.proofs.Each.{width_at, deep_target, grooving_every, first_out, last_bottom}

-- ---- THE LAW
pub reach : (l : Limits) (g : Groove) → wrong g ≡ false
    → any_outside l (grooving g)
    ≡ (outside_to l g.facing g.depth.start g.width.start || outside_to l g.facing g.depth.target (last_width g))
reach l g q =
    alike (any_outside l (grooving g)) (outside_to l b g.depth.start g.width.start || outside_to l b g.depth.target (last_width g))
    (λ e.
    let all = each_ends l (grooving g) e in
    both (outside_to l b g.depth.start g.width.start) (outside_to l b g.depth.target (last_width g))
    (sym (rapid_ends l b g.depth.start g.width.start) ∙ first_out g (Ends l) all)
    (sym (feed_ends l b g.f g.g95 g.depth.target (last_width g)) ∙ last_bottom g (Ends l) q all))
    (λ e.
    let t = neither (outside_to l b g.depth.start g.width.start) (outside_to l b g.depth.target (last_width g)) e in
    let v = within l b g.depth.start g.width.start t.0 in
    let w = within l b g.depth.target (last_width g) t.1 in
    none_outside l (grooving g) (grooving_every g (Ends l) (record {
      cut = λ m n h k. feed_ends l b g.f g.g95 (deep_at g m) (width_at g n) ∙ not_outside l b (deep_at g m) (width_at g n) (place v w m n h k);
      out = λ m n h k. rapid_ends l b (deep_at g m) (width_at g n) ∙ not_outside l b (deep_at g m) (width_at g n) (place v w m n h k);
      dwell = λ m n h k. dwell_ends l b g.dwell (deep_at g m) (width_at g n) ∙ not_outside l b (deep_at g m) (width_at g n) (place v w m n h k);
    }) q))
  where
    b : Bool
    b = g.facing

    -- what lies between the two points on each axis is within the limits where they are
    place : Within l b g.depth.start g.width.start → Within l b g.depth.target (last_width g)
        → (m n : ℕ) → m ≤ length_of g.depth → n ≤ rest g → Within l b (deep_at g m) (width_at g n)
    place v w m n h k = record {
      inward = span_between (in_span l b) (way_of g.depth) g.depth.start m (length_of g.depth)
          (subst (λ (d : ℤ). outside_span (in_span l b) d ≡ false) (sym (deep_target g)) w.inward) v.inward h;
      across = span_between (across_span l b) Minus g.width.start n (rest g) w.across v.across k;
    }
