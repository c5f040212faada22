-- THE PROMISE: each place of an arc that no test refuses, given by fractions, lies within the limits widened by 10 micrometres per side. Said of one side of one axis, toward a quadrant
-- point, and taken four times.
-- Assumes nothing.
use mathlib.Core.Path.{◌≡◌, refl, sym, ◌∙◌}
use mathlib.Core.Bool.{Bool, true, false, cond, not, ◌&&◌, ◌||◌, true≢false}
use Prim.Native.Nat.{ℕ, zero, suc, ◌+◌, ◌*◌, ◌≤◌, ◌<◌}
use native.Mathlib.Omega.{arith}
use native.Mathlib.Nat.{mul-le-mul, mul-le-mul_left}
use lib.Dec.{eqb}
use lib.IntN.{ℤ, pos, negsuc, neg_ℤ, nat_abs, ◌+ℤ◌, ◌-ℤ◌, ◌*ℤ◌}
use lib.Signed.{lt_z, le_z, ◌≤ℤ◌}
use borrow.Author.Tests.{leb-true}
use Rattle.whole.proofs.Integers.{whole, up, sub_in, up_neg, down_neg, le_in, le_true}
use Rattle.settings.specs.declared.Limits.{Limits}
use Rattle.settings.specs.Limits.{outside_span, outside}
use Rattle.axes.proofs.Places.{neither}
use Rattle.arcs.specs.declared.Arc.{Arc}
use Rattle.arrows.specs.declared.Arrow.{Arrow}
use Rattle.arrows.specs.Arrows.{arrow, square, ahead, tolerance, slack, exceeds, root_up_to, root_from}
use Rattle.sweeps.specs.declared.Sweep.{Sweep}
use Rattle.sweeps.specs.declared.Sweep.TheVariants.{Full, Nothing, Short, Long}
use Rattle.sweeps.specs.declared.Quadrant.{Quadrant}
use Rattle.sweeps.specs.declared.Quadrant.TheVariants.{East, North, West, South}
use Rattle.arcs.specs.Arcs.{start_of, end_of, radius2, uneven}
use Rattle.sweeps.specs.Sweeps.{sweep_of, course_of, unit, between, crosses}
use Rattle.straying.specs.Straying.{lows, highs, root_in, spans, holds, strays_at, strays_somewhere, straying}
use Rattle.straying.specs.Points.{towards, OnArc, Passed, Stays}
use Rattle.arrows.proofs.Differences.{self, num, sum, dif, prod, neg}
use Rattle.arrows.proofs.Signs.{NonNeg}
use Rattle.arrows.proofs.Roots.{Near, near, near_self}
use Rattle.arrows.proofs.Plane.{Lengths, Reached, as_first, as_last, over_half, up_to_half}
use Rattle.sweeps.proofs.Quadrants.{along, across, lie, square_turned}
use Rattle.sweeps.proofs.Sweeps.{first, last, Swept, is_full_lem, is_short, is_long, swept, on_line, both_ways, one_way, short_not, long_not}
use Rattle.straying.proofs.Ways.{Way, on_the_way}
use Rattle.straying.proofs.Rays.{on_its_ray}

-- ---- what the tests say
-- an arrow within the corners of the limits
pub record InBox (low high a : Arrow) : Type 0 where
  pub right_low : low.right ≤ℤ a.right
  pub right_high : a.right ≤ℤ high.right
  pub up_low : low.up ≤ℤ a.up
  pub up_high : a.up ≤ℤ high.up

-- the limit toward a quadrant point
abbrev pub bound : Quadrant → Arrow → Arrow → ℤ
bound East low high = high.right
bound North low high = high.up
bound West low high = neg_ℤ low.right
bound South low high = neg_ℤ low.up

in_bound : (k : Quadrant) {low high a : Arrow} → InBox low high a → along k a ≤ℤ bound k low high
in_bound East b = b.right_high
in_bound North b = b.up_high
in_bound West {low} {high} {a} b = omega (whole, up_neg a.right, down_neg a.right, up_neg low.right, down_neg low.right, b.right_low)
in_bound South {low} {high} {a} b = omega (whole, up_neg a.up, down_neg a.up, up_neg low.up, down_neg low.up, b.up_low)

box : (l : Limits) (a : Arc) (x z : ℤ) → outside l x z ≡ false → InBox (lows l a) (highs l a) (arrow a.centre.x a.centre.z x z)
unfolding outside_span outside lows highs
box l a x z h =
    let e = neither (lt_z x l.x.lowest || lt_z l.x.highest x) (lt_z z l.z.lowest || lt_z l.z.highest z) h in
    let f = neither (lt_z x l.x.lowest) (lt_z l.x.highest x) e.0 in
    let g = neither (lt_z z l.z.lowest) (lt_z l.z.highest z) e.1 in
    let cx = a.centre.x in
    let cz = a.centre.z in
    let px = sub_in x cx in
    let pz = prod (num 2) (dif (self z) (self cz)) in
    record {
      right_low = omega (whole, pz, prod (num 2) (dif (self l.z.lowest) (self cz)));
      right_high = omega (whole, pz, prod (num 2) (dif (self l.z.highest) (self cz)));
      up_low = omega (whole, px, sub_in l.x.lowest cx);
      up_high = omega (whole, px, sub_in l.x.highest cx);
    }

-- an end of an arc, of the circle with the radius √m: not at the centre, its distance near the radius, within the corners
record End (m : ℕ) (low high f : Arrow) : Type 0 where
  some : 0 < square f
  above : Near m (square f)
  below : Near (square f) m
  box : InBox low high f

either : (b : Bool) {m : ℕ} {low high f g : Arrow} → End m low high f → End m low high g → End m low high (cond b f g)
either true x y = x
either false x y = y

-- all that the tests say
record Tested (l : Limits) (a : Arc) : Type 0 where
  start : End (radius2 a) (lows l a) (highs l a) (start_of a)
  at_first : End (radius2 a) (lows l a) (highs l a) (first a)
  at_last : End (radius2 a) (lows l a) (highs l a) (last a)
  quadrants : (k : Quadrant) → strays_at (lows l a) (highs l a) (radius2 a) (course_of a) k ≡ false

pub not_zero : (n : ℕ) → eqb n 0 ≡ false → 0 < n
not_zero zero h = absurd (true≢false h)
not_zero (suc n) h = omega arith

tested : (l : Limits) (a : Arc) → Passed l a → Tested l a
unfolding uneven strays_somewhere straying radius2 start_of end_of
tested l a p =
    let s = start_of a in
    let t = end_of a in
    let e = neither (eqb (square s) 0 || eqb (square t) 0) (exceeds (square s) (square t) || exceeds (square t) (square s)) p.even in
    let f = neither (eqb (square s) 0) (eqb (square t) 0) e.0 in
    let g = neither (exceeds (square s) (square t)) (exceeds (square t) (square s)) e.1 in
    let by = strays_at (lows l a) (highs l a) (radius2 a) (course_of a) in
    let o = neither (outside l a.end.x a.end.z) (by East || by North || by West || by South) p.stays in
    let o₁ = neither (by East || by North || by West) (by South) o.1 in
    let o₂ = neither (by East || by North) (by West) o₁.0 in
    let o₃ = neither (by East) (by North) o₂.0 in
    let at_start_lem : End (radius2 a) (lows l a) (highs l a) (start_of a) =
    record { some = not_zero (square s) f.0; above = near_self (square s); below = near_self (square s); box = box l a a.start.x a.start.z p.start } in
    let at_end : End (radius2 a) (lows l a) (highs l a) (end_of a) =
    record { some = not_zero (square t) f.1; above = near (square s) (square t) g.0; below = near (square t) (square s) g.1; box = box l a a.end.x a.end.z o.0 } in
    record { start = at_start_lem; at_first = either a.clockwise at_end at_start_lem; at_last = either a.clockwise at_start_lem at_end; quadrants = four by o₃.0 o₃.1 o₂.1 o₁.1 }
  where
    four : (f : Quadrant → Bool) → f East ≡ false → f North ≡ false → f West ≡ false → f South ≡ false → (k : Quadrant) → f k ≡ false
    four f e n w s East = e
    four f e n w s North = n
    four f e n w s West = w
    four f e n w s South = s

-- ---- one side
both : (a b : Bool) → (a && b) ≡ true → (a ≡ true) × (b ≡ true)
both true b h = (refl, h)
both false b h = absurd (true≢false (sym h))

-- the root of m does not go past the limit toward k
record Under (m : ℕ) (b : ℤ) : Type 0 where
  natural : NonNeg b
  root : m ≤ nat_abs b * nat_abs b

under : (m : ℕ) (low high : ℤ) (s : Bool) → (root_in m low high && s) ≡ true → Under m high
unfolding root_up_to root_from
under m low high s h =
    let e = both (root_in m low high) s h in
    let f = both (root_from m low) (root_up_to m high) e.0 in
    let g = both (le_z (pos 0) high) (lib.Dec.leb m (nat_abs high * nat_abs high)) f.1 in
    record { natural = omega (whole, le_true (pos 0) high g.0); root = leb-true m (nat_abs high * nat_abs high) g.1 }

under_bound : (k : Quadrant) (low high : Arrow) (m : ℕ) → holds low high m k ≡ true → Under m (bound k low high)
unfolding holds
under_bound East low high m h = under m low.right high.right (spans low.up high.up) h
under_bound North low high m h = under m low.up high.up (spans low.right high.right) h
under_bound West low high m h = under m (neg_ℤ high.right) (neg_ℤ low.right) (spans low.up high.up) h
under_bound South low high m h = under m (neg_ℤ high.up) (neg_ℤ low.up) (spans low.right high.right) h

root_le : (a b : ℕ) → a * a ≤ b * b → (b < a → ⊥)
root_le a b h k = omega (arith, mul-le-mul k k)

-- a place on the circle, where the whole circle stays within the limit
on_circle : (q m : ℕ) (p₁ p₂ b : ℤ) → nat_abs p₁ * nat_abs p₁ + nat_abs p₂ * nat_abs p₂ ≡ q * q * m → Under m b → p₁ ≤ℤ (pos q *ℤ (b +ℤ pos slack))
on_circle q m (negsuc a) p₂ (pos c) e u = omega (whole, prod (num q) (sum (num c) (num slack)))
on_circle q m (pos a) p₂ (pos c) e u =
    let s = mul-le-mul_left (q * q) u.root in
    let n : a * a ≤ q * c * (q * c) = omega arith in
    let le : a ≤ q * c = decide a (q * c) (root_le a (q * c) n) in
    omega (whole, prod (num q) (sum (num c) (num slack)))
  where
    decide : (a b : ℕ) → (b < a → ⊥) → a ≤ b
    decide a b h = omega arith
on_circle q m p₁ p₂ (negsuc c) e u = absurd (omega (whole, u.natural))

-- a greater limit
wider : (q : ℕ) (a b : ℤ) → a ≤ℤ b → (pos q *ℤ (a +ℤ pos slack)) ≤ℤ (pos q *ℤ (b +ℤ pos slack))
wider q a b h = omega (whole, prod (num q) (sum (self a) (num slack)), prod (num q) (sum (self b) (num slack)), mul-le-mul_left q (le_in a b h))

le_trans : (a b c : ℤ) → a ≤ℤ b → b ≤ℤ c → a ≤ℤ c
le_trans a b c h k = omega whole

module _ {l : Limits} {a : Arc} (t : Tested l a) {q : ℕ} {x z : ℤ} (o : OnArc a q x z) (k : Quadrant) where
  lengths : Lengths q (radius2 a) (square (first a)) (square (last a)) (along k (first a)) (across k (first a)) (along k (last a)) (across k (last a)) (along k (towards a q x z)) (across k (towards a q x z))
  unfolding radius2
  lengths = record {
    some = o.some;
    m>0 = t.start.some;
    n>0 = t.at_first.some;
    k>0 = t.at_last.some;
    m_n = t.at_first.above;
    n_m = t.at_first.below;
    m_k = t.at_last.above;
    k_m = t.at_last.below;
    circle = square_turned k (towards a q x z) ∙ o.circle;
    n_is = square_turned k (first a);
    k_is = square_turned k (last a);
  }

  abbrev Side : Type 0
  Side = along k (towards a q x z) ≤ℤ (pos q *ℤ (bound k (lows l a) (highs l a) +ℤ pos slack))

  ended : Reached q (along k (first a)) (along k (last a)) (along k (towards a q x z)) → Side
  ended (as_first h) = le_trans _ _ _ h (wider q (along k (first a)) (bound k (lows l a) (highs l a)) (in_bound k t.at_first.box))
  ended (as_last h) = le_trans _ _ _ h (wider q (along k (last a)) (bound k (lows l a) (highs l a)) (in_bound k t.at_last.box))

  -- the place on the start's ray is the start
  at_start_lem : Reached q (along k (start_of a)) (along k (start_of a)) (along k (towards a q x z)) → Side
  at_start_lem (as_first h) = le_trans _ _ _ h (wider q (along k (start_of a)) (bound k (lows l a) (highs l a)) (in_bound k t.start.box))
  at_start_lem (as_last h) = le_trans _ _ _ h (wider q (along k (start_of a)) (bound k (lows l a) (highs l a)) (in_bound k t.start.box))

  not_crossed : (s : Sweep) → Swept (first a) (last a) s → Way s a.clockwise (start_of a) (end_of a) (towards a q x z)
      → between s (lt_z (pos 0) (ahead a.clockwise (start_of a) (unit k))) (lt_z (pos 0) (ahead a.clockwise (unit k) (end_of a))) ≡ false → Side
  unfolding between radius2
  not_crossed Full is_full_lem b h = absurd (true≢false h)
  not_crossed Nothing w b h = at_start_lem (on_its_ray (start_of a) (towards a q x z) k o.some t.start.some refl o.circle (on_line a.clockwise (start_of a) (towards a q x z) b.0) b.1)
  not_crossed Short (is_short hw d) b h =
      let p = towards a q x z in
      let o = both_ways a.clockwise (start_of a) (end_of a) p b in
      ended (up_to_half (lie k (first a) (last a) p) lengths hw d o.0 o.1 (short_not a.clockwise (start_of a) (end_of a) k h))
  not_crossed Long (is_long hw) b h =
      let p = towards a q x z in
      let e = long_not a.clockwise (start_of a) (end_of a) k h in
      ended (over_half (lie k (first a) (last a) p) lengths hw e.0 e.1 (one_way a.clockwise (start_of a) (end_of a) p b))

  side : Side
  unfolding crosses course_of strays_at
  side = go (crosses (course_of a) k) refl (holds (lows l a) (highs l a) (radius2 a) k) refl (t.quadrants k)
    where
      go : (c : Bool) → crosses (course_of a) k ≡ c → (d : Bool) → holds (lows l a) (highs l a) (radius2 a) k ≡ d → (c && not d) ≡ false → Side
      go false e d f h = not_crossed (sweep_of a) (swept a) (on_the_way a (towards a q x z) t.start.some o.way) e
      go true e true f h =
          on_circle q (radius2 a) (along k (towards a q x z)) (across k (towards a q x z)) (bound k (lows l a) (highs l a)) (square_turned k (towards a q x z) ∙ o.circle)
          (under_bound k (lows l a) (highs l a) (radius2 a) f)
      go true e false f h = absurd (true≢false h)

-- ---- from the centre's view to the machine's
module _ (q : ℕ) (v c b : ℤ) where
  out_high_x : (v -ℤ pos q *ℤ c) ≤ℤ (pos q *ℤ ((b -ℤ c) +ℤ pos slack)) → v ≤ℤ (pos q *ℤ (b +ℤ pos (2 * tolerance)))
  out_high_x h = let n = num q in omega (whole, dif (self v) (prod n (self c)), prod n (sum (dif (self b) (self c)) (num slack)), prod n (sum (self b) (num (2 * tolerance))))

  out_low_x : neg_ℤ (v -ℤ pos q *ℤ c) ≤ℤ (pos q *ℤ (neg_ℤ (b -ℤ c) +ℤ pos slack)) → (pos q *ℤ (b -ℤ pos (2 * tolerance))) ≤ℤ v
  out_low_x h = let n = num q in omega (whole, neg (dif (self v) (prod n (self c))), prod n (sum (neg (dif (self b) (self c))) (num slack)), prod n (dif (self b) (num (2 * tolerance))))

  out_high_z : (pos 2 *ℤ (v -ℤ pos q *ℤ c)) ≤ℤ (pos q *ℤ (pos 2 *ℤ (b -ℤ c) +ℤ pos slack)) → v ≤ℤ (pos q *ℤ (b +ℤ pos tolerance))
  out_high_z h = let n = num q in omega (whole, prod (num 2) (dif (self v) (prod n (self c))), prod n (sum (prod (num 2) (dif (self b) (self c))) (num slack)), prod n (sum (self b) (num tolerance)))

  out_low_z : neg_ℤ (pos 2 *ℤ (v -ℤ pos q *ℤ c)) ≤ℤ (pos q *ℤ (neg_ℤ (pos 2 *ℤ (b -ℤ c)) +ℤ pos slack)) → (pos q *ℤ (b -ℤ pos tolerance)) ≤ℤ v
  out_low_z h = let n = num q in omega (whole, neg (prod (num 2) (dif (self v) (prod n (self c)))), prod n (sum (neg (prod (num 2) (dif (self b) (self c)))) (num slack)), prod n (dif (self b) (num tolerance)))

pub stays : Stays
unfolding lows highs
stays l a p q x z o =
    let t = tested l a p in
    record {
      low_x = out_low_x q x a.centre.x l.x.lowest (side t o South);
      high_x = out_high_x q x a.centre.x l.x.highest (side t o North);
      low_z = out_low_z q z a.centre.z l.z.lowest (side t o West);
      high_z = out_high_z q z a.centre.z l.z.highest (side t o East);
    }
