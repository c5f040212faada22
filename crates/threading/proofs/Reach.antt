-- Where a thread reaches: a move of it ends outside the limits just where one of two points does, its start, and the bottom at the far end.
-- Every record lies between these two, and both are ends of moves. The crest is no end of a move.
-- Assumes nothing.
use mathlib.Core.Path.{◌≡◌, refl, sym, ◌∙◌, subst}
use mathlib.Core.Bool.{Bool, false, ◌||◌}
use mathlib.Core.List.{List, [], ◌∷◌, ◌++◌, map}
use Prim.Native.Nat.{ℕ, zero, suc, ◌+◌, ◌<◌, ◌≤◌}
use native.Mathlib.Omega.{arith}
use lib.IntN.{ℤ}
use lib.ListN.{length, replicate}
use Rattle.moves.specs.declared.Record.{Record}
use Rattle.settings.specs.declared.Limits.{Limits}
use Rattle.settings.specs.Limits.{outside_span}
use Rattle.axes.specs.Axis.{side}
use Rattle.axes.specs.Limits.{outside_to, any_outside}
use Rattle.axes.proofs.Reaching.{span_between}
use Rattle.axes.proofs.Places.{alike, neither, both, in_span, across_span, within, not_outside, rapid_ends, thread_ends}
use Rattle.depths.specs.Depths.{depths}
use Rattle.depths.specs.Promised.{Rises}
use Rattle.depths.proofs.Rows.{starts}
use Rattle.depths.proofs.Kept.{row_length, row_rises, some_cut}
use Rattle.threading.specs.declared.Thread.{Thread}
use Rattle.threading.specs.declared.Pass.{Pass}
use Rattle.threading.specs.Threading.{wide, whole_depth, bottom, line_at, wrong, pass_for, pass_on, passes, repeated, pass_depths, threading}
use Rattle.threading.proofs.Asked.{Right, right}
use Rattle.threading.proofs.Lines.{gap, wide_mono, line_from_lem, line_bottom, bottom_from}

-- ---- one pass: its four moves end within the limits just where these four places do
record Legs (l : Limits) (p : Pass) (line : ℤ) : Type 0 where
  on : outside_span (in_span l p.facing) line ≡ false
  from : outside_span (in_span l p.facing) p.from ≡ false
  home : outside_span (across_span l p.facing) p.home ≡ false
  end : outside_span (across_span l p.facing) p.end ≡ false

pass_ends : (l : Limits) (p : Pass) (k : ℤ) (rs : List Record)
    → any_outside l (pass_on p k ++ rs)
    ≡ (outside_to l p.facing k p.home || (outside_to l p.facing k p.end || (outside_to l p.facing p.from p.end || (outside_to l p.facing p.from p.home || any_outside l rs))))
unfolding pass_on any_outside
pass_ends l p k rs =
    let b = p.facing in
    λ j. rapid_ends l b k p.home j || (thread_ends l b p.pitch k p.end j || (rapid_ends l b p.from p.end j || (rapid_ends l b p.from p.home j || any_outside l rs)))

legs : (l : Limits) (p : Pass) (k : ℤ) (rs : List Record) → any_outside l (pass_on p k ++ rs) ≡ false → Legs l p k × (any_outside l rs ≡ false)
legs l p k rs e =
    let b = p.facing in
    let first = neither (outside_to l b k p.home) _ (sym (pass_ends l p k rs) ∙ e) in
    let second = neither (outside_to l b k p.end) _ first.1 in
    let third = neither (outside_to l b p.from p.end) _ second.1 in
    let fourth = neither (outside_to l b p.from p.home) _ third.1 in
    let to = within l b k p.end second.0 in
    let back = within l b p.from p.home fourth.0 in
    (record { on = to.inward; from = back.inward; home = back.across; end = to.across }, fourth.1)

no_leg : (l : Limits) (p : Pass) (k : ℤ) (rs : List Record) → Legs l p k → any_outside l rs ≡ false → any_outside l (pass_on p k ++ rs) ≡ false
no_leg l p k rs g e =
    let b = p.facing in
    pass_ends l p k rs
    ∙ both (outside_to l b k p.home) _ (not_outside l b k p.home (record { inward = g.on; across = g.home }))
    (both (outside_to l b k p.end) _ (not_outside l b k p.end (record { inward = g.on; across = g.end }))
    (both (outside_to l b p.from p.end) _ (not_outside l b p.from p.end (record { inward = g.from; across = g.end }))
    (both (outside_to l b p.from p.home) _ (not_outside l b p.from p.home (record { inward = g.from; across = g.home })) e)))

-- ---- a row of passes
-- each of a row's depths
abbrev pub Each : (ℕ → Type 0) → List ℕ → Type 0
Each P [] = Unit {0}
Each P (x ∷ xs) = P x × Each P xs

all_within : (l : Limits) (p : Pass) (f : ℕ → ℤ) (xs : List ℕ) → Each (λ x. Legs l p (f x)) xs → any_outside l (passes p (map f xs)) ≡ false
unfolding passes any_outside
all_within l p f [] h = refl
all_within l p f (x ∷ xs) h = no_leg l p (f x) (passes p (map f xs)) h.0 (all_within l p f xs h.1)

-- where all passes are within the limits, so is the one that a rising row ends with
last_within : (l : Limits) (p : Pass) (f : ℕ → ℤ) (e x : ℕ) (ys : List ℕ) (n : ℕ) → Rises e x ys → 0 < length ys
    → any_outside l (passes p (map f (repeated x ys n))) ≡ false → Legs l p (f e)
unfolding passes Rises repeated
last_within l p f e x [] n r h o = absurd (omega arith)
last_within l p f e x (y ∷ []) n r h o = subst (λ (z : ℕ). Legs l p (f z)) r.1 (legs l p (f y) (passes p (map f (replicate n y))) o).0
last_within l p f e x (y ∷ (z ∷ ys)) n r h o =
    last_within l p f e y (z ∷ ys) n r.1 (omega arith) (legs l p (f y) (passes p (map f (repeated y (z ∷ ys) n))) o).1

-- none of the passes is deeper than where the row ends
pub each_below : (P : ℕ → Type 0) (e : ℕ) → ((x : ℕ) → x ≤ e → P x) → (x : ℕ) (ys : List ℕ) (n : ℕ) → Rises e x ys → Each P (repeated x ys n)
unfolding Rises repeated
each_below P e h x [] n r = same n
  where
    same : (n : ℕ) → Each P (replicate n x)
    same zero = tt
    same (suc n) = (h x (omega arith), same n)
each_below P e h x (y ∷ ys) n r = (h y (starts e y ys r.1), each_below P e h y ys n r.1)

-- ---- THE LAW
pub reach : (l : Limits) (t : Thread) → wrong t ≡ false
    → any_outside l (threading t)
    ≡ (outside_to l t.facing t.infeed.start t.path.start || outside_to l t.facing (bottom t) t.path.target)
unfolding threading
reach l t w =
    alike (any_outside l (passes p (map (line_at t) (pass_depths t)))) (outside_to l b from home || outside_to l b (bottom t) end)
    (λ e.
    let g : Legs l p (bottom t) = subst (Legs l p) (line_bottom t r.crest) (last_within l p (line_at t) t.d6 0 row t.empty rises some e) in
    both (outside_to l b from home) (outside_to l b (bottom t) end)
    (not_outside l b from home (record { inward = g.from; across = g.home }))
    (not_outside l b (bottom t) end (record { inward = g.on; across = g.end })))
    (λ e.
    let n = neither (outside_to l b from home) (outside_to l b (bottom t) end) e in
    let v = within l b from home n.0 in
    let u = within l b (bottom t) end n.1 in
    all_within l p (line_at t) (pass_depths t) (each_below (λ x. Legs l p (line_at t x)) t.d6
    (λ x h. record { on = inner x h v.inward u.inward; from = v.inward; home = v.across; end = u.across })
    0 row t.empty rises))
  where
    r : Right t
    r = right t w

    p : Pass
    p = pass_for t

    b : Bool
    b = t.facing

    from : ℤ
    from = t.infeed.start

    home : ℤ
    home = t.path.start

    end : ℤ
    end = t.path.target

    row : List ℕ
    row = depths t.rule t.d3 t.d6

    rises : Rises t.d6 0 row
    rises = row_rises t.rule t.d3 t.d6 r.proper

    some : 0 < length row
    some = omega (arith, row_length t.rule t.d3 t.d6 r.proper, some_cut t.rule t.d3 t.d6 r.proper)

    inner : (x : ℕ) → x ≤ t.d6 → outside_span (in_span l b) from ≡ false → outside_span (in_span l b) (bottom t) ≡ false → outside_span (in_span l b) (line_at t x) ≡ false
    inner x h f o =
        subst (λ (z : ℤ). outside_span (in_span l b) z ≡ false) (sym (line_from_lem t r.crest x))
        (span_between (in_span l b) (side t.infeed) from (gap t + wide b x) (gap t + whole_depth t)
        (subst (λ (z : ℤ). outside_span (in_span l b) z ≡ false) (bottom_from t r.crest) o) f (omega (arith, wide_mono b x t.d6 h)))
