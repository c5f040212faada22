-- Where a bore reaches: a move of it ends outside the limits just where one of two points does, its start and its target. Every record lies between these two, and both are ends of moves.
-- Assumes nothing.
use mathlib.Core.Path.{◌≡◌, sym, subst}
use mathlib.Core.Bool.{false, ◌||◌}
use Prim.Native.Nat.{ℕ, ◌≤◌}
use lib.IntN.{ℤ}
use Rattle.settings.specs.declared.Limits.{Limits}
use Rattle.settings.specs.Limits.{outside_span, outside}
use Rattle.axes.specs.Limits.{any_outside}
use Rattle.axes.proofs.Every.{Ends, each_ends, none_outside}
use Rattle.axes.proofs.Reaching.{span_between}
use Rattle.axes.proofs.Places.{alike, neither, both}
use Rattle.drilling.specs.declared.Bore.{Bore}
use Rattle.drilling.specs.Drilling.{stroke_of, way_of, wrong, deep_at, drilling}
use Rattle.drilling.proofs.Each.{deep_target, drilling_every, bottom, home}

-- a depth between start and target
between : (l : Limits) (b : Bore) → outside l b.x b.start ≡ false → outside l b.x b.target ≡ false → (m : ℕ) → m ≤ stroke_of b → outside l b.x (deep_at b m) ≡ false
unfolding outside
between l b s t m h =
    let u = neither (outside_span l.x b.x) (outside_span l.z b.start) s in
    let v = neither (outside_span l.x b.x) (outside_span l.z b.target) t in
    both (outside_span l.x b.x) (outside_span l.z (deep_at b m)) u.0
    (span_between l.z (way_of b) b.start m (stroke_of b) (subst (λ (d : ℤ). outside_span l.z d ≡ false) (sym (deep_target b)) v.1) u.1 h)

-- ---- THE LAW
pub reach : (l : Limits) (b : Bore) → wrong b ≡ false → any_outside l (drilling b) ≡ (outside l b.x b.start || outside l b.x b.target)
reach l b q =
    alike (any_outside l (drilling b)) (outside l b.x b.start || outside l b.x b.target)
    (λ e. let all = each_ends l (drilling b) e in both (outside l b.x b.start) (outside l b.x b.target) (home b (Ends l) all) (bottom b (Ends l) q all))
    (λ e.
    let t = neither (outside l b.x b.start) (outside l b.x b.target) e in
    none_outside l (drilling b)
    (drilling_every b (Ends l) (record { bite = λ m h. between l b t.0 t.1 m h; out = λ m h. between l b t.0 t.1 m h; rest = t.1 }) q))
