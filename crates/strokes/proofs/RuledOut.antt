-- Rows of records that a wrong program would make, and that the law rules out: a bore that stops one short of its target, one that overruns it, one that cuts nothing, a second plunge that is not deep enough, and a G84 whose second pass is the first again.
-- Assumes nothing.
use mathlib.Core.Path.{◌≡◌, refl, ap, ◌∙◌}
use mathlib.Core.Bool.{true, false}
use mathlib.Core.List.{List, [], ◌∷◌, map}
use Prim.Native.Nat.{ℕ, ◌+◌, ◌<◌}
use native.Mathlib.Omega.{arith}
use lib.IntN.{ℤ, pos, nat_abs}
use Rattle.whole.specs.declared.Side.TheVariants.{Minus}
use Rattle.whole.specs.Signed.{minus}
use Rattle.division.specs.Division.{sum}
use Rattle.moves.specs.declared.Record.{Record}
use Rattle.moves.specs.Kinds.{rapid, feed}
use Rattle.turning.specs.Turned.{each_depth}
use Rattle.strokes.specs.Strokes.{Inward, cuts_at, lines_at, depths_at, Cut, untouched, cut, DepthsAddUp}

-- the sizes of depths, all together
abbrev total : List ℤ → ℕ
total [] = 0
total (z ∷ zs) = nat_abs z + total zs

total_row : (ds : List ℕ) → total (map pos ds) ≡ sum ds
total_row [] = refl
total_row (d ∷ ds) = omega (arith, total_row ds)

-- where something is cut, the sizes of the depths make the stroke
pub sizes : (w : Inward) (rs : List Record) → DepthsAddUp w rs → (a : ℤ) → 0 < total (depths_at w a rs) → total (depths_at w a rs) ≡ w.stroke
sizes w rs p a h = go (p.each a)
  where
    go : Cut w.stroke (depths_at w a rs) → total (depths_at w a rs) ≡ w.stroke
    go (untouched e) = absurd (omega (arith, ap total e))
    go (cut u) = ap total u.is ∙ total_row u.row ∙ u.whole

-- 3000 to -26000 in Z
abbrev bore : Inward
bore = record { facing = true; start = pos 3000; side = Minus; stroke = 29000 }

pub one_short : DepthsAddUp bore (feed (pos 0) (minus 13000) 120 true ∷ rapid (pos 0) (minus 12500) ∷ feed (pos 0) (minus 25999) 120 true ∷ rapid (pos 0) (pos 3000) ∷ []) → ⊥
unfolding cuts_at lines_at each_depth
one_short p = let e : ◌≡◌ {A = ℕ} 28999 29000 = sizes bore (feed (pos 0) (minus 13000) 120 true ∷ rapid (pos 0) (minus 12500) ∷ feed (pos 0) (minus 25999) 120 true ∷ rapid (pos 0) (pos 3000) ∷ []) p (pos 0) (omega arith) in omega arith

pub overrun : DepthsAddUp bore (feed (pos 0) (minus 13000) 120 true ∷ rapid (pos 0) (minus 12500) ∷ feed (pos 0) (minus 26001) 120 true ∷ rapid (pos 0) (pos 3000) ∷ []) → ⊥
unfolding cuts_at lines_at each_depth
overrun p = let e : ◌≡◌ {A = ℕ} 29001 29000 = sizes bore (feed (pos 0) (minus 13000) 120 true ∷ rapid (pos 0) (minus 12500) ∷ feed (pos 0) (minus 26001) 120 true ∷ rapid (pos 0) (pos 3000) ∷ []) p (pos 0) (omega arith) in omega arith

-- no cut at all
pub no_cut : DepthsAddUp bore (rapid (pos 0) (pos 3000) ∷ []) → ⊥
unfolding cuts_at lines_at each_depth
no_cut p = let e : ◌≡◌ {A = ℕ} 0 29000 = ap total p.there.is ∙ total_row p.there.row ∙ p.there.whole in omega arith

-- X 42000 to 40000; the first plunge at Z 0 is whole, the second at Z -2000 is not
abbrev groove : Inward
groove = record { facing = false; start = pos 42000; side = Minus; stroke = 2000 }

pub second_plunge : DepthsAddUp groove (feed (pos 40000) (pos 0) 100 true ∷ rapid (pos 42000) (pos 0) ∷ rapid (pos 42000) (minus 2000) ∷ feed (pos 40001) (minus 2000) 100 true ∷ rapid (pos 42000) (minus 2000) ∷ []) → ⊥
unfolding cuts_at lines_at each_depth
second_plunge p = let e : ◌≡◌ {A = ℕ} 1999 2000 = sizes groove (feed (pos 40000) (pos 0) 100 true ∷ rapid (pos 42000) (pos 0) ∷ rapid (pos 42000) (minus 2000) ∷ feed (pos 40001) (minus 2000) 100 true ∷ rapid (pos 42000) (minus 2000) ∷ []) p (minus 2000) (omega arith) in omega arith

-- X 40000 to 30000 with 2 x 400 left: the passes are to stand on 35400 and 30800
abbrev turned : Inward
turned = record { facing = false; start = pos 40000; side = Minus; stroke = 9200 }

abbrev copied : List Record
copied =
    rapid (pos 35400) (pos 2000) ∷ feed (pos 35400) (minus 19900) 120 true ∷ feed (pos 40000) (minus 19900) 120 true ∷ rapid (pos 40000) (pos 2000)
    ∷ rapid (pos 35400) (pos 2000) ∷ feed (pos 35400) (minus 19900) 120 true ∷ feed (pos 40000) (minus 19900) 120 true ∷ rapid (pos 40000) (pos 2000) ∷ []

pub copied_pass : DepthsAddUp turned copied → ⊥
unfolding cuts_at lines_at each_depth
copied_pass p = let e : ◌≡◌ {A = ℕ} 4600 9200 = sizes turned copied p (minus 19900) (omega arith) in omega arith
