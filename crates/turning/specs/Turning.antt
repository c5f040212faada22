-- 01, "G84": "No D3, or 0: one pass. Each pass: rapid X to the pass line; feed Z to the end line; feed X to the start X; rapid Z to the start Z. Facing: exchange the
-- axes .. E and the shortened length must be at least 1."
use Rattle.std.specs.Prelude.{Bool, cond, ◌||◌, List, [], ◌∷◌, ◌++◌, ℕ, ◌*◌, eqb, ℤ, ◌+ℤ◌}
use Rattle.whole.specs.declared.Side.{Side}
use Rattle.whole.specs.Signed.{along}
use Rattle.division.specs.Division.{count, pieces}
use Rattle.moves.specs.declared.Record.{Record}
use Rattle.axes.specs.Axis.{side, net, allowance_line}
use Rattle.axes.specs.Goes.{rapid_to, feed_to}
use Rattle.turning.specs.declared.Turning.{Turning}
use Rattle.turning.specs.declared.Pass.{Pass}

-- A CYCLE { facing, infeed, path, division, f, g95 } goes in along `infeed` and cuts along `path`. Longitudinal these are X and Z, facing Z and X.
-- "E and the shortened length must be at least 1" (else alarm 19)
unfoldable pub too_short : Turning → Bool
too_short c = eqb (net c.infeed) 0 || eqb (net c.path) 0

-- "n = E/d rounded up"; "No D3, or 0: one pass"
unfoldable pub pass_count : ℕ → ℕ → ℕ
pass_count e d = cond (eqb d 0) 1 (count e d)

-- the depths of its passes, one after the other
abbrev pub row : Turning → List ℕ
row c = pieces (net c.infeed) (pass_count (net c.infeed) c.division)

-- what its passes share
abbrev pub pass_for : Turning → Pass
pass_for c =
    record { facing = c.facing; f = c.f; g95 = c.g95; from = c.infeed.start; home = c.path.start; end = allowance_line c.path }

-- one pass on the line l: "rapid X to the pass line; feed Z to the end line; feed X to the start X; rapid Z to the start Z"
unfoldable pub pass_on : Pass → ℤ → List Record
pass_on p l =
    rapid_to p.facing l p.home
    ∷ feed_to p.facing p.f p.g95 l p.end
    ∷ feed_to p.facing p.f p.g95 p.from p.end
    ∷ rapid_to p.facing p.from p.home
    ∷ []

-- passes of the depths of a row, each from the line of the one before
unfoldable pub passes : (ℤ → List Record) → Side → ℤ → List ℕ → List Record
passes p s l [] = []
passes p s l (d ∷ ds) = p (l +ℤ along s d) ++ passes p s (l +ℤ along s d) ds

-- the records of a cycle, and how many they are
unfoldable pub turning : Turning → List Record
turning c = passes (pass_on (pass_for c)) (side c.infeed) c.infeed.start (row c)

unfoldable pub record_count : Turning → ℕ
record_count c = 4 * pass_count (net c.infeed) c.division
