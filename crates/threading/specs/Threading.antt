-- 02, request 1: "longitudinal and facing G85 (word order as G84) without taper, runout or flank feed. D6 is the depth per side, F the pitch. .. Empty cuts repeat the last pass
-- .. A pass is rapid in, thread, rapid out, rapid back."
use Rattle.std.specs.Prelude.{Bool, false, cond, not, ◌||◌, ◌&&◌, List, [], ◌∷◌, ◌++◌, map, ℕ, ◌+◌, ◌*◌, ◌≤◌, eqb, ltb, ℤ, ◌+ℤ◌, ◌-ℤ◌, replicate}
use Rattle.std.specs.Int.{w32}
use Rattle.std.proofs.Common.{SFits}
use Rattle.whole.specs.Signed.{along}
use Rattle.moves.specs.declared.Record.{Record}
use Rattle.axes.specs.Axis.{distance, side}
use Rattle.axes.specs.Goes.{rapid_to, thread_to}
use Rattle.depths.specs.declared.Rule.{Rule}
use Rattle.depths.specs.declared.Rule.TheVariants.{EvenDepth, EvenNumber, FallingDepth, FallingNumber}
use Rattle.depths.specs.Depths.{greatest_d, cut_count, depths}
use Rattle.threading.specs.declared.Thread.{Thread}
use Rattle.threading.specs.declared.Pass.{Pass}

-- A THREAD { facing, infeed, path, rule, nominal, d3, d6, empty, pitch } goes in along `infeed` and cuts along `path`. Longitudinal these are X and Z, facing Z and X.
-- ---- where it lies
-- a length per side, as the infeed axis counts it: X is a diameter, Z is not doubled
unfoldable pub wide : Bool → ℕ → ℕ
wide facing n = cond facing n (2 * n)

-- the depth of the whole thread on the infeed axis
abbrev pub whole_depth : Thread → ℕ
whole_depth t = wide t.facing t.d6

-- the bottom is the target, or, where "target is the nominal diameter and not the core", lies the depth beyond it; the crest lies the depth before the bottom
unfoldable pub bottom : Thread → ℤ
bottom t = cond t.nominal (t.infeed.target +ℤ along (side t.infeed) (whole_depth t)) t.infeed.target

unfoldable pub crest : Thread → ℤ
crest t = cond t.nominal t.infeed.target (t.infeed.target -ℤ along (side t.infeed) (whole_depth t))

-- the line of a depth per side, which counts from the crest
abbrev pub line_at : Thread → ℕ → ℤ
line_at t x = crest t +ℤ along (side t.infeed) (wide t.facing x)

-- ---- alarm 19: "D3 or D6 zero or missing, a cut number above D6, infeed distance or thread length zero, or a thread crest beyond the start"
unfoldable pub many_cuts : Rule → ℕ → ℕ → Bool
many_cuts EvenDepth d e = false
many_cuts EvenNumber d e = ltb e d
many_cuts FallingDepth d e = false
many_cuts FallingNumber d e = ltb e d

-- a crest that lies the depth before the target is beyond the start where the way to the target is shorter; a crest that is the target never is
unfoldable pub crest_beyond : Thread → Bool
crest_beyond t = not t.nominal && ltb (distance t.infeed) (whole_depth t)

unfoldable pub wrong : Thread → Bool
wrong t =
    (eqb t.d3 0 || eqb t.d6 0)
    || (many_cuts t.rule t.d3 t.d6 || ((eqb (distance t.infeed) 0 || eqb (distance t.path) 0) || crest_beyond t))

-- ---- the records
-- what its passes share
abbrev pub pass_for : Thread → Pass
pass_for t = record { facing = t.facing; pitch = t.pitch; from = t.infeed.start; home = t.path.start; end = t.path.target }

-- one pass on the line l: "rapid in, thread, rapid out, rapid back"
unfoldable pub pass_on : Pass → ℤ → List Record
pass_on p l =
    rapid_to p.facing l p.home
    ∷ thread_to p.facing p.pitch l p.end
    ∷ rapid_to p.facing p.from p.end
    ∷ rapid_to p.facing p.from p.home
    ∷ []

unfoldable pub passes : Pass → List ℤ → List Record
passes p [] = []
passes p (l ∷ ls) = pass_on p l ++ passes p ls

-- "Empty cuts repeat the last pass D4 times": the depths of a row behind the depth x, and the last of them n times more
unfoldable pub repeated : ℕ → List ℕ → ℕ → List ℕ
repeated x [] n = replicate n x
repeated x (y ∷ ys) n = y ∷ repeated y ys n

-- the depths of all passes
abbrev pub pass_depths : Thread → List ℕ
pass_depths t = repeated 0 (depths t.rule t.d3 t.d6) t.empty

-- the records of a cycle, and how many they are
unfoldable pub threading : Thread → List Record
threading t = passes (pass_for t) (map (line_at t) (pass_depths t))

unfoldable pub record_count : Thread → ℕ
record_count t = 4 * (cut_count t.rule t.d3 t.d6 + t.empty)

-- ---- what a block's words and settings promise: D words and the empty cuts are at most 32,767, and the bottom fits
pub record Told (t : Thread) : Type 0 where
  pub d3 : t.d3 ≤ greatest_d
  pub d6 : t.d6 ≤ greatest_d
  pub empty : t.empty ≤ greatest_d
  pub bottom : SFits w32 (bottom t)
