-- What a thread that is not wrong has: cuts, some way on both axes, and a crest that is not beyond the start.
-- Assumes nothing.
use mathlib.Core.Path.{◌≡◌}
use mathlib.Core.Bool.{false, ◌||◌}
use Prim.Native.Nat.{ℕ, ◌<◌}
use lib.Dec.{eqb}
use borrow.Author.Tests.{ltb-false}
use Rattle.axes.specs.Axis.{distance}
use Rattle.axes.proofs.Places.{neither}
use Rattle.depths.specs.declared.Rule.{Rule}
use Rattle.depths.specs.declared.Rule.TheVariants.{EvenDepth, EvenNumber, FallingDepth, FallingNumber}
use Rattle.depths.specs.Depths.{Enough, Proper}
use Rattle.cuts.proofs.Opened.{not_none}
use Rattle.threading.specs.declared.Thread.{Thread}
use Rattle.threading.specs.Threading.{many_cuts, crest_beyond, wrong}

enough : (r : Rule) (d e : ℕ) → many_cuts r d e ≡ false → Enough r d e
unfolding many_cuts
enough EvenDepth d e h = tt
enough EvenNumber d e h = ltb-false e d h
enough FallingDepth d e h = tt
enough FallingNumber d e h = ltb-false e d h

pub record Right (t : Thread) : Type 0 where
  pub proper : Proper t.rule t.d3 t.d6
  pub infeed : 0 < distance t.infeed
  pub path : 0 < distance t.path
  pub crest : crest_beyond t ≡ false

pub right : (t : Thread) → wrong t ≡ false → Right t
unfolding wrong
right t h =
    let a = neither (eqb t.d3 0 || eqb t.d6 0) _ h in
    let b = neither (many_cuts t.rule t.d3 t.d6) _ a.1 in
    let c = neither (eqb (distance t.infeed) 0 || eqb (distance t.path) 0) (crest_beyond t) b.1 in
    let d = neither (eqb t.d3 0) (eqb t.d6 0) a.0 in
    let e = neither (eqb (distance t.infeed) 0) (eqb (distance t.path) 0) c.0 in record {
      proper = record { d3 = not_none t.d3 d.0; d6 = not_none t.d6 d.1; number = enough t.rule t.d3 t.d6 b.0 };
      infeed = not_none (distance t.infeed) e.0;
      path = not_none (distance t.path) e.1;
      crest = c.1;
    }
