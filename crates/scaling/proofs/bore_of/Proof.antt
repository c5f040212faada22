-- `scaling::bore_of` meets its contract.
use mir.Syntax.{w32}
use mir.Val.{SFits}
use mir.Facts.{to_z-of_z}
use borrow.Author.Rules.{rules}
use Rattle.scaling.specs.Scaled.{bore_of}
use Rattle.scaling.proofs.bore_of.Statement.{statement}
use Rattle.scaling.proofs.bore_of.Tie as tie

-- the places fit: asked at the function's entry, where `search` still reaches them
x : (c : tie.Start) → SFits w32 c.args.s.x
x c = search rules

z : (c : tie.Start) → SFits w32 c.args.s.z
z c = search rules

target : (c : tie.Start) → SFits w32 c.args.s.z_target
target c = search rules

returns : tie.Need-returns
unfolding bore_of
returns c =
    let d6 = c in
    let d5 = d6 in
    let d4 = d5 in
    let d3 = d4 in
    let start = d3 in
    let a = start.args in
    λ i. record {
      full = a.full;
      x = to_z-of_z (x start.before.before.before.before.before) i;
      start = to_z-of_z (z start.before.before.before.before.before) i;
      target = to_z-of_z (target start.before.before.before.before.before) i;
      first = d3.d_word-first.ensures.0 i;
      less = d5.d_word-less.ensures.0 i;
      least = d6.d_word-least.ensures.0 i;
      dwell = d4.d_word-dwell.ensures.0 i;
      back = a.s.retract;
      f = a.s.f;
      g95 = a.s.g95;
    }

pub bore_of_spec : {M : Type 1} → statement M
bore_of_spec = tie.close (tie.spec (λ c κs. search rules) (λ c κs. search rules) (λ c κs. search rules) (λ c κs. search rules) returns)
