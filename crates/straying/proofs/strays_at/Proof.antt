-- `straying::strays_at` meets its contract.
use borrow.Author.Rules.{rules}
use mathlib.Core.Path.{◌≡◌, sym, ◌∙◌}
use mathlib.Core.Bool.{true, false, not, ◌&&◌}
use Rattle.sweeps.specs.Sweeps.{crosses}
use Rattle.straying.specs.Straying.{holds, strays_at}
use Rattle.straying.proofs.strays_at.Statement.{statement}
use Rattle.straying.proofs.strays_at.Tie as tie

held : (c : tie.After-is_held) → let s = c in c.is_held.result ≡ holds s.args.low s.args.high s.args.n s.args.k
held c = c.is_held.ensures ∙ search rules

does_cross_requires : tie.Need-does_cross-requires
does_cross_requires c κs = search rules

is_held_requires : tie.Need-is_held-requires
is_held_requires c κs = search rules

returns : tie.Need-returns-then-does_cross
unfolding strays_at
returns c =
    let d = c in
    let s = d in
    let e : crosses s.args.c s.args.k ≡ true = sym d.does_cross.ensures ∙ d.if-does_cross.true in
    λ i. sym e i && not (held c i)

returns_2 : tie.Need-returns
unfolding strays_at
returns_2 c =
    let s = c in
    let e : crosses s.args.c s.args.k ≡ false = sym c.does_cross.ensures ∙ c.if-does_cross.false in
    simp e

pub strays_at_spec : {M : Type 1} → statement M
strays_at_spec = tie.close (tie.spec does_cross_requires is_held_requires returns returns_2)
