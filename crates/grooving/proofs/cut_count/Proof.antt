-- `grooving::cut_count` meets its contract.
use borrow.Author.Rules.{rules}
use borrow.Author.Tests.{eq-eqb, ne_eqb}
use mathlib.Core.Path.{ap, ◌∙◌}
use Prim.Native.Nat.{ℕ}
use native.Mathlib.Omega.{arith}
use Rattle.division.specs.Division.{count}
use Rattle.grooving.specs.Grooving.{cut_count}
use Rattle.grooving.proofs.Asked.{asked}
use Rattle.grooving.proofs.cut_count.Statement.{statement}
use Rattle.grooving.proofs.cut_count.Tie as tie

length_of_requires : tie.Need-length_of-deep-requires
length_of_requires c κs = search rules

returns : tie.Need-returns-then-piece-eq0
unfolding cut_count
returns c = rw (eq-eqb _ _ c.if-piece-eq0.true)

piece_count_requires : tie.Need-piece_count-requires
piece_count_requires c κs =
    let s = c in
    (omega (arith, (asked s.args.g s.requires).deep, c.length_of-deep.ensures), omega (arith, c.if-piece-eq0.false))

returns_2 : tie.Need-returns
unfolding cut_count
returns_2 c =
    let s = c in
    rw (ne_eqb _ _ c.if-piece-eq0.false) (c.piece_count.ensures ∙ ap (λ (e : ℕ). count e s.args.g.piece) c.length_of-deep.ensures)

pub cut_count_spec : {M : Type 1} → statement M
cut_count_spec = tie.close (tie.spec length_of_requires returns piece_count_requires returns_2)
