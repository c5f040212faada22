-- `grooving::step_count` meets its contract.
use borrow.Author.Rules.{rules}
use mathlib.Core.Path.{sym, ap, ◌∙◌}
use Prim.Native.Nat.{ℕ, ◌-◌, ◌<◌}
use native.Mathlib.Omega.{arith}
use Rattle.division.specs.Division.{count}
use Rattle.grooving.specs.declared.Groove.{Groove}
use Rattle.grooving.specs.Grooving.{rest}
use Rattle.grooving.proofs.Asked.{asked}
use Rattle.grooving.proofs.Rows.{no_steps, step_count_is}
use Rattle.grooving.proofs.step_count.Statement.{statement}
use Rattle.grooving.proofs.step_count.Tie as tie

sub_rest : tie.Need-overflow_sub-rest
sub_rest c =
    let s = c in
    omega (arith, (asked s.args.g s.requires).wide, c.length_of.ensures)

returns : tie.Need-returns-then-rest-eq0
returns c =
    let s = c in
    sym (no_steps s.args.g (omega (arith, c.if-rest-eq0.true, c.length_of.ensures))).0

-- where something is left the tool is wider than the overlap
record Left (g : Groove) : Type 0 where
  some : 0 < rest g
  thick : g.overlap < g.tool

left : (c : tie.After-struct_known-2-1) → Left c.args.g
left c =
    let s = c in
    let a = asked s.args.g s.requires in
    let h : 0 < rest s.args.g = omega (arith, c.if-rest-eq0.false, c.length_of.ensures) in
    record { some = h; thick = a.thick (omega arith) }

sub_piece_count : tie.Need-overflow_sub-g
sub_piece_count c = omega (arith, left c)

piece_count_requires : tie.Need-piece_count-requires
piece_count_requires c κs = (omega (arith, left c, c.length_of.ensures), omega (arith, left c))

returns_2 : tie.Need-returns
returns_2 c =
    let g = c.args.g in
    c.piece_count.ensures
    ∙ ap (λ (w : ℕ). count (w - g.tool) (g.tool - g.overlap)) c.length_of.ensures
    ∙ sym (step_count_is g (left c.before).some)

pub step_count_spec : {M : Type 1} → statement M
step_count_spec =
    tie.close
    (tie.spec (λ c κs. search rules) sub_rest returns sub_piece_count piece_count_requires returns_2)
