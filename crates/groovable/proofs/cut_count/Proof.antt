-- `groovable::cut_count` meets its contract.
use mathlib.Core.Path.{sym, ap, ◌∙◌}
use Prim.Native.Nat.{ℕ}
use Rattle.division.specs.Division.{count}
use Rattle.groovable.proofs.Fit.{one_cut, more_cuts, no_cuts}
use borrow.Author.Rules.{rules}
use Rattle.groovable.proofs.cut_count.Statement.{statement}
use Rattle.groovable.proofs.cut_count.Tie as tie

returns : tie.Need-returns-then-piece-eq0
returns c = sym (one_cut c.args.g c.if-piece-eq0.true)

returns_2 : tie.Need-returns-then-deep-eq0
returns_2 c =
    let o = c in
    sym (no_cuts o.args.g c.if-piece-eq0.false (sym o.length_of-deep.ensures ∙ c.if-deep-eq0.true))

returns_3 : tie.Need-returns
returns_3 c =
    let o = c in
    let g = o.args.g in
    c.piece_count.ensures ∙ ap (λ (e : ℕ). count e g.piece) o.length_of-deep.ensures ∙ sym (more_cuts g c.if-piece-eq0.false)

pub cut_count_spec : {M : Type 1} → statement M
cut_count_spec = tie.close (tie.spec (λ c κs. search rules) returns returns_2 (λ c κs. search rules) returns_3)
