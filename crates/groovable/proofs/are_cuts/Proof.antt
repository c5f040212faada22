-- `groovable::are_cuts` meets its contract.
use mathlib.Core.Path.{sym, ◌∙◌}
use Prim.Native.Nat.{◌<◌}
use native.Mathlib.Omega.{arith}
use borrow.Author.Rules.{rules}
use Rattle.telling.proofs.Tells.{tells_no, tells_same}
use Rattle.groovable.proofs.Fit.{cuts_are, cuts_many, cuts_make}
use Rattle.groovable.proofs.are_cuts.Statement.{statement}
use Rattle.groovable.proofs.are_cuts.Tie as tie

returns : tie.Need-returns-then-p-eq0
returns c = tells_no (λ h. omega (arith, h.0, c.if-p-eq0.true))

returns_2 : tie.Need-returns-then-p-n
returns_2 c =
    let o = c in
    let a = o.args in
    tells_no (λ h. c.if-p-n.true (cuts_many a.g a.p h.0 h.1 ∙ sym o.cut_count-n.ensures))

returns_3 : tie.Need-returns
returns_3 c =
    let many = c in
    let some = many in
    let o = some in
    let a = o.args in
    let long = o.length_of-deep in
    let left : 0 < a.p.left = omega (arith, some.if-p-eq0.false) in
    tells_same c.total.result long.result
    (λ e. (left, cuts_are a.g a.p left (many.if-p-n.false ∙ o.cut_count-n.ensures) (sym c.total.ensures ∙ e ∙ long.ensures)))
    (λ h. c.total.ensures ∙ cuts_make a.g a.p h.0 h.1 ∙ sym long.ensures)

pub are_cuts_spec : {M : Type 1} → statement M
are_cuts_spec =
    tie.close
    (tie.spec (λ c κs. search rules) (λ c κs. search rules) returns returns_2 (λ c κs. search rules) (λ c. search rules) returns_3)
