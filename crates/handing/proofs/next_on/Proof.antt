-- `handing::next_on` meets its contract.
use mathlib.Core.Path.{sym, ap, subst, ◌∙◌}
use borrow.Author.Rules.{rules}
use Rattle.stages.specs.Cursor.{cycle_over, DueSound}
use Rattle.handing.proofs.Cursors.{single_next, turning_next, threading_next, grooving_next, drilling_next}
use Rattle.handing.proofs.next_on.Statement.{statement}
use Rattle.handing.proofs.next_on.Tie as tie

after_requires : tie.Need-after-requires
after_requires c κs = c.requires.0.plan

returns_5 : tie.Need-returns-in-Single
returns_5 c =
    let g = c in
    let m = g in
    let s = m in
    single_next s.args.p m.in-Single.is s.requires.0 s.requires.1 g.single.ensures c.after.ensures

pub next_on_spec : {M : Type 1} → statement M
next_on_spec =
    tie.close
    (tie.spec
    (λ c. search rules)
    (λ c κs. let m = c in let h = m.requires in (subst DueSound m.in-Turning.is h.0.due, ap cycle_over (sym m.in-Turning.is) ∙ h.2))
    (λ c. search rules)
    (λ c κs. let m = c in let h = m.requires in (subst DueSound m.in-Threading.is h.0.due, ap cycle_over (sym m.in-Threading.is) ∙ h.2))
    (λ c. search rules)
    (λ c κs. let m = c in let h = m.requires in (subst DueSound m.in-Grooving.is h.0.due, ap cycle_over (sym m.in-Grooving.is) ∙ h.2))
    (λ c. search rules)
    (λ c κs. let m = c in let h = m.requires in (subst DueSound m.in-Drilling.is h.0.due, ap cycle_over (sym m.in-Drilling.is) ∙ h.2))
    (λ c. search rules)
    (λ c κs. search rules)
    after_requires
    (λ c. let n = c in let m = n in turning_next m.args.p m.requires.0 m.in-Turning.is n.next-handed.ensures)
    (λ c. let n = c in let m = n in threading_next m.args.p m.requires.0 m.in-Threading.is n.next-handed-in-Threading.ensures)
    (λ c. let n = c in let m = n in grooving_next m.args.p m.requires.0 m.in-Grooving.is n.next-handed-in-Grooving.ensures)
    (λ c. let n = c in let m = n in drilling_next m.args.p m.requires.0 m.in-Drilling.is n.next-handed-in-Drilling.ensures)
    returns_5)
