-- `putting::put_cycle` meets its contract.
use borrow.Author.Rules.{rules}
use mathlib.Core.Path.{sym, ap, subst, ◌∙◌}
use Prim.Native.Nat.{◌+◌, ◌*◌, ◌≤◌}
use lib.ListN.{length}
use Rattle.moves.specs.Form.{record_size}
use Rattle.stages.specs.Cursor.{DueSound}
use Rattle.putting.specs.Cycles.{has_own_loop, cycle_row}
use Rattle.putting.proofs.Cycles.{told_laid, none_laid}
use Rattle.putting.proofs.put_cycle.Statement.{statement}
use Rattle.putting.proofs.put_cycle.Tie as tie

put_passes_requires : tie.Need-put_passes-requires
put_passes_requires c κs =
    let m = c in
    let s = m in
    let is = m.in-Turning.is in
    (subst DueSound is s.requires.0, sym (ap has_own_loop is) ∙ s.requires.1, subst (λ d. s.args.first + record_size * length (cycle_row d) ≤ length s.args.buf.now) is s.requires.2)

put_plunges_requires : tie.Need-put_plunges-requires
put_plunges_requires c κs =
    let m = c in
    let s = m in
    let is = m.in-Grooving.is in
    (subst DueSound is s.requires.0, sym (ap has_own_loop is) ∙ s.requires.1, subst (λ d. s.args.first + record_size * length (cycle_row d) ≤ length s.args.buf.now) is s.requires.2)

returns : tie.Need-returns-in-Turning
returns c =
    let p = c in
    let m = p in
    let a = m.args in
    told_laid a.origin a.buf.now a.first a.due m.in-Turning.is p.put_passes.ensures

returns_2 : tie.Need-returns-in-Grooving
returns_2 c =
    let p = c in
    let m = p in
    let a = m.args in
    told_laid a.origin a.buf.now a.first a.due m.in-Grooving.is p.put_plunges.ensures

returns_3 : tie.Need-returns-in-Threading
returns_3 c =
    let a = c.args in
    none_laid a.origin a.buf.now a.first a.due (ap cycle_row c.in-Threading.is)

returns_4 : tie.Need-returns-in-Drilling
returns_4 c =
    let a = c.args in
    none_laid a.origin a.buf.now a.first a.due (ap cycle_row c.in-Drilling.is)

returns_5 : tie.Need-returns-in-Single
returns_5 c =
    let a = c.args in
    none_laid a.origin a.buf.now a.first a.due (ap cycle_row c.in-Single.is)

pub put_cycle_spec : {M : Type 1} → statement M
put_cycle_spec =
    tie.close
    (tie.spec
    (λ c. search rules)
    put_passes_requires
    (λ c. search rules)
    put_plunges_requires
    (λ c. search rules)
    (λ c. search rules)
    (λ c. search rules)
    (λ c. search rules)
    returns
    (λ c. search rules)
    returns_2
    returns_3
    returns_4
    returns_5)
