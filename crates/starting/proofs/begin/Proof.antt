-- `starting::begin` meets its contract.
use native.Mathlib.Omega.{arith}
use borrow.Author.Rules.{rules}
use lib.ListN.{length}
use Rattle.returning.proofs.Keeping.{within_fits}
use Rattle.starting.proofs.Begun.{begun_missing, begun_found}
use Rattle.starting.proofs.begin.Statement.{statement}
use Rattle.starting.proofs.begin.Tie as tie

returns : tie.Need-returns-in_default
returns c =
    let f = c in
    let s = f in
    let a = s.args in
    begun_missing a.tape.now a.set a.filled (f.find_program-found.ensures s.requires.1) c.in_default.is c.refused.ensures

entry_of_requires : tie.Need-entry_of-frame-requires
entry_of_requires c κs =
    let f = c in
    let a = f.args in
    omega (arith, c.within-line.ensures, within_fits (length a.tape.now) f.in-At.p)

returns_2 : tie.Need-returns
returns_2 c =
    let e = c in
    let w = e in
    let o = w in
    let f = o in
    let s = f in
    let a = s.args in
    begun_found a.tape.now a.set a.filled (f.find_program-found.ensures s.requires.1) o.in-At.p o.in-At.is w.within-line.ensures e.entry_of-frame.ensures c.start_of.ensures c.standing.ensures

pub begin_spec : {M : Type 1} → statement M
begin_spec =
    tie.close
    (tie.spec
    (λ c κs. search rules)
    (λ c. search rules)
    (λ c. search rules)
    (λ c κs. search rules)
    returns
    (λ c κs. search rules)
    entry_of_requires
    (λ c κs. search rules)
    (λ c κs. search rules)
    returns_2)
