-- `lawful::record_start` meets its contract.
use mathlib.Core.Path.{sym, ap}
use borrow.Author.Rules.{rules}
use Rattle.lawful.specs.Versions.{start_in}
use Rattle.lawful.specs.declared.Version.{Version}
use Rattle.lawful.proofs.record_start.Statement.{statement}
use Rattle.lawful.proofs.record_start.Tie as tie

returns : tie.Need-returns-in-One
returns c = ap (λ (v : Version). start_in v c.args.k) (sym c.in-One.is)

returns_2 : tie.Need-returns-in-Two
returns_2 c = ap (λ (v : Version). start_in v c.args.k) (sym c.in-Two.is)

pub record_start_spec : {M : Type 1} → statement M
record_start_spec =
    tie.close
    (tie.spec
    (λ c. search rules)
    (λ c. search rules)
    (λ c. search rules)
    (λ c. search rules)
    (λ c. search rules)
    (λ c. search rules)
    returns
    returns_2)
