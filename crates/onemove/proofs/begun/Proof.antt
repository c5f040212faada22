-- `onemove::begun` meets its contract.
use mathlib.Core.Path.{sym, ◌∙◌}
use borrow.Author.Rules.{rules}
use Rattle.panel.proofs.Rows.{all_there}
use Rattle.onemove.proofs.Starting.{begun_refused, begun_started}
use Rattle.onemove.proofs.begun.Statement.{statement}
use Rattle.onemove.proofs.begun.Tie as tie

returns : tie.Need-returns-then-unfit
returns c =
    let a = c.args in
    begun_refused a.tape.now a.table.now a.settings.now a.places.now (sym c.unfit.ensures ∙ c.if-unfit.true) c.refused.ensures

settings_of_requires : tie.Need-settings_of-set-requires
settings_of_requires c κs = all_there c.args.settings.now (sym c.unfit.ensures ∙ c.if-unfit.false)

returns_2 : tie.Need-returns
returns_2 c =
    let k = c in
    let a = c.args in
    let o = c in
    let e = o in
    begun_started a.tape.now a.table.now a.settings.now a.places.now (sym e.unfit.ensures ∙ e.if-unfit.false) o.settings_of-set.ensures k.start.ensures.0 k.start.ensures.1

pub begun_spec : {M : Type 1} → statement M
begun_spec = tie.close (tie.spec (λ c κs. search rules) (λ c κs. search rules) returns settings_of_requires (λ c κs. search rules) (λ c. search rules) returns_2)
