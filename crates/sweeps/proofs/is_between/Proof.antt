-- `sweeps::is_between` meets its contract.
use borrow.Author.Rules.{rules}
use mathlib.Core.Path.{◌≡◌, sym, ap}
use Rattle.sweeps.specs.declared.Sweep.{Sweep}
use Rattle.sweeps.specs.Sweeps.{between}
use Rattle.sweeps.proofs.is_between.Statement.{statement}
use Rattle.sweeps.proofs.is_between.Tie as tie

-- where the sweep that was tested for goes into the contract
turned : (s : tie.Start) {w : Sweep} → s.args.s ≡ w → between w s.args.past s.args.before ≡ between s.args.s s.args.past s.args.before
turned s e = ap (λ (w : Sweep). between w s.args.past s.args.before) (sym e)

enum_told : tie.Need-enum_told-1
enum_told c = search rules

enum_told_2 : tie.Need-enum_told-in-Nothing
enum_told_2 c = search rules

enum_told_3 : tie.Need-enum_told-in-Short
enum_told_3 c = search rules

enum_told_4 : tie.Need-enum_told-in-Long
enum_told_4 c = search rules

returns : tie.Need-returns-in-Full
unfolding between
returns c = turned c.before c.in-Full.is

returns_2 : tie.Need-returns-in-Nothing
unfolding between
returns_2 c = turned c.before c.in-Nothing.is

returns_3 : tie.Need-returns-in-Short
unfolding between
returns_3 c = turned c.before c.in-Short.is

returns_4 : tie.Need-returns-in-Long
unfolding between
returns_4 c = turned c.before c.in-Long.is

pub is_between_spec : {M : Type 1} → statement M
is_between_spec =
    tie.close
    (tie.spec enum_told enum_told_2 enum_told_3 enum_told_4 returns returns_2 returns_3 returns_4)
