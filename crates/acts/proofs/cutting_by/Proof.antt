-- `acts::cutting_by` meets its contract.
use mathlib.Core.Path.{◌≡◌, sym, ap, ◌∙◌}
use Rattle.codes.specs.declared.Code.{Code}
use mathlib.Core.Bool.{Bool}
use Rattle.acts.specs.Acting.{cutting_by}
use Rattle.codes.proofs.Tables.{code_is}
use Rattle.acts.proofs.Saying.{no_cutting}
use borrow.Author.Rules.{rules}
use Rattle.acts.proofs.cutting_by.Statement.{statement}
use Rattle.acts.proofs.cutting_by.Tie as tie

-- a code that was tested for
by : {k l : Code} (before : Bool) → k ≡ l → cutting_by l before ≡ cutting_by k before
by before e = ap (λ (k : Code). cutting_by k before) (sym e)

enum_known_code : tie.Need-enum_known-code
enum_known_code c = search rules

enum_known_meaning : tie.Need-enum_known-meaning
enum_known_meaning c = search rules

enum_told : tie.Need-enum_told-1
enum_told c = search rules

returns : tie.Need-returns-in-CuttingSpeed
unfolding cutting_by
returns c =
    let m = c in
    let k = m in
    by k.args.before (code_is k.in-Of.is m.in-CuttingSpeed.is)

returns_2 : tie.Need-returns-in_default
returns_2 c =
    let k = c in
    let before = k.args.before in
    no_cutting _ _ before c.in_default.in_default-own.keys2 ∙ by before k.in-Of.is

returns_3 : tie.Need-returns-in-Unknown
unfolding cutting_by
returns_3 c = by c.args.before c.in-Unknown.is

pub cutting_by_spec : {M : Type 1} → statement M
cutting_by_spec =
    tie.close (tie.spec enum_known_code enum_known_meaning enum_told returns returns_2 returns_3)
