-- `acts::keep_of` meets its contract.
use mathlib.Core.Path.{ap, ◌∙◌}
use Rattle.acts.specs.declared.Kept.TheVariants.{Of}
use Rattle.acts.specs.Acting.{keep}
use Rattle.acts.proofs.Saying.{keep_by, kept_is}
use borrow.Author.Rules.{rules}
use Rattle.acts.proofs.keep_of.Statement.{statement}
use Rattle.acts.proofs.keep_of.Tie as tie

returns : tie.Need-returns-in-Nothing
unfolding keep
returns c = keep_by c.args.before c.in-Nothing.is

returns_2 : tie.Need-returns-in-Rapid
unfolding keep
returns_2 c =
    let s = c in
    ap Of c.in-Rapid.is ∙ keep_by s.args.before (kept_is s.in-Of.is c.in-Rapid.is)

returns_3 : tie.Need-returns-in-Feed
unfolding keep
returns_3 c =
    let s = c in
    ap Of c.in-Feed.is ∙ keep_by s.args.before (kept_is s.in-Of.is c.in-Feed.is)

returns_4 : tie.Need-returns-in-Clockwise
unfolding keep
returns_4 c =
    let s = c in
    ap Of c.in-Clockwise.is ∙ keep_by s.args.before (kept_is s.in-Of.is c.in-Clockwise.is)

returns_5 : tie.Need-returns-in-Counterclockwise
unfolding keep
returns_5 c =
    let s = c in
    ap Of c.in-Counterclockwise.is ∙ keep_by s.args.before (kept_is s.in-Of.is c.in-Counterclockwise.is)

returns_6 : tie.Need-returns-in-Thread
unfolding keep
returns_6 c =
    let s = c in
    ap Of c.in-Thread.is ∙ keep_by s.args.before (kept_is s.in-Of.is c.in-Thread.is)

returns_7 : tie.Need-returns-in-Dwell
unfolding keep
returns_7 c =
    let s = c in
    keep_by s.args.before (kept_is s.in-Of.is c.in-Dwell.is)

returns_8 : tie.Need-returns-in-Turning
unfolding keep
returns_8 c =
    let s = c in
    keep_by s.args.before (kept_is s.in-Of.is c.in-Turning.is)

returns_9 : tie.Need-returns-in-Threading
unfolding keep
returns_9 c =
    let s = c in
    keep_by s.args.before (kept_is s.in-Of.is c.in-Threading.is)

returns_10 : tie.Need-returns-in-Grooving
unfolding keep
returns_10 c =
    let s = c in
    keep_by s.args.before (kept_is s.in-Of.is c.in-Grooving.is)

returns_11 : tie.Need-returns-in-ChipBreaking
unfolding keep
returns_11 c =
    let s = c in
    keep_by s.args.before (kept_is s.in-Of.is c.in-ChipBreaking.is)

returns_12 : tie.Need-returns-in-Redrawing
unfolding keep
returns_12 c =
    let s = c in
    keep_by s.args.before (kept_is s.in-Of.is c.in-Redrawing.is)

pub keep_of_spec : {M : Type 1} → statement M
keep_of_spec =
    tie.close
    (tie.spec
    (λ c. search rules)
    (λ c. search rules)
    (λ c. search rules)
    (λ c. search rules)
    (λ c. search rules)
    (λ c. search rules)
    (λ c. search rules)
    (λ c. search rules)
    (λ c. search rules)
    (λ c. search rules)
    (λ c. search rules)
    (λ c. search rules)
    (λ c. search rules)
    returns
    returns_2
    returns_3
    returns_4
    returns_5
    returns_6
    returns_7
    returns_8
    returns_9
    returns_10
    returns_11
    returns_12)
