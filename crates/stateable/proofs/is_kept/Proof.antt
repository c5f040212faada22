-- `stateable::is_kept` meets its contract.
use mathlib.Core.Path.{◌≡◌, sym, ◌∙◌}
use borrow.Author.Rules.{rules}
use Rattle.telling.proofs.Tells.{tells_no, tells_yes, tells_of}
use Rattle.acts.specs.declared.Kept.{Kept}
use Rattle.acts.specs.declared.Kept.TheVariants.{Nothing}
use Rattle.acts.specs.Acting.{keep}
use Rattle.stateable.proofs.Fit.{none_kept, not_kept, kept}
use Rattle.stateable.proofs.is_kept.Statement.{statement}
use Rattle.stateable.proofs.is_kept.Tie as tie

abbrev about : Kept → Type 0
about m = keep m Nothing ≡ m

returns : tie.Need-returns-in-Nothing
returns c = tells_of about {a = c.args.motion} (search rules) (tells_yes none_kept)

returns_2 : tie.Need-returns-in-Nothing-behind
returns_2 c =
    let of = c in
    tells_no (not_kept of.in-Of.is (sym of.keep_of-behind.ensures ∙ c.in-Nothing-behind.is))

returns_3 : tie.Need-returns-in-Of-behind
returns_3 c =
    let of = c in
    tells_yes (kept of.in-Of.is (sym of.keep_of-behind.ensures ∙ c.in-Of-behind.is))

pub is_kept_spec : {M : Type 1} → statement M
is_kept_spec =
    tie.close
    (tie.spec
    (λ c κs. search rules)
    (λ c. search rules)
    (λ c. search rules)
    (λ c. search rules)
    (λ c. search rules)
    returns
    returns_2
    returns_3)
