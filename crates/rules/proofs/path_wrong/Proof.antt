-- `rules::path_wrong` meets its contract.
use mathlib.Core.Path.{◌≡◌, sym, ap, ◌∙◌}
use mathlib.Core.Bool.{not}
use Rattle.stands.specs.declared.Path.{Path}
use Rattle.block.specs.declared.Block.{Block}
use Rattle.rules.specs.Rules.{path_wrong}
use Rattle.rules.proofs.Ruling.{both, either}
use borrow.Author.Rules.{rules}
use Rattle.rules.proofs.path_wrong.Statement.{statement}
use Rattle.rules.proofs.path_wrong.Tie as tie

-- what is asked of the path words, as it was tested for
by : {p q : Path} (b : Block) → p ≡ q → path_wrong q b ≡ path_wrong p b
by b e = ap (λ (p : Path). path_wrong p b) (sym e)

returns : tie.Need-returns-in-Any
unfolding path_wrong
returns c = by c.args.b c.in-Any.is

returns_2 : tie.Need-returns-in-Forbidden
unfolding path_wrong
returns_2 c =
    let z = c in
    let x = z in
    either (either x.has.ensures x.has-2.ensures) (either z.has-3.ensures z.has-4.ensures) ∙ by x.args.b c.in-Forbidden.is

returns_3 : tie.Need-returns-in-EachAxis
unfolding path_wrong
returns_3 c =
    let z = c in
    let x = z in
    ap not (both (either x.has.ensures x.has-2.ensures) (either z.has-3.ensures z.has-4.ensures)) ∙ by x.args.b c.in-EachAxis.is

returns_4 : tie.Need-returns-in-ZAlone
unfolding path_wrong
returns_4 c =
    let z = c in
    let x = z in
    either (either x.has.ensures x.has-2.ensures) (ap not (either z.has-3.ensures z.has-4.ensures)) ∙ by x.args.b c.in-ZAlone.is

pub path_wrong_spec : {M : Type 1} → statement M
path_wrong_spec =
    tie.close
    (tie.spec
    (λ c κs. search rules)
    (λ c κs. search rules)
    (λ c κs. search rules)
    (λ c κs. search rules)
    (λ c. search rules)
    (λ c. search rules)
    (λ c. search rules)
    (λ c. search rules)
    returns
    returns_2
    returns_3
    returns_4)
