-- `rules::breaks_rules` meets its contract.
use Rattle.rules.specs.Rules.{broken, unknown_number, late_n}
use mathlib.Core.Path.{refl}
use mathlib.Core.Bool.{◌||◌}
use Rattle.rules.proofs.Ruling.{either}
use borrow.Author.Rules.{rules}
use Rattle.rules.proofs.breaks_rules.Statement.{statement}
use Rattle.rules.proofs.breaks_rules.Tie as tie

returns : tie.Need-returns
unfolding broken unknown_number late_n
returns c =
    let m = c in
    let b = m.args.b in
    let labels = either m.l_word_wrong.ensures m.more_than_l.ensures in
    either {t = b.unknown || b.late} refl (either m.axis_twice-axes.ensures (either labels c.motion_wrong.ensures))

pub breaks_rules_spec : {M : Type 1} → statement M
breaks_rules_spec =
    tie.close
    (tie.spec
    (λ c κs. search rules)
    (λ c κs. search rules)
    (λ c κs. search rules)
    (λ c κs. search rules)
    returns)
