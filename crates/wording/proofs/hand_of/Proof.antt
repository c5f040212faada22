-- `wording::hand_of` meets its contract.
use mathlib.Core.Path.{◌≡◌, refl, sym, ap, ◌∙◌}
use mathlib.Core.List.{List, [], ◌∷◌}
use native.Mathlib.Omega.{arith}
use lib.ListN.{length}
use borrow.Author.Rules.{rules}
use Rattle.moves.specs.Form.{stamped}
use Rattle.moves.specs.declared.Record.{Record}
use Rattle.moves.specs.declared.Origin.{Origin}
use Rattle.taking.specs.of_writing.Writes.{writes}
use Rattle.taking.specs.Hands.{in_hand}
use Rattle.wording.proofs.hand_of.Statement.{statement}
use Rattle.wording.proofs.hand_of.Tie as tie

-- a row of no records
none : (o : Origin) (v : List Record) → length v ≡ 0 → [] ≡ stamped o v
unfolding stamped
none o [] e = refl
none o (r ∷ v) e = absurd (omega (arith, e))

returns_2 : tie.Need-returns
unfolding in_hand
returns_2 c = (ap (stamped c.args.origin) c.open_block-cursor.ensures.0, c.open_block-cursor.ensures.1)

-- that there is no record is read off by `omega`, so that a condition that is another leaves it without a proof
pub hand_of_spec : {M : Type 1} → statement M
unfolding in_hand
hand_of_spec =
    tie.close
    (tie.spec
    (λ c.
    let zero : c.args.total ≡ 0 = omega arith in
    (none c.args.origin (writes c.args.s c.args.b c.args.d) (sym c.requires.2 ∙ zero), tt))
    (λ c κs. search rules)
    returns_2)
