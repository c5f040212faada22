-- `jumping::is_front` meets its contract.
use mathlib.Core.Bool.{◌&&◌}
use lib.Dec.{eqb}
use lib.ListN.{get_or}
use borrow.Author.Rules.{rules}
use Rattle.letters.specs.Letters.{space, letter_g, letter_l}
use Rattle.jumping.specs.Jumping.{is_front}
use Rattle.jumping.proofs.Texts.{too_short, another, the_same}
use Rattle.jumping.proofs.is_front.Statement.{statement}
use Rattle.jumping.proofs.is_front.Tie as tie

returns : tie.Need-returns-then-text-lt-FRONT
returns c = too_short c.args.text.now c.if-text-lt-FRONT.true

returns_2 : tie.Need-returns-then-text
unfolding is_front
returns_2 c =
    let t = c.args.text.now in
    another (eqb (get_or t 2 0) 50) (eqb (get_or t 3 0) 55) ((eqb (get_or t 0 0) space && eqb (get_or t 1 0) letter_g) && (eqb (get_or t 4 0) space && eqb (get_or t 5 0) letter_l)) c.if-text.true

returns_3 : tie.Need-returns
unfolding is_front
returns_3 c =
    let e = c in
    let t = e.args.text.now in
    the_same (eqb (get_or t 2 0) 50) (eqb (get_or t 3 0) 55) ((eqb (get_or t 0 0) space && eqb (get_or t 1 0) letter_g) && (eqb (get_or t 4 0) space && eqb (get_or t 5 0) letter_l)) e.if-text.false

pub is_front_spec : {M : Type 1} → statement M
is_front_spec =
    tie.close
    (tie.spec
    returns
    (λ c. search rules)
    (λ c. search rules)
    returns_2
    (λ c. search rules)
    (λ c. search rules)
    (λ c. search rules)
    (λ c. search rules)
    returns_3)
