-- `addresses::index_of` meets its contract.
-- Each test of the code is a test of `index_of`, in the same order.
use mathlib.Core.Path.{◌≡◌, refl, sym}
use mathlib.Core.Bool.{Bool, true, false, not, ◌&&◌, ◌||◌}
use Prim.Native.Nat.{ℕ}
use native.Mathlib.Omega.{arith}
use lib.Dec.{eqb}
use borrow.Author.Rules.{rules}
use borrow.Author.Tests.{eq-eqb, ne_eqb, lt-ltb, le-ltb, le-leb, lt-leb}
use Rattle.letters.specs.Letters.{letter_d, letter_p}
use Rattle.addresses.proofs.index_of.Statement.{statement}
use Rattle.addresses.proofs.index_of.Tie as tie

-- an address that is neither P nor D is not one of them
neither : (a : ℕ) → (not (eqb a letter_p) && not (eqb a letter_d)) ≡ true → (eqb a letter_p || eqb a letter_d) ≡ false
neither a = go (eqb a letter_p) (eqb a letter_d)
  where
    go : (p d : Bool) → (not p && not d) ≡ true → (p || d) ≡ false
    go true d e = sym e
    go false true e = sym e
    go false false e = refl

either : (a : ℕ) → (not (eqb a letter_p) && not (eqb a letter_d)) ≡ false → (eqb a letter_p || eqb a letter_d) ≡ true
either a = go (eqb a letter_p) (eqb a letter_d)
  where
    go : (p d : Bool) → (not p && not d) ≡ false → (p || d) ≡ true
    go true d e = refl
    go false true e = refl
    go false false e = sym e

returns : tie.Need-returns-then-address
returns c = (rw (neither c.args.address c.if-address.true), c.requires.0)

returns_2 : tie.Need-returns-then-end-from-lt2
returns_2 c = (rw (either c.args.address c.if-address.false, lt-ltb _ _ c.if-end-from-lt2.true), tt)

returns_3 : tie.Need-returns-then-digit-lt48
returns_3 c = (rw (either c.args.address c.if-address.false, le-ltb _ _ c.if-end-from-lt2.false, lt-leb _ _ c.if-digit-lt48.true), tt)

returns_4 : tie.Need-returns-then-digit-gt57
returns_4 c = (rw (either c.args.address c.if-address.false, le-ltb _ _ c.if-end-from-lt2.false, le-leb _ _ c.if-digit-lt48.false, lt-leb _ _ c.if-digit-gt57.true), tt)

returns_5 : tie.Need-returns-then-line-from-ne61
returns_5 c =
    let o = c in
    let t = o in
    (rw (either t.args.address t.if-address.false, le-ltb _ _ t.if-end-from-lt2.false, le-leb _ _ o.if-digit-lt48.false, le-leb _ _ o.if-digit-gt57.false, ne_eqb _ _ c.if-line-from-ne61.true), tt)

returns_6 : tie.Need-returns
returns_6 c =
    let o = c in
    let t = o in
    (rw (either t.args.address t.if-address.false, le-ltb _ _ t.if-end-from-lt2.false, le-leb _ _ o.if-digit-lt48.false, le-leb _ _ o.if-digit-gt57.false, eq-eqb _ _ c.if-line-from-ne61.false), omega (arith, t.if-end-from-lt2.false))

pub index_of_spec : {M : Type 1} → statement M
index_of_spec =
    tie.close
    (tie.spec
    returns
    (λ c. search rules)
    returns_2
    (λ c. search rules)
    returns_3
    returns_4
    (λ c. search rules)
    (λ c. search rules)
    returns_5
    (λ c. search rules)
    returns_6)
