-- `addresses::lacks_point` meets its contract.
use mathlib.Core.Path.{◌≡◌, refl, sym, ap, ◌∙◌}
use mathlib.Core.Bool.{Bool, true, false, not, ◌&&◌, ◌||◌}
use Prim.Native.Nat.{ℕ}
use lib.Dec.{eqb}
use lib.IntN.{nat_abs}
use mir.Syntax.{w32}
use mir.Val.{to_z, of_z}
use borrow.Author.Rules.{rules}
use borrow.Author.Tests.{not-true, not-false}
use Rattle.letters.specs.Letters.{letter_u, letter_w, letter_x, letter_z}
use Rattle.addresses.specs.Words.{lacks_point}
use Rattle.addresses.specs.declared.Word.{Word}
use Rattle.addresses.proofs.lacks_point.Statement.{statement}
use Rattle.addresses.proofs.lacks_point.Tie as tie

last : (b : Bool) → b ≡ (b || false)
last true = refl
last false = refl

none : (b : Bool) → (b && false) ≡ false
none true = refl
none false = refl

-- the word's address is one of the four, as the code asks it
abbrev asked : Word → Bool
asked w = eqb w.address letter_x || (eqb w.address letter_z || (eqb w.address letter_u || eqb w.address letter_w))

by_asked : (w : Word) → lacks_point w ≡ (asked w && (not w.pointed && not (eqb (nat_abs w.value) 0)))
unfolding lacks_point
by_asked w i =
    (eqb w.address letter_x || (eqb w.address letter_z || (eqb w.address letter_u || sym (last (eqb w.address letter_w)) i))) && (not w.pointed && not (eqb (nat_abs w.value) 0))

-- a word with its point, one of another address, and one that is asked
with_point : (w : Word) → w.pointed ≡ true → false ≡ lacks_point w
with_point w e = sym (by_asked w ∙ ap (λ (p : Bool). asked w && (not p && not (eqb (nat_abs w.value) 0))) e ∙ none (asked w))

of_another : (w : Word) → asked w ≡ false → false ≡ lacks_point w
of_another w e = sym (by_asked w ∙ ap (λ (a : Bool). a && (not w.pointed && not (eqb (nat_abs w.value) 0))) e)

of_these : (w : Word) → w.pointed ≡ false → asked w ≡ true → not (eqb (nat_abs w.value) 0) ≡ lacks_point w
of_these w p a = sym (by_asked w ∙ (λ i. a i && (not (p i) && not (eqb (nat_abs w.value) 0))))

returns : tie.Need-returns-then-w
returns c = with_point c.args.w c.if-w.true

returns_2 : tie.Need-returns-then-not-asked
returns_2 c = of_another c.args.w c.if-not-asked.true

-- the word's number, as the machine reads it back from its bits
same_value : (c : tie.After-magnitude) → let w = c.args.w in to_z w32 (of_z w32 w.value) ≡ w.value
same_value c = search rules

returns_3 : tie.Need-returns
returns_3 c =
    let e = c in
    ap (λ (n : ℕ). not (eqb n 0)) (c.magnitude.ensures ∙ ap nat_abs (same_value c)) ∙ of_these e.args.w e.if-w.false e.if-not-asked.false

pub lacks_point_spec : {M : Type 1} → statement M
lacks_point_spec = tie.close (tie.spec returns returns_2 (λ c κs. search rules) returns_3)
