-- `addresses::form_of` meets its contract.
-- A single letter is put in, and the answer computes; a range of the `match` is computed for its every byte.
use mathlib.Core.List.{[], ◌∷◌}
use mathlib.Core.Logic.{inl, inr, ⊎_elim}
use native.Mathlib.Omega.{arith}
use Rattle.letters.specs.Letters.{percent, letter_d, letter_f, letter_g, letter_i, letter_k, letter_l, letter_m, letter_p, letter_u, letter_z}
use Rattle.numbers.specs.declared.NumberForm.TheVariants.{Path, FourDigits}
use Rattle.addresses.specs.declared.Address.TheVariants.{Known, Unknown}
use Rattle.addresses.specs.Words.{form_of}
use Rattle.addresses.proofs.Wording.{form_in}
use Rattle.addresses.proofs.form_of.Statement.{statement}
use Rattle.addresses.proofs.form_of.Tie as tie

returns : tie.Need-returns-in-71
unfolding form_of
returns c = ⊎_elim (λ e. rw e) (λ e. rw e) c.in-71.is

returns_2 : tie.Need-returns-in-76
unfolding form_of
returns_2 c = rw c.in-76.is

returns_3 : tie.Need-returns-in-68
unfolding form_of
returns_3 c = rw c.in-68.is

-- below K: neither D, nor G, nor %, nor F, nor I
returns_4 : tie.Need-returns-in_default
unfolding form_of
returns_4 c =
    let r = c.in_default.in_default-own.rest in
    form_in Unknown (letter_d ∷ letter_g ∷ percent ∷ letter_f ∷ letter_i ∷ []) 0 75 c.args.address tt (omega arith) c.in_default.if-address-lt75-own.true
    (r.1, (λ e. r.0.0.0.1 (inl e), (λ e. r.0.0.1 (inl e), (λ e. r.0.0.1 (inr e), (λ e. r.0.0.0.0.1 (inl e), tt)))))

-- from P below S: not P
returns_5 : tie.Need-returns-in_default-2
unfolding form_of
returns_5 c =
    let r = c.in_default.in_default-own.rest in
    form_in Unknown (letter_p ∷ []) 80 3 _ tt c.in_default.if-address-lt80-own.false c.in_default.if-address-lt83-own.true (λ e. r.0.0.0.0.1 (inr (inr (inl e))), tt)

-- from U below W: not U
returns_6 : tie.Need-returns-in_default-3
unfolding form_of
returns_6 c =
    let r = c.in_default.in_default-own.rest in
    form_in Unknown (letter_u ∷ []) 85 2 _ tt c.in_default.if-address-lt85-own.false c.in_default.if-address-lt87-own.true (λ e. r.0.0.0.0.1 (inr (inr (inr (inl e)))), tt)

-- behind X: not Z
returns_7 : tie.Need-returns-in_default-4
unfolding form_of
returns_7 c =
    let a = c.args.address in
    let r = c.in_default.in_default-own.rest in
    form_in Unknown (letter_z ∷ []) 89 167 a tt c.in_default.if-address-lt89-own.false (omega arith) (λ e. r.0.0.0.0.1 (inr (inr (inr (inr e)))), tt)

returns_8 : tie.Need-returns-in-88
unfolding form_of
returns_8 c = ⊎_elim (λ e. rw e) (⊎_elim (λ e. rw e) (⊎_elim (λ e. rw e) (⊎_elim (λ e. rw e) (λ e. rw e)))) c.in-88.is

-- W and X
returns_9 : tie.Need-returns-in-88-2
unfolding form_of
returns_9 c = form_in (Known Path) [] 87 2 _ tt c.in-88.if-address-lt87-own.false c.in-88.if-address-lt89-own.true tt

returns_10 : tie.Need-returns-in-78
unfolding form_of
returns_10 c = ⊎_elim (λ e. rw e) (λ e. rw e) c.in-78.is

-- from K below P: neither K, nor L, nor M, so N or O
returns_11 : tie.Need-returns-in-78-2
unfolding form_of
returns_11 c =
    let r = c.in-78.in_default-own.rest in
    form_in (Known FourDigits) (letter_k ∷ letter_l ∷ letter_m ∷ []) 75 5 _ tt c.in-78.if-address-lt75-own.false c.in-78.if-address-lt80-own.true (λ e. r.0.0.0.0.1 (inr (inl e)), (r.0.1, (λ e. r.0.0.0.1 (inr e), tt)))

-- S and T
returns_12 : tie.Need-returns-in-78-3
unfolding form_of
returns_12 c = form_in (Known FourDigits) [] 83 2 _ tt c.in-78.if-address-lt83-own.false c.in-78.if-address-lt85-own.true tt

pub form_of_spec : {M : Type 1} → statement M
form_of_spec =
    tie.close
    (tie.spec
    returns
    returns_2
    returns_3
    returns_4
    returns_5
    returns_6
    returns_7
    returns_8
    returns_9
    returns_10
    returns_11
    returns_12)
