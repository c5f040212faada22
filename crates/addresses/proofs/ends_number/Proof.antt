-- `addresses::ends_number` meets its contract.
-- A range of the `match` is a test of its every byte, which is computed.
use mathlib.Core.Bool.{not}
use mathlib.Core.List.{[], ◌∷◌}
use mathlib.Core.Logic.{inl, inr, ⊎_elim}
use mathlib.Core.Path.{sym}
use native.Mathlib.Omega.{arith}
use Rattle.letters.specs.Letters.{space, percent, opening}
use Rattle.addresses.specs.Words.{ends_number}
use Rattle.addresses.proofs.Ranges.{within, within_but, T_true, T_false}
use Rattle.addresses.proofs.ends_number.Statement.{statement}
use Rattle.addresses.proofs.ends_number.Tie as tie

returns : tie.Need-returns-in-37
unfolding ends_number
returns c = ⊎_elim (λ e. rw e) (⊎_elim (λ e. rw e) (λ e. rw e)) c.in-37.is

returns_2 : tie.Need-returns-in-65-to-90
unfolding ends_number
returns_2 c = sym (T_true _ (within ends_number 65 26 _ tt c.in-65-to-90.if-b-lt65-own.false c.in-65-to-90.if-b-lt91-own.true))

returns_3 : tie.Need-returns-in-97-to-122
unfolding ends_number
returns_3 c = sym (T_true _ (within ends_number 97 26 _ tt c.in-97-to-122.if-b-lt97-own.false c.in-97-to-122.if-b-lt123-own.true))

returns_4 : tie.Need-returns-in_default
unfolding ends_number
returns_4 c =
    let b = c.args.b in
    let r = c.in_default.in_default-own.rest.1 in
    sym
    (T_false _
    (within_but (space ∷ percent ∷ opening ∷ []) (λ n. not (ends_number n)) 0 65 b tt (omega arith) c.in_default.if-b-lt65-own.true
    (λ e. r (inl e), (λ e. r (inr (inl e)), (λ e. r (inr (inr e)), tt)))))

returns_5 : tie.Need-returns-in_default-2
unfolding ends_number
returns_5 c = sym (T_false _ (within (λ n. not (ends_number n)) 91 6 _ tt c.in_default.if-b-lt91-own.false c.in_default.if-b-lt97-own.true))

returns_6 : tie.Need-returns-in_default-3
unfolding ends_number
returns_6 c = sym (T_false _ (within (λ n. not (ends_number n)) 123 133 _ tt c.in_default.if-b-lt123-own.false (omega arith)))

pub ends_number_spec : {M : Type 1} → statement M
ends_number_spec = tie.close (tie.spec returns returns_2 returns_3 returns_4 returns_5 returns_6)
