-- `threadable::ends::sum_fits` meets its contract.
use mathlib.Core.Path.{sym, subst}
use Prim.Native.Nat.{ℕ, ◌-◌, ◌^◌}
use lib.Dec.{ltb}
use borrow.Author.Rules.{rules}
use Rattle.reaching.proofs.Room.{Answers}
use Rattle.cuts.specs.declared.Cuts.TheVariants.{Even}
use Rattle.cuts.specs.Cuts.{Sound}
use Rattle.threadable.proofs.Sums.{even_adds, by_number_adds, answer_of_lem}
use Rattle.threadable.proofs.ends.sum_fits.Statement.{statement}
use Rattle.threadable.proofs.ends.sum_fits.Tie as tie

returns : tie.Need-returns-in-Even
returns c =
    let m = c in
    let s = m in
    let x = s.args.depth in
    answer_of_lem x m.in-Even.is
    (subst (λ (n : ℕ). Answers (Sound x (Even m.in-Even.p)) (ltb c.total.result (2 ^ 32 - n))) (sym c.from.ensures) (even_adds x m.in-Even.p (search rules) c.total.ensures))

returns_2 : tie.Need-returns-in-ByDepth
returns_2 c = let m = c in let s = m in answer_of_lem s.args.depth m.in-ByDepth.is c.squares_fit.ensures

returns_3 : tie.Need-returns-in-ByNumber
returns_3 c =
    let m = c in
    let s = m in
    answer_of_lem s.args.depth m.in-ByNumber.is (by_number_adds s.args.depth m.in-ByNumber.f c.squares_fit-in-ByNumber.ensures)

pub sum_fits_spec : {M : Type 1} → statement M
sum_fits_spec =
    tie.close
    (tie.spec
    (λ c. search rules)
    (λ c κs. search rules)
    (λ c κs. search rules)
    (λ c. search rules)
    (λ c. search rules)
    (λ c κs. search rules)
    (λ c. search rules)
    (λ c κs. search rules)
    returns
    returns_2
    returns_3)
