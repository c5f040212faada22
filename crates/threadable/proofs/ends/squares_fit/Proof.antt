-- `threadable::ends::squares_fit` meets its contract.
use mathlib.Core.Path.{refl, sym, subst}
use Prim.Native.Nat.{ℕ, ◌-◌, ◌/◌, ◌<◌, ◌^◌}
use lib.Dec.{leb}
use borrow.Author.Rules.{rules}
use Rattle.reaching.proofs.Room.{Answers}
use Rattle.cuts.specs.Cuts.{Summed}
use Rattle.threadable.proofs.Sums.{none_added, fit_left}
use Rattle.threadable.proofs.ends.squares_fit.Statement.{statement}
use Rattle.threadable.proofs.ends.squares_fit.Tie as tie

-- asked at the function's entry, where `search` still reaches it
sum_held : (s : tie.Start) → s.args.f.sum < 2 ^ 64
sum_held s = search rules

returns : tie.Need-returns-then-f-eq0
returns c = let s = c in (λ _. none_added s.args.f (sum_held s.before.before) c.if-f-eq0.true, λ _. refl)

returns_2 : tie.Need-returns
returns_2 c =
    let e = c in
    let s = e in
    let f = s.args.f in
    subst (λ (n : ℕ). Answers (Summed f) (leb n ((18_446_744_073_709_551_615 - f.sum) / f.square))) (sym c.from.ensures)
    (fit_left f (sum_held s.before.before.before.before.before) e.if-f-eq0.false)

pub squares_fit_spec : {M : Type 1} → statement M
squares_fit_spec = tie.close (tie.spec returns (λ c. search rules) (λ c. search rules) (λ c. search rules) returns_2)
