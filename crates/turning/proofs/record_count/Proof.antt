-- `turning::record_count` meets its contract.
use borrow.Author.Rules.{rules}
use Prim.Native.Nat.{ℕ, ◌*◌}
use mathlib.Core.Path.{sym, ap, ◌∙◌}
use native.Mathlib.Omega.{arith}
use Rattle.turning.specs.Turning.{pass_count, record_count}
use Rattle.turning.proofs.Asked.{long_enough}
use Rattle.turning.proofs.Counts.{turning_length}
use Rattle.turning.proofs.record_count.Statement.{statement}
use Rattle.turning.proofs.record_count.Tie as tie

returns : tie.Need-returns
unfolding record_count
returns c =
    let s = c in
    ap (λ (n : ℕ). 4 * n) (c.pass_count-n.ensures ∙ ap (λ (e : ℕ). pass_count e s.args.c.division) c.net_of-e.ensures)
    ∙ sym (turning_length s.args.c (long_enough s.args.c s.requires).0)

pub record_count_spec : {M : Type 1} → statement M
record_count_spec =
    tie.close
    (tie.spec
    (λ c κs. search rules)
    (λ c κs. let s = c in omega (arith, c.net_of-e.ensures, (long_enough s.args.c s.requires).0))
    (λ c. search rules)
    (λ c. search rules)
    returns)
