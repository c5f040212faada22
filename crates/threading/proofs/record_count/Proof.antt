-- `threading::record_count` meets its contract.
use mathlib.Core.Path.{sym, ap, ◌∙◌}
use Prim.Native.Nat.{ℕ, ◌+◌, ◌*◌}
use borrow.Author.Rules.{rules}
use Rattle.threading.specs.Threading.{record_count}
use Rattle.threading.proofs.Asked.{right}
use Rattle.threading.proofs.Counts.{threading_length}
use Rattle.threading.proofs.record_count.Statement.{statement}
use Rattle.threading.proofs.record_count.Tie as tie

returns : tie.Need-returns
unfolding record_count
returns c =
    let s = c in
    ap (λ (n : ℕ). 4 * (n + s.args.t.empty)) c.cut_count-n.ensures ∙ sym (threading_length s.args.t s.requires.1)

pub record_count_spec : {M : Type 1} → statement M
record_count_spec =
    tie.close
    (tie.spec
    (λ c κs. ((right c.args.t c.requires.1).proper, c.requires.0.d3, c.requires.0.d6))
    (λ c. search rules)
    (λ c. search rules)
    (λ c. search rules)
    (λ c. search rules)
    returns)
