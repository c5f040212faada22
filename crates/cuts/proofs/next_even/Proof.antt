-- `cuts::next_even` meets its contract.
use mathlib.Core.Path.{ap}
use borrow.Author.Rules.{rules}
use Rattle.division.specs.Division.{sum}
use Rattle.cuts.proofs.Opened.{makes_even}
use Rattle.cuts.proofs.next_even.Statement.{statement}
use Rattle.cuts.proofs.next_even.Tie as tie

add_next : tie.Need-overflow_add-next
add_next c = let h = ap sum c.hand_out-handed.ensures in search rules

returns : tie.Need-returns
returns c =
    let h = c in
    let s = h in
    makes_even s.args.depth s.args.p h.hand_out-handed.result.rest h.hand_out-handed.result.piece s.requires.0 h.hand_out-handed.ensures

pub next_even_spec : {M : Type 1} → statement M
next_even_spec = tie.close (tie.spec (λ c κs. search rules) add_next returns)
