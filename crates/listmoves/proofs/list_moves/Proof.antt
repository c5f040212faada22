-- `listmoves::list_moves` meets its contract.
use Prim.Native.Nat.{ℕ}
use lib.ListN.{length-replicate}
use Rattle.reading.specs.Filling.{most_places}
use borrow.Author.Rules.{rules}
use Rattle.listmoves.proofs.Listed.{listed}
use Rattle.listmoves.proofs.list_moves.Statement.{statement}
use Rattle.listmoves.proofs.list_moves.Tie as tie

returns : tie.Need-returns
returns c =
    let p = c in
    let i = p in
    let t = i in
    let b = t in
    let n = b in
    let s = n in
    listed s.args.tape.now n.no_offsets-table.ensures t.of_listmoves-set.ensures (length-replicate {A = ℕ} most_places 1) b.fresh_buffer-buf.ensures (i.interpret-answer.ensures.0, i.interpret-answer.ensures.1.1) s.args.out.now s.requires p.put_listing.ensures

pub list_moves_spec : {M : Type 1} → statement M
list_moves_spec =
    tie.close
    (tie.spec
    (λ c κs. search rules)
    (λ c κs. search rules)
    (λ c κs. search rules)
    (λ c. search rules)
    (λ c. search rules)
    (λ c. search rules)
    (λ c κs. search rules)
    (λ c. search rules)
    (λ c κs. search rules)
    (λ c. search rules)
    returns)
