-- `moves::list::put_header` meets its contract.
use borrow.Author.Rules.{rules}
use mathlib.Core.Path.{◌∙◌}
use mathlib.Core.List.{[], ◌∷◌}
use lib.ListN.{get_or}
use Rattle.octets.specs.Bytes.{little_endian, laid}
use Rattle.moves.proofs.Writing.{header_laid}
use Rattle.moves.proofs.list.put_header.Statement.{statement}
use Rattle.moves.proofs.list.put_header.Tie as tie

returns : tie.Need-returns
returns c =
    let p2 = c in
    let p1 = p2 in
    let n = p1 in
    let v = n in
    let s = v in
    p2.put_four-2.ensures
    ∙ (λ i. laid (p1.put_four.ensures i) 4 (get_or (v.bytes_of_u16-version.ensures i) 1 0 ∷ get_or (n.bytes_of_u16-records.ensures i) 0 0 ∷ get_or (n.bytes_of_u16-records.ensures i) 1 0 ∷ 0 ∷ []))
    ∙ (λ i. laid (laid s.args.buf.now 0 (84 ∷ 77 ∷ 86 ∷ get_or (v.bytes_of_u16-version.ensures i) 0 0 ∷ [])) 4
    (0 ∷ get_or (little_endian 2 s.args.count) 0 0 ∷ get_or (little_endian 2 s.args.count) 1 0 ∷ 0 ∷ []))
    ∙ header_laid s.args.buf.now s.args.count s.requires

pub put_header_spec : {M : Type 1} → statement M
put_header_spec =
    tie.close
    (tie.spec
    (λ c κs. search rules)
    (λ c κs. search rules)
    (λ c. search rules)
    (λ c. search rules)
    (λ c. search rules)
    (λ c. search rules)
    (λ c κs. search rules)
    (λ c. search rules)
    (λ c. search rules)
    (λ c. search rules)
    (λ c. search rules)
    (λ c κs. search rules)
    (λ c. search rules)
    returns)
