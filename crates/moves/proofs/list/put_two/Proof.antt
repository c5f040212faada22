-- `moves::list::put_two` meets its contract.
use borrow.Author.Rules.{rules}
use mathlib.Core.Path.{refl}
use mathlib.Core.List.{[], ◌∷◌}
use Rattle.octets.proofs.Laying.{lent}
use Rattle.moves.specs.Form.{record_size, record_bytes, listed}
use Rattle.moves.proofs.Written.{none_written, one_written, all_written}
use Rattle.moves.proofs.list.put_two.Statement.{statement}
use Rattle.moves.proofs.list.put_two.Tie as tie

returns : tie.Need-returns
returns c =
    let p2 = c in
    let p1 = p2 in
    let s = p1 in
    let o = s.args.origin in
    let room = s.requires in
    let w1 = one_written room (none_written o s.args.part.now 0 (s.args.first ∷ s.args.second ∷ [])) s.args.first _ refl p1.put_record.ensures in
    let w2 = one_written room w1 s.args.second _ refl (lent _ record_size (record_bytes (listed o s.args.second)) p2.put_record-2.new.part p2.put_record-2.ensures) in
    all_written room w2 refl

pub put_two_spec : {M : Type 1} → statement M
put_two_spec =
    tie.close
    (tie.spec
    (λ c κs. search rules)
    (λ c. search rules)
    (λ c. search rules)
    (λ c. search rules)
    (λ c κs. search rules)
    (λ c. search rules)
    returns)
