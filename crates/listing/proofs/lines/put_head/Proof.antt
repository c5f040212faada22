-- `listing::lines::put_head` meets its contract.
use Prim.Native.Nat.{◌^◌, ◌<◌}
use native.Mathlib.Omega.{arith}
use borrow.Author.Rules.{rules}
use Rattle.listing.proofs.Made.{version_room, count_room, head_made}
use Rattle.listing.proofs.lines.put_head.Statement.{statement}
use Rattle.listing.proofs.lines.put_head.Tie as tie

-- the count fits its type
small : (c : tie.Start) → c.args.count < 2 ^ 64
small c = omega arith

put_number_requires : tie.Need-put_number-number-requires
put_number_requires c κs =
    let p = c in
    let s = p in
    version_room s.args.out.now s.args.count (small s.before.before.before.before.before.before.before.before) s.requires p.put_text-version.ensures

put_number_requires_2 : tie.Need-put_number-requires
put_number_requires_2 c κs =
    let q = c in
    let p = q in
    let s = p in
    count_room s.args.out.now s.args.count (small s.before.before.before.before.before.before.before.before.before.before.before.before) s.requires p.put_text-version.ensures q.put_number-number.ensures

returns : tie.Need-returns
returns c =
    let r = c in
    let q = r in
    let p = q in
    let s = p in
    head_made s.args.out.now s.args.count (small s.before.before.before.before.before.before.before.before.before.before.before.before.before.before.before) s.requires p.put_text-version.ensures q.put_number-number.ensures r.put_number.ensures

pub put_head_spec : {M : Type 1} → statement M
put_head_spec =
    tie.close
    (tie.spec
    (λ c κs. search rules)
    (λ c. search rules)
    put_number_requires
    put_number_requires_2
    (λ c. search rules)
    returns)
