-- `decimal::put_signed` meets its contract.
use mathlib.Core.Path.{◌≡◌, ap, ◌∙◌}
use mathlib.Core.Bool.{true, false}
use lib.IntN.{pos, nat_abs}
use lib.Signed.{lt_z}
use mir.Facts.{to_z-of_z}
use borrow.Author.Rules.{rules}
use Rattle.decimal.proofs.Numbers.{sign_room, size_room, below_wrote, plain_room, above_wrote}
use Rattle.decimal.proofs.put_signed.Statement.{statement}
use Rattle.decimal.proofs.put_signed.Tie as tie

-- how far the number is from zero, and on which side it lies
size : (c : tie.After-magnitude-size) → c.magnitude-size.result ≡ nat_abs c.args.n
size c = c.magnitude-size.ensures ∙ ap nat_abs (to_z-of_z c.ranges.n)

below : (c : tie.Then-n-lt0) → lt_z c.args.n (pos 0) ≡ true
below c = cc (to_z-of_z c.ranges.n)

above : (c : tie.Else-n-lt0) → lt_z c.args.n (pos 0) ≡ false
above c = cc (to_z-of_z c.ranges.n)

put_byte_requires : tie.Need-put_byte-next-requires
put_byte_requires c κs = let i = c in let s = i in sign_room s.args.out.now s.args.at s.args.n _ s.args.behind (size i.before.before) s.requires (below i.before)

put_number_requires : tie.Need-put_number-requires
put_number_requires c κs =
    let p = c in
    let i = p in
    let s = i in
    size_room s.args.out.now s.args.at s.args.n _ s.args.behind (size i.before.before.before.before.before.before) s.requires (below i.before.before.before.before.before) p.put_byte-next.ensures

returns : tie.Need-returns-then-n-lt0
returns c =
    let q = c in
    let p = q in
    let i = p in
    let s = i in
    below_wrote s.args.out.now s.args.at s.args.n _ s.args.behind (size i.before.before.before.before.before.before.before.before.before) s.requires (below i.before.before.before.before.before.before.before.before) p.put_byte-next.ensures q.put_number.ensures

put_number_requires_2 : tie.Need-put_number-requires-2
put_number_requires_2 c κs = let i = c in let s = i in plain_room s.args.out.now s.args.at s.args.n _ s.args.behind (size i.before.before) s.requires (above i.before)

returns_2 : tie.Need-returns
returns_2 c =
    let q = c in
    let i = q in
    let s = i in
    above_wrote s.args.out.now s.args.at s.args.n _ s.args.behind (size i.before.before.before.before.before) s.requires (above i.before.before.before.before) q.put_number-2.ensures

pub put_signed_spec : {M : Type 1} → statement M
put_signed_spec =
    tie.close
    (tie.spec
    (λ c κs. search rules)
    (λ c. search rules)
    put_byte_requires
    put_number_requires
    (λ c. search rules)
    returns
    put_number_requires_2
    (λ c. search rules)
    returns_2)
