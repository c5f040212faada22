-- What is written is the front of the buffer, as long as the listing: the listing.
use Rattle.std.proofs.Common.{◌≡◌, ◌∙◌, ap, subst, length, OnOk, ℕ, List, take, drop, ◌+◌}
use Rattle.std.proofs.Math.Seq.{take-append_seam}
use Rattle.std.specs.Io.KnownBytes.{Appends}
use Rattle.octets.specs.Bytes.{laid}
use Rattle.listmoves.specs.Printed.{printed}
use Rattle.listmoves.proofs.write_moves.Goals as goal

front_of : (b w : List ℕ) → take (length w) (laid b 0 w) ≡ w
unfolding laid
front_of b w = take-append_seam w (drop (0 + length w) b)

pub returns : goal.returns
returns g c =
    let made = c.list_moves-k.ensures in
    let w = printed c.args.tape.now in
    let front = (λ i. take (made.result i) (made.text i)) ∙ front_of c.text_buffer-text.result w in
    subst (λ bytes. OnOk c.write_all.result (Appends (g.W.Write.contents c.args.out.now) (g.W.Write.contents c.write_all.new.self) bytes)) front c.write_all.ensures.bytes
