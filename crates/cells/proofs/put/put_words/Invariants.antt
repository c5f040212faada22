-- The first i words are laid.
use Rattle.std.proofs.Common.{◌≡◌, length, take}
use Rattle.octets.specs.Bytes.{laid}
use Rattle.cells.proofs.put.put_words.Given as goal

abbrev pub invariant-loop-i : goal.invariant-loop-i
invariant-loop-i l = (l.w ≡ laid l.fn.w l.at (take l.i l.words)) × (length l.w ≡ length l.fn.w)
