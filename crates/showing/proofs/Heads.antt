-- The number that a judged line begins with has at most four digits.
-- Assumes nothing.
use mathlib.Core.Bool.{Bool, true, false, cond}
use mathlib.Core.List.{List}
use Prim.Native.Nat.{ℕ}
use lib.Dec.{ltb}
use lib.ListN.{length}
use Rattle.addresses.specs.Words.{next_word}
use Rattle.addresses.proofs.Within.{word_within}
use Rattle.block.specs.Words.{longest_line, line_by, line_of}
use Rattle.block.proofs.Heads.{HeadIn, line_small}
use Rattle.showing.specs.declared.Judged.{Judged}
use Rattle.showing.specs.Showing.{judged}

either : (t : Bool) (x y : Judged) → HeadIn x.head → HeadIn y.head → HeadIn (cond t x y).head
either true x y f g = f
either false x y f g = g

pub judged_in : (s : List ℕ) → HeadIn (judged s).head
unfolding judged line_of
judged_in s = either (ltb longest_line (length s)) _ _ tt (either (line_by s (next_word s 0)).faulty _ _ tt (line_small s (next_word s 0) (word_within s 0)))
