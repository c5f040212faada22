-- Texts that are the same, what stands in a text and behind it, and lines that count from 1.
use Rattle.std.specs.Prelude.{Bool, true, false, ◌&&◌, List, [], ◌∷◌, ℕ, ◌+◌, ◌-◌, ◌<◌, ◌≤◌, ◌≡◌, eqb, length, take, drop}
use Rattle.stored.specs.declared.compare.Verdict.{Verdict}
use Rattle.stored.specs.declared.compare.Verdict.TheVariants.{Agrees, Differs, Unread}

unfoldable pub same_text : List ℕ → List ℕ → Bool
same_text [] [] = true
same_text [] (y ∷ ys) = false
same_text (x ∷ xs) [] = false
same_text (x ∷ xs) (y ∷ ys) = eqb x y && same_text xs ys

-- the end of a text, from some place on
abbrev pub EndOf : List ℕ → List ℕ → Type 0
EndOf text rest = (length rest ≤ length text) × (rest ≡ drop (length text - length rest) text)

-- a part of a text, which stands at a place of it, and what stands behind that part, to the text's end
pub record PartOf (text part behind : List ℕ) : Type 0 where
  pub from : ℕ
  pub in_order : from + length part + length behind ≤ length text
  pub part_is : part ≡ take (length part) (drop from text)
  pub behind_is : EndOf text behind

-- a listing differs at one of its lines, which count from 1
abbrev pub FromOne : Verdict → Type 0
FromOne Agrees = Unit {0}
FromOne Unread = Unit {0}
FromOne (Differs line) = 0 < line
