-- `==` of two texts compares byte after byte, as `same_text` does.
use Rattle.std.proofs.Common.{◌≡◌, ◌∙◌, refl, ap, ℕ, List, [], ◌∷◌, ◌&&◌, nat_eq}
use Rattle.std.specs.Cmp.Lexicographic.{pointwise}
use Rattle.stored.specs.Texts.{same_text}
use Rattle.stored.proofs.text.same.Goals as goal

by_bytes : (a b : List ℕ) → pointwise nat_eq a b ≡ same_text a b
unfolding same_text
by_bytes [] [] = refl
by_bytes [] (y ∷ ys) = refl
by_bytes (x ∷ xs) [] = refl
by_bytes (x ∷ xs) (y ∷ ys) = ap (λ same. nat_eq x y && same) (by_bytes xs ys)

pub returns : goal.returns
returns c = c.eq.ensures ∙ by_bytes c.args.a.now c.args.b.now
