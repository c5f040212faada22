-- Laws of the end of a text, and of a part of it with what stands behind that part.
-- Assumes nothing.
use Rattle.std.proofs.Common.{◌≡◌, sym, ap, ◌∙◌, ℕ, ◌+◌, ◌-◌, ◌≤◌, ◌<◌, ◌⊎◌, inl, inr, List, length, take, drop, arith}
use Rattle.std.proofs.lemmas.Bool.{cases_lt}
use Rattle.std.proofs.lemmas.List.{drop-drop, length-drop, drop_all}
use lib.ListN.{length-take}
use Rattle.stored.specs.Texts.{EndOf, PartOf}

pub end_whole : (s : List ℕ) → EndOf s s
end_whole s = let n : length s - length s ≡ 0 = omega arith in (omega arith, sym (ap (λ k. drop k s) n))

pub end_drop : (n : ℕ) (s : List ℕ) → EndOf s (drop n s)
end_drop n s = (omega (arith, length-drop n s), by (cases_lt n (length s)))
  where
    by : (n < length s) ⊎ (length s ≤ n) → drop n s ≡ drop (length s - length (drop n s)) s
    by (inl l) = let k : n ≡ length s - length (drop n s) = omega (arith, l, length-drop n s) in ap (λ k. drop k s) k
    by (inr l) = drop_all n s l ∙ sym (drop_all (length s - length (drop n s)) s (omega (arith, l, length-drop n s)))

pub end_of_end : (s t u : List ℕ) → EndOf s t → EndOf t u → EndOf s u
end_of_end s t u e f =
    let n : (length s - length t) + (length t - length u) ≡ length s - length u = omega (arith, e.0, f.0) in (
      omega (arith, e.0, f.0),
      f.1
          ∙ ap (λ x. drop (length t - length u) x) e.1
          ∙ drop-drop (length t - length u) (length s - length t) s
          ∙ ap (λ k. drop k s) n,
    )

-- what stands before the end of a text, and what behind some line of that end
pub part_before : (s rest behind : List ℕ) → EndOf s rest → EndOf rest behind → PartOf s (take (length s - length rest) s) behind
part_before s rest behind e f =
    let n : length (take (length s - length rest) s) ≡ length s - length rest = omega (arith, length-take (length s - length rest) s, e.0) in
    record {
      from = 0;
      in_order = omega (arith, n, e.0, f.0);
      part_is = sym (ap (λ k. take k s) n);
      behind_is = end_of_end s rest behind e f;
    }

-- a part of what stands behind another part
pub part_behind : (s p t q u : List ℕ) → PartOf s p t → PartOf t q u → PartOf s q u
part_behind s p t q u e f = record {
  from = (length s - length t) + f.from;
  in_order = omega (arith, e.behind_is.0, f.in_order);
  part_is =
      f.part_is
      ∙ ap (λ x. take (length q) (drop f.from x)) e.behind_is.1
      ∙ ap (λ x. take (length q) x) (drop-drop f.from (length s - length t) s);
  behind_is = end_of_end s t u e.behind_is f.behind_is;
}
