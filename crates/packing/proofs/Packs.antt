-- Laws of an answer as one number.
-- Assumes nothing.
use mathlib.Core.Path.{◌≡◌, sym, subst}
use Prim.Native.Nat.{ℕ, ◌+◌, ◌*◌, ◌<◌}
use native.Mathlib.Omega.{arith}
use Rattle.answers.specs.Answers.{number_of, place_of, count_of}
use Rattle.answers.specs.declared.Answer.{Answer}
use Rattle.packing.specs.Packing.{Packed, Fits}

-- the numbers of an answer, as they stand in one
pub packs : (a : Answer) (r : ℕ) → Fits a → number_of a < 256 → r ≡ count_of a + 65_536 * (place_of a + 65_536 * number_of a) → Packed a r
packs a r f n e = record {
  count = omega (arith, f.count, e);
  place = omega (arith, f.count, f.place, e);
  alarm = omega (arith, f.count, f.place, e);
  rest = omega (arith, f.count, f.place, n, e);
}

-- an answer by its kind: what is known of it, and what was made of it
pub fits_by : {a b : Answer} → a ≡ b → Fits a → Fits b
fits_by e f = subst Fits e f

pub packed_by : {a b : Answer} {r : ℕ} → a ≡ b → Packed b r → Packed a r
packed_by {r = r} e p = subst (λ (x : Answer). Packed x r) (sym e) p
