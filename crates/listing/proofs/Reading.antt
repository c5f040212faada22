-- The records of a list one after the other.
-- Assumes nothing.
use mathlib.Core.Path.{◌≡◌, ap, ◌∙◌}
use mathlib.Core.List.{List, [], ◌∷◌, ◌++◌}
use Prim.Native.Nat.{ℕ, suc, ◌+◌, ◌-◌, ◌<◌, ◌≤◌}
use native.Mathlib.Omega.{arith}
use lib.ListN.{drop}
use lib.Seq.{drop-drop}
use Rattle.moves.specs.Form.{record_size, record_limit, record_start, room_of}
use Rattle.moves.specs.Reading.{listed_in, row_in, row_at}
use Rattle.listing.specs.Listing.{record_line, record_lines}

-- ---- the records of a list
-- a buffer holds no more records than the limit, and each lies within it
pub held_few : (bytes count : ℕ) → count ≤ room_of bytes → count ≤ record_limit
unfolding room_of
held_few bytes count h = omega arith

pub held : (bytes count k : ℕ) → count ≤ room_of bytes → k < count → record_start k + record_size ≤ bytes
unfolding room_of
held bytes count k h l = omega arith

-- the first of the records that are left, and the others
first_left : (list : List ℕ) (k count : ℕ) → k < count
    → row_at list k (count - k) ≡ listed_in (drop (record_start k) list) ∷ row_at list (k + 1) (count - (k + 1))
unfolding row_in
first_left list k count h =
    let n : ℕ = count - (k + 1) in
    let e : count - k ≡ suc n = omega arith in
    let p : record_start k + record_size ≡ record_start (k + 1) = omega arith in
    ap (λ (m : ℕ). row_in m (drop (record_start k) list)) e
    ∙ ap (λ (l : List ℕ). listed_in (drop (record_start k) list) ∷ row_in n l) (drop-drop record_size (record_start k) list ∙ ap (λ (m : ℕ). drop m list) p)

pub lines_left : (list : List ℕ) (k count : ℕ) → k < count
    → record_lines (row_at list k (count - k)) ≡ record_line (listed_in (drop (record_start k) list)) ++ record_lines (row_at list (k + 1) (count - (k + 1)))
unfolding record_lines
lines_left list k count h = ap record_lines (first_left list k count h)

pub no_lines_left : (list : List ℕ) (k count : ℕ) → count ≤ k → record_lines (row_at list k (count - k)) ≡ []
unfolding record_lines row_in
no_lines_left list k count h =
    let e : count - k ≡ 0 = omega arith in ap (λ (m : ℕ). record_lines (row_in m (drop (record_start k) list))) e
