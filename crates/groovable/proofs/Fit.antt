-- What the test of a cursor tells, part by part.
-- Assumes nothing.
use mathlib.Core.Path.{◌≡◌, refl, sym, ap, ◌∙◌}
use mathlib.Core.Bool.{Bool, cond}
use Prim.Native.Nat.{ℕ, zero, suc, ◌+◌, ◌/◌, ◌%◌, ◌≤◌, ◌<◌, ◌^◌}
use native.Mathlib.Nat.{div-eq_of_lt}
use native.Mathlib.Decide.{dec_lt}
use native.Mathlib.Omega.{arith}
use lib.IntN.{ℤ, pos, ◌+ℤ◌, ◌-ℤ◌, nat_abs}
use lib.ListN.{length}
use mir.Syntax.{w32}
use mir.Val.{SFits}
use borrow.Author.Tests.{eq-eqb, ne_eqb}
use Rattle.telling.proofs.Tells.{Tells}
use Rattle.whole.specs.declared.Side.TheVariants.{Minus}
use Rattle.whole.specs.Signed.{minus, along}
use Rattle.whole.proofs.Integers.{add_in, sub_in, up_neg, down_neg, abs, range, fits}
use Rattle.division.specs.declared.Pieces.{Pieces}
use Rattle.division.specs.Division.{count, pieces, sum}
use Rattle.division.specs.Carried.{row_of}
use Rattle.division.proofs.Divisions.{pieces_length, pieces_sum, count_above}
use Rattle.division.proofs.Carrying.{divided_row, row_length}
use Rattle.totals.proofs.Sums.{known_by_sum}
use Rattle.grooving.specs.declared.Way.{Way}
use Rattle.grooving.specs.declared.Groove.{Groove}
use Rattle.grooving.specs.Grooving.{length_of, cut_count, cuts}
use Rattle.plunges.specs.declared.Cursor.{Cursor}
use Rattle.plunges.specs.Cursor.{Ready, Sound}

-- ---- how many cuts there are
pub one_cut : (g : Groove) → g.piece ≡ 0 → cut_count g ≡ 1
unfolding cut_count
one_cut g z = ap (λ (t : Bool). cond t 1 (count (length_of g.depth) g.piece)) (eq-eqb g.piece 0 z)

pub more_cuts : (g : Groove) → (g.piece ≡ 0 → ⊥) → cut_count g ≡ count (length_of g.depth) g.piece
unfolding cut_count
more_cuts g h = ap (λ (t : Bool). cond t 1 (count (length_of g.depth) g.piece)) (ne_eqb g.piece 0 h)

none : (d : ℕ) → (d ≡ 0 → ⊥) → count 0 d ≡ 0
unfolding count
none zero h = absurd (h refl)
none (suc d) h = div-eq_of_lt (omega arith)

pub no_cuts : (g : Groove) → (g.piece ≡ 0 → ⊥) → length_of g.depth ≡ 0 → cut_count g ≡ 0
no_cuts g h z = more_cuts g h ∙ ap (λ (e : ℕ). count e g.piece) z ∙ none g.piece h

-- a groove that has no cuts has no depth, and its row of cuts is empty
no_depth : (g : Groove) → cut_count g ≡ 0 → length_of g.depth ≡ 0
no_depth g z = go g.piece refl (dec_lt 0 (length_of g.depth))
  where
    go : (d : ℕ) → g.piece ≡ d → Dec (0 < length_of g.depth) → length_of g.depth ≡ 0
    go zero e h = absurd (omega (arith, one_cut g e))
    go (suc d) e (yes h) = absurd (omega (arith, more_cuts g (λ k. omega arith), count_above (length_of g.depth) g.piece h (omega arith)))
    go (suc d) e (no h) = omega arith

empty : (e n : ℕ) → e ≡ 0 → n ≡ 0 → length (pieces e n) ≡ 0
unfolding pieces
empty e n z y = λ i. length (pieces (z i) (y i))

-- ---- a row that has a piece and is the groove's cuts has as many pieces, which make the depth
module _ (g : Groove) (p : Pieces) (some : 0 < p.left) where
  abbrev deep : ℕ
  deep = length_of g.depth

  pub cuts_are : p.left ≡ cut_count g → sum (row_of p) ≡ deep → row_of p ≡ cuts g
  unfolding row_of
  cuts_are many all =
      let n = p.left in
      let begun = divided_row deep n some in
      known_by_sum p.piece p.remainder (deep / n) (deep % n) n (all ∙ sym (pieces_sum deep n some) ∙ sym (ap sum begun))
      ∙ begun
      ∙ ap (pieces deep) many

  pub cuts_many : row_of p ≡ cuts g → p.left ≡ cut_count g
  cuts_many e = go (dec_lt 0 (cut_count g))
    where
      go : Dec (0 < cut_count g) → p.left ≡ cut_count g
      go (yes h) = sym (row_length p) ∙ ap length e ∙ pieces_length deep (cut_count g) h
      go (no h) =
          let z : cut_count g ≡ 0 = omega arith in
          absurd (omega (arith, row_length p, ap length e, empty deep (cut_count g) (no_depth g z) z))

  pub cuts_make : row_of p ≡ cuts g → sum (row_of p) ≡ deep
  cuts_make e = ap sum e ∙ pieces_sum deep (cut_count g) (omega (arith, cuts_many e))

-- ---- across: from the place w there is room for n toward minus
-- the least place that 32 bits hold
abbrev pub least : ℤ
least = minus 2_147_483_648

module _ (w : ℤ) (n : ℕ) (now : SFits w32 w) where
  pub room_fits : n ≤ nat_abs (w -ℤ least) → SFits w32 (w +ℤ along Minus n)
  room_fits h =
      let r = range now in
      let d = sub_in w least in
      let s = add_in w (minus n) in
      let u = up_neg (pos n) in
      let v = down_neg (pos n) in
      let a = abs (w -ℤ least) in
      fits (record { high = omega arith; low = omega arith })

  pub fits_room : SFits w32 (w +ℤ along Minus n) → n ≤ nat_abs (w -ℤ least)
  fits_room f =
      let r = range now in
      let q = range f in
      let d = sub_in w least in
      let s = add_in w (minus n) in
      let u = up_neg (pos n) in
      let v = down_neg (pos n) in
      let a = abs (w -ℤ least) in
      omega arith

-- ---- two places of 32 bits are less than 2^32 apart
pub apart : (d : Way) → SFits w32 d.start → SFits w32 d.target → length_of d < 2 ^ 32
apart d f g = let x = range f in let y = range g in let s = sub_in d.target d.start in let m = abs (d.target -ℤ d.start) in omega arith

-- ---- the parts together
pub record Parts (c : Cursor) : Type 0 where
  pub some : 0 < c.plunge.left
  pub row : row_of c.plunge ≡ cuts c.groove
  pub far : length_of c.groove.depth < 2 ^ 32
  pub reach : c.deep + sum (row_of c.cuts) ≤ length_of c.groove.depth
  pub small : sum (row_of c.steps) < 2 ^ 32
  pub wide : SFits w32 (c.width +ℤ along Minus (sum (row_of c.steps)))

pub tells_sound : (c : Cursor) {test : Bool} → Parts c → Tells test (Ready c.stage c) → Tells test (Sound c)
tells_sound c p ready =
    let whole : sum (row_of c.plunge) ≤ length_of c.groove.depth = omega (arith, cuts_make c.groove c.plunge p.some p.row) in
    ((λ e. record { row = p.row; some = p.some; whole = whole; far = p.far; reach = p.reach; small = p.small; wide = p.wide; ready = ready.0 e }), (λ s. ready.1 s.ready))
