-- A turning cycle that is opened has its records, each record that is handed out is the first of those that are left, and what is over has none.
-- Assumes nothing.
use mathlib.Core.Path.{◌≡◌, refl, sym, ap, subst, ◌∙◌}
use mathlib.Core.Bool.{true, false}
use mathlib.Core.List.{List, [], ◌∷◌}
use Prim.Native.Nat.{ℕ, zero, suc, ◌+◌, ◌<◌}
use native.Mathlib.Omega.{arith}
use lib.Dec.{eqb}
use lib.IntN.{ℤ, ◌+ℤ◌}
use mir.Syntax.{w32}
use mir.Val.{SFits}
use borrow.Author.Tests.{eqb-true, eqb-false}
use Rattle.whole.specs.Signed.{along}
use Rattle.whole.proofs.Sides.{along_add, between}
use Rattle.division.specs.declared.Pieces.{Pieces}
use Rattle.division.specs.Division.{sum}
use Rattle.division.specs.Carried.{row_of}
use Rattle.division.proofs.Divisions.{pieces_sum}
use Rattle.division.proofs.Carrying.{none_left}
use Rattle.moves.specs.declared.Record.{Record}
use Rattle.axes.specs.Axis.{side, net}
use Rattle.axes.specs.Goes.{rapid_to}
use Rattle.axes.proofs.Axes.{line_fits}
use Rattle.turning.specs.declared.Turning.{Turning}
use Rattle.axes.specs.declared.Stage.{Stage}
use Rattle.axes.specs.declared.Stage.TheVariants.{In, Cut, Out, Back}
use Rattle.passes.specs.declared.Cursor.{Cursor}
use Rattle.passes.specs.declared.Passed.{Passed}
use Rattle.turning.specs.Turning.{too_short, pass_count, row, pass_for, pass_on, passes, turning}
use Rattle.passes.specs.Cursor.{rest_at, rest_of, over_at, over, before_at, before_pass, at, Sound, Makes, MakesPass}
use Rattle.turning.proofs.Asked.{long_enough}
use Rattle.turning.proofs.Counts.{Stands, apart}
use Rattle.turning.proofs.Turned.{some_passes}

never : false ≡ true → ⊥
never e = let z : ◌≡◌ {A = ℕ} 0 1 = cc in omega arith

-- ---- a cycle that is opened
abbrev opened : Turning → Pieces → Cursor
opened c p = record { pass = pass_for c; side = side c.infeed; line = c.infeed.start; depths = p; stage = In }

pub opens : (c : Turning) (p : Pieces) → too_short c ≡ false → Stands c.infeed → row_of p ≡ row c → (rest_of (opened c p) ≡ turning c) × Sound (opened c p)
unfolding rest_of rest_at turning
opens c p ok s e =
    let a = c.infeed in
    let far = (long_enough c ok).0 in
    let whole : sum (row_of p) ≡ net a = ap sum e ∙ pieces_sum (net a) (pass_count (net a) c.division) (some_passes (net a) c.division far) in (
      ap (passes (pass_on (pass_for c)) (side a) a.start) e,
      record { small = omega (arith, whole, apart a.target a.start s.target s.start); reach = line_fits a s.start s.target (sum (row_of p)) (omega (arith, whole)) },
    )

-- ---- one record
module _ (c : Cursor) {now : Stage} (sound : Sound c) (stage : c.stage ≡ now) where
  here : rest_of c ≡ rest_at now c
  unfolding rest_of
  here = ap (λ (s : Stage). rest_at s c) stage

  -- within a pass: of the records from a stage on, the first
  pub within : (s : Stage) {r made : Record} {rest : Cursor} → rest_at now c ≡ r ∷ rest_at s (at c s) → made ≡ r → rest ≡ at c s → Makes c made rest × (rest.stage ≡ s)
  unfolding rest_of
  within s e m b = (
    record {
      first = here ∙ e ∙ (λ i. sym m i ∷ rest_of (sym b i));
      sound = subst Sound (sym b) (record { small = sound.small; reach = sound.reach });
    },
    ap (λ (k : Cursor). k.stage) b,
  )

-- a pass more
module _ (c : Cursor) (sound : Sound c) {d : ℕ} (ds : Pieces) (row : row_of c.depths ≡ d ∷ row_of ds) where
  whole : sum (row_of c.depths) ≡ d + sum (row_of ds)
  whole = ap sum row

  abbrev line_next : ℤ
  line_next = c.line +ℤ along c.side d

  -- its line fits, since the last one does
  pub line_next_fits : SFits w32 c.line → SFits w32 line_next
  line_next_fits f = between c.side f sound.reach (omega (arith, whole))

  abbrev deeper : ℤ → Cursor
  deeper l = record { pass = c.pass; side = c.side; line = l; depths = ds; stage = Cut }

  deeper_sound : Sound (deeper line_next)
  deeper_sound = record {
    small = omega (arith, whole, sound.small);
    reach = subst (SFits w32) (ap (λ (n : ℕ). c.line +ℤ along c.side n) whole ∙ sym (along_add c.line c.side d (sum (row_of ds)))) sound.reach;
  }

  pub goes_in : c.stage ≡ In → {line : ℤ} {made : Record} {rest : Cursor} → line ≡ line_next
      → made ≡ rapid_to c.pass.facing line c.pass.home → rest ≡ deeper line → Makes c made rest × (rest.stage ≡ Cut)
  unfolding rest_of rest_at passes pass_on
  goes_in stage l m b = (
    record {
      first = here c sound stage ∙ ap (passes (pass_on c.pass) c.side c.line) row
          ∙ (λ i. rapid_to c.pass.facing (sym l i) c.pass.home ∷ rest_of (deeper (sym l i)))
          ∙ (λ i. sym m i ∷ rest_of (sym b i));
      sound = subst Sound (sym (b ∙ ap deeper l)) deeper_sound;
    },
    ap (λ (k : Cursor). k.stage) b,
  )

-- ---- a whole pass
before_in : (s : Stage) → before_at s ≡ true → s ≡ In
before_in In e = refl
before_in Cut e = absurd (never e)
before_in Out e = absurd (never e)
before_in Back e = absurd (never e)

pub no_pass_begun : (c : Cursor) → before_pass c ≡ true → c.stage ≡ In
no_pass_begun c e = before_in c.stage e

-- four records, one behind the other
pub four_make : {c k l m : Cursor} {p : Passed} → Makes c p.inward k → Makes k p.along l → Makes l p.outward m → Makes m p.home p.rest → p.rest.stage ≡ In → MakesPass c p
four_make {p = p} a b d e stage = record {
  first = a.first ∙ ap (λ (l : List Record). p.inward ∷ l) (b.first ∙ ap (λ (l : List Record). p.along ∷ l) (d.first ∙ ap (λ (l : List Record). p.outward ∷ l) e.first));
  sound = e.sound;
  before = ap before_at stage;
}

-- ---- none is left
pub over_at_lem : (c : Cursor) {now : Stage} → c.stage ≡ now → over c ≡ over_at now c
unfolding over
over_at_lem c e = ap (λ (s : Stage). over_at s c) e

none_at : (s : Stage) (c : Cursor) → over_at s c ≡ true → rest_at s c ≡ []
unfolding rest_at passes
none_at In c e = ap (passes (pass_on c.pass) c.side c.line) (none_left c.depths (eqb-true c.depths.left 0 e))
none_at Cut c e = absurd (never e)
none_at Out c e = absurd (never e)
none_at Back c e = absurd (never e)

pub rest_none : (c : Cursor) → over c ≡ true → rest_of c ≡ []
unfolding over rest_of
rest_none c e = none_at c.stage c e

-- and before a pass that is not over, one is left
pub some_left : (c : Cursor) → over c ≡ false → c.stage ≡ In → 0 < c.depths.left
some_left c e s = go c.depths.left (sym (over_at_lem c s) ∙ e)
  where
    go : (n : ℕ) → eqb n 0 ≡ false → 0 < n
    go zero h = absurd (eqb-false 0 0 h refl)
    go (suc n) h = omega arith
