-- `threadable::is_fit` meets its contract.
use mathlib.Core.Path.{◌≡◌, refl, sym, ap, subst, ◌∙◌}
use mathlib.Core.Bool.{Bool, true, false, not, false≢true}
use Prim.Native.Nat.{ℕ, ◌-◌, ◌≤◌}
use native.Mathlib.Omega.{arith}
use lib.IntN.{ℤ, ◌+ℤ◌}
use mir.Syntax.{w32}
use mir.Val.{SFits}
use mir.Facts.{to_z-of_z}
use borrow.Author.Rules.{rules}
use Rattle.whole.specs.Signed.{along}
use Rattle.reaching.proofs.Room.{Answers}
use Rattle.depths.specs.Depths.{greatest_d}
use Rattle.depths.specs.Promised.{Rises}
use Rattle.cuts.specs.Cuts as cut
use Rattle.depths.proofs.Rows.{starts}
use Rattle.threading.specs.Threading.{wide}
use Rattle.threading.proofs.Lines.{wide_small}
use Rattle.threads.specs.declared.Cursor.{Cursor}
use Rattle.threads.specs.Cursor.{cuts_left, Sound}
use Rattle.threadable.specs.Ends.{deepest, Rising}
use Rattle.threadable.proofs.Endings.{rises_to_last}
use Rattle.threadable.proofs.is_fit.Statement.{statement}
use Rattle.threadable.proofs.is_fit.Tie as tie

-- ---- a sound cursor ends at its deepest cut
module _ (c : Cursor) where
  deepest_is : (s : Sound c) → s.deepest ≡ deepest c.depth c.cuts
  deepest_is s = rises_to_last s.deepest c.depth (cuts_left c) s.rises

  rising : Sound c → Rising c.depth c.cuts
  rising s = subst (λ (e : ℕ). Rises e c.depth (cuts_left c)) (deepest_is s) s.rises

  -- where the cuts are sound, rise and end in time, the reach is all that is asked
  reach_asked : {n : ℕ} {t : Bool} → n ≡ deepest c.depth c.cuts → n ≤ greatest_d → cut.Sound c.depth c.cuts → Rising c.depth c.cuts
      → Answers (SFits w32 (c.line +ℤ along c.side (wide c.pass.facing (n - c.depth)))) t → Answers (Sound c) t
  reach_asked {n} e h k r a = (
    λ y. record { deepest = n; small = h; cuts = k; rises = subst (λ (m : ℕ). Rises m c.depth (cuts_left c)) (sym e) r; reach = a.0 y },
    λ s. a.1 (subst (λ (m : ℕ). SFits w32 (c.line +ℤ along c.side (wide c.pass.facing (m - c.depth)))) (deepest_is s ∙ sym e) s.reach),
  )

-- asked at the function's entry, where `search` still reaches it
line_held : (s : tie.Start) → SFits w32 s.args.c.line
line_held s = search rules

-- ---- what a test told of the answer that it turned
yes : {t : Bool} → not t ≡ false → t ≡ true
yes {t = true} e = refl
yes {t = false} e = sym e

no : {P : Type 0} {t : Bool} → not t ≡ true → Answers P t → P → ⊥
no e a p = false≢true (ap not (sym (a.1 p)) ∙ e)

-- of a cursor that is not sound the answer is no
refused : {c : Cursor} → (Sound c → ⊥) → Answers (Sound c) false
refused h = (λ y. absurd (false≢true y), λ s. absurd (h s))

-- ---- what the tests passed tell
sums_fit : (c : tie.Else-not-sum_fits) → let k = c.args.c in cut.Sound k.depth k.cuts
sums_fit c = c.sum_fits.ensures.0 (yes (ap not c.if-not-sum_fits.false))

rises : (c : tie.Else-not-is_rising) → let k = c.args.c in Rising k.depth k.cuts
rises c = c.is_rising.ensures.0 (yes (ap not c.if-not-is_rising.false))

deep_enough : (c : tie.After-deepest_of-deepest) → c.args.c.depth ≤ c.deepest_of-deepest.result
deep_enough c =
    let e = c in
    let k = e.args.c in
    omega (arith, c.deepest_of-deepest.ensures, starts (deepest k.depth k.cuts) k.depth (cuts_left k) (rises e.before))

returns : tie.Need-returns-then-not-sum_fits
returns c = refused (λ s. no (ap not c.if-not-sum_fits.true) c.sum_fits.ensures s.cuts)

returns_2 : tie.Need-returns-then-not-is_rising
returns_2 c = let k = c.args.c in refused (λ s. no (ap not c.if-not-is_rising.true) c.is_rising.ensures (rising k s))

returns_3 : tie.Need-returns-then-deepest-gt-GREATEST_D
returns_3 c =
    let d = c in
    let k = d.args.c in
    refused (λ s. omega (arith, c.if-deepest-gt-GREATEST_D.true, d.deepest_of-deepest.ensures, deepest_is k s, s.small))

cast_by : tie.Need-overflow_cast-by
cast_by c =
    let l = c in
    let d = l in
    let k = d.args.c in
    omega (arith, l.if-deepest-gt-GREATEST_D.false, c.wide_of-by.ensures, wide_small k.pass.facing (d.deepest_of-deepest.result - k.depth))

returns_4 : tie.Need-returns
returns_4 c =
    let w = c in
    let l = w in
    let d = l in
    let e = d in
    let s = e in
    let k = s.args.c in
    reach_asked k d.deepest_of-deepest.ensures l.if-deepest-gt-GREATEST_D.false (sums_fit e.before.before.before.before.before.before.before.before) (rises e.before.before.before.before.before.before)
    (subst (λ (z : ℤ). Answers (SFits w32 z) c.ends_within.result) (λ i. to_z-of_z (line_held s.before.before.before.before.before.before.before.before.before.before.before) i +ℤ along k.side (w.wide_of-by.ensures i)) c.ends_within.ensures)

pub is_fit_spec : {M : Type 1} → statement M
is_fit_spec =
    tie.close
    (tie.spec
    (λ c κs. search rules)
    returns
    (λ c κs. sums_fit c)
    returns_2
    (λ c κs. sums_fit c.before.before)
    returns_3
    (λ c. deep_enough c.before.before)
    (λ c κs. search rules)
    cast_by
    (λ c κs. search rules)
    returns_4)
