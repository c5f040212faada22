-- `turnable::is_fit` meets its contract.
use mathlib.Core.Path.{◌≡◌, sym, ap, subst}
use mathlib.Core.Bool.{Bool, false≢true}
use Prim.Native.Nat.{ℕ, ◌<◌, ◌^◌}
use native.Mathlib.Omega.{arith}
use lib.IntN.{ℤ, ◌+ℤ◌}
use mir.Syntax.{w32}
use mir.Val.{SFits}
use mir.Facts.{to_z-of_z}
use borrow.Author.Rules.{rules}
use Rattle.whole.specs.Signed.{along}
use Rattle.reaching.proofs.Room.{Answers}
use Rattle.division.specs.Division.{sum}
use Rattle.division.specs.Carried.{row_of}
use Rattle.passes.specs.declared.Cursor.{Cursor}
use Rattle.passes.specs.Cursor.{Sound}
use Rattle.turnable.proofs.is_fit.Statement.{statement}
use Rattle.turnable.proofs.is_fit.Tie as tie

-- where the depths together fit, the reach is all that is asked
reach_asked : (c : Cursor) {n : ℕ} {t : Bool} → n ≡ sum (row_of c.depths) → n < 2 ^ 32 → Answers (SFits w32 (c.line +ℤ along c.side n)) t → Answers (Sound c) t
reach_asked c {n} {t} e h a =
    let there = ap (λ (m : ℕ). c.line +ℤ along c.side m) e in
    (λ y. record { small = omega (arith, e, h); reach = subst (SFits w32) there (a.0 y) }, λ s. a.1 (subst (SFits w32) (sym there) s.reach))

-- asked at the function's entry, where `search` still reaches it
line_held : (s : tie.Start) → SFits w32 s.args.c.line
line_held s = search rules

returns : tie.Need-returns-then-together-ge-BEYOND_32
returns c = (λ y. absurd (false≢true y), λ s. absurd (omega (arith, c.total-together.ensures, s.small)))

returns_2 : tie.Need-returns
returns_2 c =
    let i = c in
    let s = i in
    let k = s.args.c in
    reach_asked k i.total-together.ensures (search rules)
    (subst (λ (l : ℤ). Answers (SFits w32 (l +ℤ along k.side i.total-together.result)) c.ends_within.result) (to_z-of_z (line_held s.before.before.before.before.before)) c.ends_within.ensures)

pub is_fit_spec : {M : Type 1} → statement M
is_fit_spec =
    tie.close (tie.spec (λ c κs. search rules) returns (λ c. search rules) (λ c κs. search rules) returns_2)
