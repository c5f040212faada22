-- `comparing::unpacked` meets its contract.
use borrow.Author.Rules.{rules}
use borrow.Author.Tests.{ne_eqb}
use mathlib.Core.Path.{ap, sym}
use mathlib.Core.Bool.{Bool, cond}
use Prim.Native.Nat.{ℕ}
use Rattle.listing.specs.of_answers.declared.Answer.TheVariants.{Complete, Alarm}
use Rattle.comparing.specs.Door.{alarm_told, place_told, count_told, told_by}
use Rattle.comparing.proofs.unpacked.Statement.{statement}
use Rattle.comparing.proofs.unpacked.Tie as tie

returns : tie.Need-returns-then-alarm-eq0
returns c = let n : ℕ = c.args.packed in sym (ap (λ (a : ℕ). told_by a (place_told n) (count_told n)) c.if-alarm-eq0.true)

returns_2 : tie.Need-returns
returns_2 c =
    let n : ℕ = c.args.packed in
    sym (ap (λ (t : Bool). cond t (Complete (count_told n)) (Alarm (alarm_told n) (place_told n) (count_told n))) (ne_eqb (alarm_told n) 0 c.if-alarm-eq0.false))

pub unpacked_spec : {M : Type 1} → statement M
unpacked_spec = tie.close (tie.spec (λ c. search rules) returns returns_2)
