-- `onemove::can_go_on` meets its contract.
use mathlib.Core.Bool.{Bool, true, false, ◌&&◌}
use mathlib.Core.Path.{◌≡◌, refl}
use borrow.Author.Rules.{rules}
use borrow.Author.Tests.{ltb-true, lt-ltb, leb-true, le-leb, not-true, not-false}
use Rattle.telling.proofs.Tells.{tells_no, told_no, never}
use Rattle.onemove.proofs.can_go_on.Statement.{statement}
use Rattle.onemove.proofs.can_go_on.Tie as tie

both : (a b : Bool) → a && b ≡ true → (a ≡ true) × (b ≡ true)
both true true e = (refl, refl)
both true false e = absurd (never e)
both false b e = absurd (never e)

and_true : {a b : Bool} → a ≡ true → b ≡ true → a && b ≡ true
and_true {a} {b} e f = rw (e, f) refl

returns : tie.Need-returns-then-not-is_kept
returns c = let k = c in tells_no (λ n. told_no k.is_kept.ensures c.if-not-is_kept.true n.kept)

returns_2 : tie.Need-returns-then-not-is_fit
returns_2 c = let k = c in tells_no (λ n. told_no k.is_fit.ensures c.if-not-is_fit.true n.state)

returns_3 : tie.Need-returns
returns_3 c =
    let e = c in
    let f = e in
    let d = c in
    let k = d in
    let a = c.args in (
      λ t. let q = both _ _ t in
          let p = both _ _ q.1 in
          record {
            kept = k.is_kept.ensures.0 d.if-not-is_kept.false;
            state = f.is_fit.ensures.0 e.if-not-is_fit.false;
            some = ltb-true 0 a.g.end q.0;
            end = leb-true a.g.end a.tape p.0;
            filled = leb-true a.g.filled a.places p.1;
          },
      λ n. and_true (lt-ltb 0 a.g.end n.some) (and_true (le-leb a.g.end a.tape n.end) (le-leb a.g.filled a.places n.filled)),
    )

pub can_go_on_spec : {M : Type 1} → statement M
can_go_on_spec = tie.close (tie.spec (λ c κs. search rules) returns (λ c κs. search rules) returns_2 returns_3)
