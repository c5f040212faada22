-- `cyclewords::cutting::falling_words` meets its contract.
use mathlib.Core.Path.{◌≡◌, refl}
use Prim.Native.Nat.{◌+◌, ◌*◌, ◌^◌}
use native.Mathlib.Omega.{arith}
use borrow.Author.Rules.{rules}
use Rattle.cyclewords.proofs.cutting.falling_words.Statement.{statement}
use Rattle.cyclewords.proofs.cutting.falling_words.Tie as tie

returns : tie.Need-returns
returns c =
    let sum = c in
    let high = sum in
    let low = high in
    let f = low.args.f in
    let squares : low.low_word-square_low.result + 2 ^ 32 * high.high_word-square_high.result ≡ f.square = omega (arith, low.low_word-square_low.ensures, high.high_word-square_high.ensures) in
    let sums : sum.low_word-sum_low.result + 2 ^ 32 * c.high_word-sum_high.result ≡ f.sum = omega (arith, sum.low_word-sum_low.ensures, c.high_word-sum_high.ensures) in
    (refl, λ i. record { d3 = f.d3; d6 = f.d6; square = squares i; sum = sums i; left = f.left })

pub falling_words_spec : {M : Type 1} → statement M
falling_words_spec =
    tie.close
    (tie.spec
    (λ c κs. search rules)
    (λ c κs. search rules)
    (λ c κs. search rules)
    (λ c κs. search rules)
    returns)
