-- Each digit goes on, and each way out ends the run, by one law of `here`.
use Rattle.std.proofs.Common.{◌≡◌, ◌⊎◌, inl, inr, ℕ, List, ◌+◌, ◌-◌, ◌∙◌, ◌<◌, ◌≤◌, min, length, true, false, sym, slice_index_or, arith}
use Rattle.std.proofs.lemmas.Bool.{cases_lt}
use Rattle.numbers.specs.Numbers.{is_digit}
use Rattle.numbers.proofs.Reading.{here, found, here_start, here_full, here_end, here_stop, here_more, ten_more, ten_up}
use Rattle.numbers.proofs.digit_run.Goals as goal

pub loop-count-init : goal.loop-count-init
loop-count-init c = (omega arith, here_start c.args.part.now c.args.at c.args.limit)

pub returns-then-not-is_ascii_digit : goal.returns-then-not-is_ascii_digit
returns-then-not-is_ascii_digit c =
    let a = c.args in
    let l = c.loop-count in
    let no : is_digit (slice_index_or a.part.now (a.at + l.count) 0) ≡ false = sym c.is_ascii_digit.ensures.value ∙ c.if-not-is_ascii_digit.true in
    record { is = sym (l.invariant.1 ∙ here_stop a.part.now a.at a.limit l.value l.count (omega arith) no); few = omega arith; within = omega arith; small = l.invariant.0 }

pub overflow_mul-value : goal.overflow_mul-value
overflow_mul-value c = omega (arith, ten_up {n = c.loop-count.count} {m = 6} (omega arith))

pub overflow_add-value : goal.overflow_add-value
overflow_add-value c = omega (arith, ten_up {n = c.loop-count.count} {m = 6} (omega arith), c.if-not-is_ascii_digit.ensures.cases)

pub loop-count-preserved : goal.loop-count-preserved
loop-count-preserved c =
    let a = c.args in
    let l = c.loop-count in
    let yes : is_digit (slice_index_or a.part.now (a.at + l.count) 0) ≡ true = sym c.is_ascii_digit.ensures.value ∙ c.if-not-is_ascii_digit.false in (
      omega (arith, ten_more l.count, c.if-not-is_ascii_digit.ensures.cases),
      rw c.from.ensures (l.invariant.1 ∙ here_more a.part.now a.at a.limit l.value l.count (omega arith) (omega arith) yes),
    )

-- as many digits as may be, or no byte more
ended : (s : List ℕ) (at limit v n : ℕ) → min limit (length s - at) ≤ n → here s at limit v n ≡ found v n
ended s at limit v n h = by (cases_lt n limit)
  where
    by : (n < limit) ⊎ (limit ≤ n) → here s at limit v n ≡ found v n
    by (inl l) = here_end s at limit v n (omega arith)
    by (inr l) = here_full s at limit v n l

pub returns : goal.returns
returns c =
    let a = c.args in
    let l = c.loop-count in
    let most = c.min-most.result in
    let same : l.count ≡ most = omega arith in
    rw (← same) (record { is = sym (l.invariant.1 ∙ ended a.part.now a.at a.limit l.value l.count (omega arith)); few = omega arith; within = omega arith; small = l.invariant.0 })
