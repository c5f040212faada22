-- `drilling::record_count` meets its contract.
use mathlib.Core.Path.{◌≡◌, sym, ap, ◌∙◌}
use mathlib.Core.Bool.{Bool, true, false, cond}
use Prim.Native.Nat.{ℕ, ◌+◌, ◌-◌, ◌*◌, ◌≤◌, ◌<◌}
use native.Mathlib.Omega.{arith}
use lib.Dec.{eqb}
use lib.ListN.{length}
use Rattle.drilling.specs.declared.Bore.{Bore}
use Rattle.drilling.specs.Drilling.{bite_count, drilling, record_count}
use Rattle.drilling.proofs.Asked.{some_bites}
use Rattle.drilling.proofs.Counts.{drilling_length}
use borrow.Author.Rules.{rules}
use Rattle.drilling.proofs.record_count.Statement.{statement}
use Rattle.drilling.proofs.record_count.Tie as tie

tail_few : (t : Bool) → cond t 0 1 ≤ 1
tail_few true = omega arith
tail_few false = omega arith

-- what the two calls gave
record Gave (n t : ℕ) : Type 0 where
  some : 0 < n
  few : n < 4_294_967_296
  tail : t ≤ 1

gave : (c : tie.After-dwell_count-tail) → Gave c.bite_count-n.result c.dwell_count-tail.result
gave c =
    let s = c in
    let b = s.args.b in
    let f : c.bite_count-n.result < 4_294_967_296 = search rules in record {
      some = omega (arith, c.bite_count-n.ensures, some_bites b s.requires);
      few = f;
      tail = omega (arith, c.dwell_count-tail.ensures, tail_few (eqb b.dwell 0));
    }

bite_count_requires : tie.Need-bite_count-n-requires
bite_count_requires c κs = search rules

cast_n : tie.Need-overflow_cast-n
cast_n c = search rules

dwell_count_requires : tie.Need-dwell_count-tail-requires
dwell_count_requires c κs = search rules

add_tail : tie.Need-overflow_add-tail
add_tail c = omega (arith, gave c)

sub_result : tie.Need-overflow_sub-result
sub_result c = omega (arith, gave c.before)

mul_result : tie.Need-overflow_mul-result
mul_result c = search rules

add_result : tie.Need-overflow_add-result
add_result c = omega (arith, gave c.before)

add_result_2 : tie.Need-overflow_add-result-then-b
add_result_2 c = omega (arith, gave c.before)

counted : (s : tie.Start) → length (drilling s.args.b) ≡ record_count s.args.b
counted s = drilling_length s.args.b s.requires

full_count : (b : Bore) → b.full ≡ true → record_count b ≡ bite_count b + (2 * (bite_count b - 1) + (cond (eqb b.dwell 0) 0 1 + 1))
unfolding record_count
full_count b e = ap (λ (t : Bool). bite_count b + (cond t 2 1 * (bite_count b - 1) + (cond (eqb b.dwell 0) 0 1 + 1))) e

short_count : (b : Bore) → b.full ≡ false → record_count b ≡ bite_count b + ((bite_count b - 1) + (cond (eqb b.dwell 0) 0 1 + 1))
unfolding record_count
short_count b e = ap (λ (t : Bool). bite_count b + (cond t 2 1 * (bite_count b - 1) + (cond (eqb b.dwell 0) 0 1 + 1))) e ∙ omega arith

returns : tie.Need-returns-then-b
returns c =
    let d = c in
    let n = d.bite_count-n.ensures in
    (λ i. n i + (2 * (n i - 1) + (d.dwell_count-tail.ensures i + 1))) ∙ sym (counted d.before.before.before ∙ full_count d.args.b c.if-b.true)

sub_result_2 : tie.Need-overflow_sub-result-2
sub_result_2 c = omega (arith, gave c.before)

add_result_3 : tie.Need-overflow_add-result-2
add_result_3 c = omega (arith, gave c.before)

add_result_4 : tie.Need-overflow_add-result-3
add_result_4 c = omega (arith, gave c.before)

returns_2 : tie.Need-returns
returns_2 c =
    let d = c in
    let n = d.bite_count-n.ensures in
    (λ i. n i + ((n i - 1) + (d.dwell_count-tail.ensures i + 1))) ∙ sym (counted d.before.before.before ∙ short_count d.args.b c.if-b.false)

pub record_count_spec : {M : Type 1} → statement M
record_count_spec =
    tie.close
    (tie.spec
    bite_count_requires
    cast_n
    dwell_count_requires
    add_tail
    sub_result
    mul_result
    add_result
    add_result_2
    returns
    sub_result_2
    add_result_3
    add_result_4
    returns_2)
