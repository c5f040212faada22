-- `putting::put_writes` meets its contract.
use mathlib.Core.Path.{◌≡◌, sym, ap, ◌∙◌}
use mathlib.Core.List.{List}
use Prim.Native.Nat.{ℕ, ◌+◌, ◌<◌, ◌^◌}
use native.Mathlib.Omega.{arith}
use lib.ListN.{length}
use borrow.Author.Rules.{rules}
use Rattle.octets.specs.Bytes.{laid}
use Rattle.moves.specs.Form.{record_start, row_from}
use Rattle.moves.specs.declared.Record.{Record}
use Rattle.writing.specs.Writes.{writes}
use Rattle.writing.proofs.Chain.{writes_length}
use Rattle.putting.proofs.Nothing.{nothing_written}
use Rattle.putting.proofs.put_writes.Statement.{statement}
use Rattle.putting.proofs.put_writes.Tie as tie

-- the buffer's length fits, and so does the number of the record behind the block's
fits : (s : tie.Start) → length s.args.buf.now < 2 ^ 64
fits s = search rules

module _ (o : tie.After-other_count) where
  abbrev start : tie.Start
  start = o.before.before

  in_all : length (writes start.args.s start.args.b start.args.d) ≡ start.args.count + o.other_count.result
  in_all = writes_length start.args.s start.args.b start.args.d ∙ (λ i. sym start.requires.2 i + sym o.other_count.ensures.0 i)

add_total : tie.Need-overflow_add-total
add_total c = omega (arith, fits (start c), (start c).requires.3, in_all c)

returns : tie.Need-returns-then-total-eq0
returns c =
    let o = c in
    let a = (start o.before).args in
    nothing_written a.s a.b a.d a.origin a.buf.now a.k (omega (arith, writes_length a.s a.b a.d, in_all o.before, c.if-total-eq0.true))

put_rest_requires : tie.Need-put_rest-requires
put_rest_requires c κs =
    let opened = c.open_block-opened.ensures in
    (opened.1, omega (arith, ap length opened.0, (start c.before.before.before).requires.3))

add_result : tie.Need-overflow_add-result
add_result c = let o = c in omega (arith, fits (start o.before.before.before.before.before.before), (start o.before.before.before.before.before.before).requires.3, in_all o.before.before.before.before.before.before)

returns_2 : tie.Need-returns
returns_2 c =
    let o = c in
    let a = (start o.before.before.before.before.before.before).args in
    let p = c in
    (ap (λ (n : ℕ). a.k + n) (sym (in_all o.before.before.before.before.before.before)), p.put_rest.ensures ∙ ap (λ (v : List Record). laid a.buf.now (record_start a.k) (row_from a.origin v)) p.open_block-opened.ensures.0)

pub put_writes_spec : {M : Type 1} → statement M
put_writes_spec =
    tie.close
    (tie.spec
    (λ c κs. search rules)
    (λ c. search rules)
    add_total
    returns
    (λ c. search rules)
    (λ c. search rules)
    (λ c κs. search rules)
    put_rest_requires
    add_result
    (λ c. search rules)
    returns_2)
