-- `wording::open_going` meets its contract.
use mathlib.Core.Path.{◌≡◌, sym, ◌∙◌}
use Prim.Native.Nat.{◌+◌}
use native.Mathlib.Omega.{arith}
use lib.ListN.{length}
use borrow.Author.Rules.{rules}
use Rattle.taking.specs.of_writing.Writes.{writes}
use Rattle.taking.proofs.of_writing.Chain.{writes_length}
use Rattle.taking.specs.Meets.{went_by}
use Rattle.wording.proofs.open_going.Statement.{statement}
use Rattle.wording.proofs.open_going.Tie as tie

module _ (o : tie.After-other_count) where
  abbrev start : tie.Start
  start = o.before.before

  -- how many records there are in all
  in_all : start.args.going.count + o.other_count.result ≡ length (writes start.args.going.settled start.args.b start.args.going.deed)
  in_all = let a = start.args in (λ i. start.requires.2 i + o.other_count.ensures.0 i) ∙ sym (writes_length a.going.settled a.b a.going.deed)

add_total : tie.Need-overflow_add-total
add_total c = omega (arith, (start c).requires.4, in_all c)

hand_of_requires : tie.Need-hand_of-hand-requires
hand_of_requires c κs = let o = c in ((start o.before).requires.0, (start o.before).requires.1, in_all o.before)

add_count : tie.Need-overflow_add-count
add_count c = let o = c in omega (arith, (start o.before.before.before).requires.4, in_all o.before.before.before)

returns : tie.Need-returns
returns c =
    let h = c in
    let o = h in
    let a = (start o.before.before.before.before).args in
    record {
      came = c.went-done.ensures ∙ (λ i. went_by a.onward (h.done_of-state.ensures i) a.run (a.run.count + in_all o.before.before.before.before i) a.after);
      has = h.hand_of-hand.ensures.0;
      held = h.hand_of-hand.ensures.1;
    }

pub open_going_spec : {M : Type 1} → statement M
open_going_spec =
    tie.close
    (tie.spec
    (λ c κs. search rules)
    (λ c. search rules)
    add_total
    (λ c κs. search rules)
    hand_of_requires
    add_count
    (λ c κs. search rules)
    returns)
