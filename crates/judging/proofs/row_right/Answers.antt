use Rattle.std.proofs.Common.{◌≡◌, sym, ap, ◌∙◌, ℕ, ◌+◌, get_or, arith}
use Rattle.moves.specs.Kinds.{is_arc}
use Rattle.lawful.specs.Versions.{size_in}
use Rattle.fields.proofs.Taking.{part_is}
use Rattle.judging.proofs.Judges.{first, first_wrong, first_right, none_left, asked_from, next_start}
use Rattle.judging.proofs.row_right.Goals as goal

-- what was asked of the record that begins at `first`
pub returns-then-not-front_right : goal.returns-then-not-front_right
returns-then-not-front_right c =
    let b = c.args.list.now in
    let l = c.loop-k in
    sym (l.invariant.2 ∙ first_wrong (size_in c.args.v) b c.args.count l.due l.k l.first (omega arith) (sym (c.front_right.ensures ∙ ap (first (size_in c.args.v) l.due) (part_is b l.first)) ∙ c.if-not-front_right.true))

pub loop-k-preserved : goal.loop-k-preserved
loop-k-preserved c =
    let b = c.args.list.now in
    let l = c.loop-k in
    let size : ◌≡◌ {A = ℕ} c.record_size-size.result (size_in c.args.v) = c.record_size-size.ensures in (
      omega arith,
      (λ i. l.invariant.1 i + size i) ∙ next_start c.args.v l.k,
      l.invariant.2
          ∙ first_right (size_in c.args.v) b c.args.count l.due l.k l.first (omega arith) (sym (c.front_right.ensures ∙ ap (first (size_in c.args.v) l.due) (part_is b l.first)) ∙ c.if-not-front_right.false) c.is_arc-due.result (c.is_arc-due.ensures ∙ ap (λ (m : ℕ). is_arc (get_or b m 0)) (omega arith))
          ∙ (λ i. asked_from (size_in c.args.v) b c.args.count c.is_arc-due.result (l.k + 1) (l.first + sym size i)),
    )

pub returns : goal.returns
returns c =
    let l = c.loop-k in
    sym (l.invariant.2 ∙ none_left (size_in c.args.v) c.args.list.now c.args.count l.due l.k l.first (omega arith))
