-- `runlaid::put_going` meets its contract.
use borrow.Author.Rules.{rules}
use Rattle.runlaid.proofs.Putting.{named}
use Rattle.runlaid.proofs.Back.{five_put, all_back}
use Rattle.runlaid.proofs.put_going.Statement.{statement}
use Rattle.runlaid.proofs.put_going.Tie as tie

returns : tie.Need-returns
returns c =
    let fifth = c in
    let fourth = fifth in
    let third = fourth in
    let second = third in
    let first = second in
    let filled = first in
    let end = filled in
    let s = end in
    let phase = first.phase_words.ensures in
    all_back s.args.g s.requires.0 fifth.put_waiting.ensures.1 fourth.put_run.ensures.1 phase.1
    (five_put s.args.g s.requires.0 (named phase.0 first.put_four.ensures) second.put_ends.ensures (named third.frame_words.ensures third.put_four-2.ensures) fourth.put_run.ensures.0 fifth.put_waiting.ensures.0)

pub put_going_spec : {M : Type 1} → statement M
put_going_spec =
    tie.close
    (tie.spec
    (λ c. search rules)
    (λ c. search rules)
    (λ c κs. search rules)
    (λ c κs. search rules)
    (λ c κs. search rules)
    (λ c κs. search rules)
    (λ c κs. search rules)
    (λ c κs. search rules)
    (λ c κs. search rules)
    (λ c. search rules)
    returns)
