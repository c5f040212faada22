-- `handwords::due_words` meets its contract.
use mathlib.Core.Path.{ap, ◌∙◌}
use Prim.Native.Nat.{ℕ}
use lib.Dec.{eqb}
use borrow.Author.Rules.{rules}
use Rattle.resumable.specs.Kept.{kept}
use Rattle.handwords.specs.Due.{due_from, due_by}
use Rattle.handwords.proofs.due_words.Statement.{statement}
use Rattle.handwords.proofs.due_words.Tie as tie

returns : tie.Need-returns
unfolding due_by
returns c =
    let k = c in
    let h = k in
    let s = h in
    let e = c.slot_words.ensures in
    let deed = s.args.deed in (
      e.1 ∙ k.kept_of-slot.ensures,
      ap (λ (u : ℕ). due_from u (kept deed s.args.due)) e.0 ∙ h.hand_of-hand.ensures.back deed,
      ap (λ (u : ℕ). eqb u 0) e.0 ∙ h.hand_of-hand.ensures.some,
    )

pub due_words_spec : {M : Type 1} → statement M
due_words_spec =
    tie.close
    (tie.spec
    (λ c κs. search rules)
    (λ c κs. search rules)
    (λ c κs. search rules)
    returns)
