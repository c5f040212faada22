-- `block::read_line` meets its contract.
use borrow.Author.Rules.{rules}
use mathlib.Core.Path.{◌≡◌, sym, ap, ◌∙◌, subst}
use mathlib.Core.Bool.{true, false}
use mathlib.Core.List.{List}
use Prim.Native.Nat.{ℕ}
use lib.ListN.{length}
use Rattle.addresses.specs.declared.NextWord.{NextWord}
use Rattle.addresses.specs.Words.{next_word, NextIn}
use Rattle.block.specs.declared.Head.TheVariants.{Blank}
use Rattle.block.specs.Words.{faulty_rest, gather, reading, line_by, line_of}
use borrow.Author.Rules.{rules}
use Rattle.block.proofs.read_line.Statement.{statement}
use Rattle.block.proofs.read_line.Tie as tie

-- a line whose first word is known
line_by_lem : (s : List ℕ) {n : NextWord} → next_word s 0 ≡ n → line_by s n ≡ line_of s
unfolding line_of
line_by_lem s e = ap (line_by s) (sym e)

read_rest_requires : tie.Need-read_rest-rest-requires
read_rest_requires c κs =
    let x = c in
    let n = x in
    let s = n in
    ((subst (λ (t : NextWord). NextIn t 0 (length s.args.line.now)) x.in-Word.is n.next_word-next.ensures.1).1, s.requires)

returns : tie.Need-returns-in-Fault
unfolding faulty_rest
returns c =
    let n = c in
    (λ i. reading Blank (record { block = c.no_words.ensures i; faulty = true }))
    ∙ line_by_lem n.args.line.now (sym n.next_word-next.ensures.0 ∙ c.in-Fault.is)

returns_2 : tie.Need-returns-in-End
unfolding gather
returns_2 c =
    let n = c in
    (λ i. reading Blank (record { block = c.no_words-in-End.ensures i; faulty = false }))
    ∙ line_by_lem n.args.line.now (sym n.next_word-next.ensures.0 ∙ c.in-End.is)

returns_3 : tie.Need-returns-in-Word
returns_3 c =
    let r = c in
    let x = r in
    let n = x in
    (λ i. reading (c.head_by.ensures i) (r.read_rest-rest.ensures i))
    ∙ line_by_lem n.args.line.now (sym n.next_word-next.ensures.0 ∙ x.in-Word.is)

pub read_line_spec : {M : Type 1} → statement M
read_line_spec =
    tie.close
    (tie.spec
    (λ c κs. search rules)
    (λ c. search rules)
    (λ c κs. search rules)
    (λ c. search rules)
    (λ c κs. search rules)
    (λ c. search rules)
    read_rest_requires
    (λ c κs. search rules)
    returns
    returns_2
    returns_3)
