-- `addresses::word_at` meets its contract.
-- The word by the address, the index, the form and the end that were found; its bounds are a law of `word_at`.
use Prim.Native.Nat.{◌+◌}
use mathlib.Core.Path.{◌≡◌, sym, ap, ◌∙◌, subst}
use borrow.Author.Rules.{rules}
use Rattle.addresses.specs.declared.Address.{Address}
use Rattle.addresses.specs.declared.Index.{Index}
use Rattle.addresses.specs.Words.{form_of, IndexIn, addressed, word_at}
use Rattle.addresses.proofs.Wording.{word_by_lem, by_index, no_index}
use Rattle.addresses.proofs.word_at.Statement.{statement}
use Rattle.addresses.proofs.word_at.Tie as tie

-- the word by the address and the end that were found
found : (c : tie.After-number_end-end)
    → word_at c.args.line.now c.args.p
    ≡ addressed c.args.line.now c.capital_of-address.result (form_of c.capital_of-address.result)
    (c.args.p + 1) c.number_end-end.result
unfolding word_at
found c = rw (c.capital_of-address.ensures, c.number_end-end.ensures.0)

-- the word where its form is known, too
formed : (c : tie.After-number_end-end) {x : Address} → x ≡ form_of c.capital_of-address.result → {y : Address} → x ≡ y
    → addressed c.args.line.now c.capital_of-address.result y (c.args.p + 1) c.number_end-end.result
    ≡ word_at c.args.line.now c.args.p
formed c e h =
    let a = c.args in
    sym (found c ∙ ap (λ (y : Address). addressed a.line.now c.capital_of-address.result y (a.p + 1) c.number_end-end.result) (sym e ∙ h))

number_word_requires : tie.Need-number_word-requires
number_word_requires c κs =
    let i = c in
    let n = i in
    (subst (λ (x : Index). IndexIn x n.number_end-end.result) i.in-At.is i.index_of-index.ensures.1, n.number_end-end.ensures.2)

returns : tie.Need-returns-in-Bad
returns c =
    let o = c in
    let n = o in
    let a = n.args in
    let address = n.capital_of-address.result in
    (no_index a.line.now address (a.p + 1) n.number_end-end.result o.index_of-index.ensures.0 (form_of address) c.in-Bad.is ∙ sym (found n.before.before), tt)

returns_2 : tie.Need-returns-in-Unknown
returns_2 c =
    let f = c in
    (formed f.before.before.before.before f.form_of-known.ensures c.in-Unknown.is, tt)

returns_3 : tie.Need-returns-in-Known
returns_3 c =
    let k = c in
    let f = k in
    let i = f in
    let o = i in
    let n = o in
    let s = n in
    let a = s.args in
    word_by_lem a.line.now a.p s.requires
    (c.number_word.ensures
    ∙ by_index a.line.now n.capital_of-address.result (a.p + 1) n.number_end-end.result o.index_of-index.ensures.0 k.in-Known.form i.in-At.is
    ∙ formed n.before.before.before.before.before f.form_of-known.ensures k.in-Known.is)

pub word_at_spec : {M : Type 1} → statement M
word_at_spec =
    tie.close
    (tie.spec
    (λ c. search rules)
    (λ c κs. search rules)
    (λ c. search rules)
    (λ c κs. search rules)
    (λ c κs. search rules)
    (λ c. search rules)
    (λ c. search rules)
    (λ c κs. search rules)
    (λ c. search rules)
    (λ c. search rules)
    number_word_requires
    returns
    returns_2
    returns_3)
