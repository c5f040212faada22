-- `cuts::next` meets its contract.
use borrow.Author.Rules.{rules}
use Rattle.cuts.proofs.Opened.{makes_by_depth, makes_by_number, some_even, some_by_depth, some_by_number, sound_of, going_of, makes_of}
use Rattle.cuts.proofs.next.Statement.{statement}
use Rattle.cuts.proofs.next.Tie as tie

next_even_requires : tie.Need-next_even-requires
next_even_requires c κs =
    let m = c in
    let s = m in
    let is = m.in-Even.is in
    (sound_of s.args.depth is s.requires.0, some_even m.in-Even.p (going_of s.args.depth is s.requires.1))

one_more_requires : tie.Need-one_more-more-requires
one_more_requires c κs =
    let m = c in
    let s = m in
    let is = m.in-ByDepth.is in
    (sound_of s.args.depth is s.requires.0, some_by_depth m.in-ByDepth.f (going_of s.args.depth is s.requires.1))

one_more_requires_2 : tie.Need-one_more-more-requires-in-ByNumber
one_more_requires_2 c κs =
    let m = c in
    let s = m in
    let is = m.in-ByNumber.is in
    ((sound_of s.args.depth is s.requires.0).1, some_by_number m.in-ByNumber.f (going_of s.args.depth is s.requires.1))

root_shared_requires : tie.Need-root_shared-reached-requires
root_shared_requires c κs = let m = c in let s = m in (sound_of s.args.depth m.in-ByNumber.is s.requires.0).0

returns : tie.Need-returns-in-Even
returns c = let m = c in makes_of m.args.depth m.in-Even.is c.next_even.ensures

returns_2 : tie.Need-returns-in-ByDepth
returns_2 c =
    let m = c in
    let s = m in
    let is = m.in-ByDepth.is in
    let f = m.in-ByDepth.f in
    let x = s.args.depth in
    makes_of x is (makes_by_depth f (sound_of x is s.requires.0) (some_by_depth f (going_of x is s.requires.1)) x c.one_more-more.ensures c.root_up_to-reached.ensures)

returns_3 : tie.Need-returns-in-ByNumber
returns_3 c =
    let m = c in
    let s = m in
    let is = m.in-ByNumber.is in
    let f = m.in-ByNumber.f in
    let x = s.args.depth in
    let g = sound_of x is s.requires.0 in
    makes_of x is (makes_by_number f g.1 (some_by_number f (going_of x is s.requires.1)) x g.0 c.one_more-more-in-ByNumber.ensures c.root_shared-reached.ensures)

pub next_spec : {M : Type 1} → statement M
next_spec =
    tie.close
    (tie.spec
    (λ c. search rules)
    next_even_requires
    (λ c. search rules)
    one_more_requires
    (λ c κs. search rules)
    (λ c. search rules)
    one_more_requires_2
    root_shared_requires
    returns
    returns_2
    returns_3)
