-- `tape::line::line_at` meets its contract.
-- The line by the feed that was found; its bounds are a law of `line_at`.
use borrow.Author.Rules.{rules}
use borrow.Author.Tests.{eq-eqb, ne_eqb, lt-ltb, le-ltb}
use Rattle.tape.specs.Lines.{line_at}
use Rattle.tape.proofs.Lining.{line_by}
use Rattle.tape.proofs.line.line_at.Statement.{statement}
use Rattle.tape.proofs.line.line_at.Tie as tie

returns : tie.Need-returns-then-feed-tape
unfolding line_at
returns c =
    let a = c.args in
    line_by a.tape.now a.from c.requires
    (rw (← c.find_line_feed-feed.ensures.0, le-ltb _ _ c.if-feed-tape.true))

returns_2 : tie.Need-returns-then-from-feed
unfolding line_at
returns_2 c =
    let a = c.args in
    line_by a.tape.now a.from c.requires
    (rw (← c.find_line_feed-feed.ensures.0, lt-ltb _ _ c.if-feed-tape.false, le-ltb _ _ c.if-from-feed.true))

returns_3 : tie.Need-returns-then-tape-feed-eq13
unfolding line_at
returns_3 c =
    let o = c in
    let a = o.args in
    line_by a.tape.now a.from o.requires
    (rw (← o.find_line_feed-feed.ensures.0, lt-ltb _ _ o.if-feed-tape.false, lt-ltb _ _ c.if-from-feed.false, eq-eqb _ _ c.if-tape-feed-eq13.true))

returns_4 : tie.Need-returns
unfolding line_at
returns_4 c =
    let o = c in
    let a = o.args in
    line_by a.tape.now a.from o.requires
    (rw (← o.find_line_feed-feed.ensures.0, lt-ltb _ _ o.if-feed-tape.false, lt-ltb _ _ c.if-from-feed.false, ne_eqb _ _ c.if-tape-feed-eq13.false))

pub line_at_spec : {M : Type 1} → statement M
line_at_spec =
    tie.close
    (tie.spec
    (λ c κs. search rules)
    returns
    (λ c. search rules)
    returns_2
    (λ c. search rules)
    (λ c. search rules)
    (λ c. search rules)
    (λ c. search rules)
    returns_3
    (λ c. search rules)
    returns_4)
