use borrow.Author.Rules.{rules}
use Rattle.passhand.proofs.Giving.{put_none, put_some}
use Rattle.passhand.proofs.put_behind.Goals as goal

pub returns-then-is_over-stops : goal.returns-then-is_over-stops
returns-then-is_over-stops g c =
    put_none c.args.due.now c.empty_words.result (g.C.HandsOut.due c.args.c) c.requires (search rules) c.is_over.ensures c.put_words.ensures c.if-is_over-stops.true c.empty_words.ensures

pub returns : goal.returns
returns g c =
    let made = c.words_of in
    put_some c.args.due.now made.result (g.C.HandsOut.due c.args.c) c.requires (search rules) c.is_over.ensures c.put_words-2.ensures c.if-is_over-stops.false made.ensures.0 made.ensures.1
