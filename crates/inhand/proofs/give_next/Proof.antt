-- `inhand::give_next` meets its contract.
use borrow.Author.Rules.{rules}
use mathlib.Core.Path.{◌≡◌, sym}
use lib.ListN.{length}
use Rattle.cyclewords.specs.Sizes.{due_words}
use Rattle.statewords.proofs.Parts.{length_due}
use Rattle.inhand.specs.State.{due_in}
use Rattle.inhand.proofs.Cycles.{Asked, cycle_gives, cycle_refuses, any_asked, any_gives}
use Rattle.inhand.proofs.give_next.Statement.{statement}
use Rattle.inhand.proofs.give_next.Tie as tie

-- the words of what is due are as many as they take
front : (s : tie.Start) → length (due_in s.args.state.now) ≡ due_words
front s = length_due s.args.state.now s.requires.0

slice_aggregate_give : tie.Need-slice_bounds-give-end-2
slice_aggregate_give c = sym (front c.before.before.before.before.before.before)

give_requires : tie.Need-give-gave-requires
give_requires c κs = let s = c in (front s.before.before.before.before.before.before.before, s.requires.2)

-- what was asked of the words of what is due
abbrev start : tie.After-give-gave → tie.Start
start g = g.before.before.before.before.before.before.before.before

asked : (g : tie.After-give-gave) → Asked (start g).args.state.now (start g).args.«record».now g.give-gave.result g.give-gave.new.due g.give-gave.new.record
asked g =
    let t = g in
    let o = t in
    let s = start g in
    record {
      long = s.requires.0;
      some = s.requires.1;
      origin = o.origin_of-origin.result;
      stops = t.stops_of-stops.result;
      from = o.origin_of-origin.ensures;
      stop = t.stops_of-stops.ensures;
      told = g.give-gave.ensures;
    }

abbrev give_at : tie.After-slice_known-4-1 → tie.After-give-gave
give_at k = k.before.before.before.before

returns : tie.Need-returns-in-Given
returns c = cycle_gives (asked (give_at c.before)) c.in-Given.is

returns_2 : tie.Need-returns-in-Unfit
returns_2 c = cycle_refuses (asked (give_at c.before)) c.in-Unfit.is

give_any_requires : tie.Need-give_any-requires
give_any_requires c κs =
    let t = c in
    let g = give_at t.before.before.before in
    any_asked (asked g) t.in-Other.is (start g).requires.2

returns_3 : tie.Need-returns-in-Other
returns_3 c =
    let any = c in
    let t = any in
    any_gives (asked (give_at t.before.before.before.before.before.before.before.before)) t.in-Other.is any.give_any.ensures

pub give_next_spec : {M : Type 1} → statement M
give_next_spec =
    tie.close
    (tie.spec
    (λ c. search rules)
    (λ c. search rules)
    (λ c. search rules)
    (λ c κs. search rules)
    (λ c κs. search rules)
    (λ c. search rules)
    slice_aggregate_give
    give_requires
    (λ c. search rules)
    (λ c. search rules)
    (λ c. search rules)
    give_any_requires
    (λ c. search rules)
    (λ c. search rules)
    returns
    (λ c. search rules)
    (λ c. search rules)
    returns_2
    (λ c. search rules)
    (λ c. search rules)
    returns_3)
