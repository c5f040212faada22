-- `listing::lines::put_listing` meets its contract.
use borrow.Author.Rules.{rules}
use Rattle.listing.proofs.Made.{by_answer}
use Rattle.listing.proofs.lines.put_listing.Statement.{statement}
use Rattle.listing.proofs.lines.put_listing.Tie as tie

returns : tie.Need-returns-in-Complete
returns c = let p = c in let s = p in by_answer s.args.out.now s.args.list.now p.in-Complete.is p.put_list.ensures

returns_2 : tie.Need-returns-in-Alarm
returns_2 c = let p = c in let s = p in by_answer s.args.out.now s.args.list.now p.in-Alarm.is p.put_alarm.ensures

pub put_listing_spec : {M : Type 1} → statement M
put_listing_spec =
    tie.close
    (tie.spec
    (λ c. search rules)
    (λ c κs. search rules)
    (λ c. search rules)
    (λ c κs. search rules)
    (λ c. search rules)
    returns
    (λ c. search rules)
    returns_2)
