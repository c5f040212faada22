-- `ahead::jumped_to` meets its contract.
use mathlib.Core.Path.{sym, ap}
use borrow.Author.Rules.{rules}
use Rattle.places.specs.declared.Found.{Found}
use Rattle.ahead.specs.Ahead.{jumped_to}
use Rattle.ahead.proofs.jumped_to.Statement.{statement}
use Rattle.ahead.proofs.jumped_to.Tie as tie

enum_told : tie.Need-enum_told-1
enum_told c = search rules

enum_known_found : tie.Need-enum_known-found
enum_known_found c = search rules

returns : tie.Need-returns-in-Nowhere
unfolding jumped_to
returns c = ap (λ (f : Found). jumped_to f c.args.frame) (sym c.in-Nowhere.is)

returns_2 : tie.Need-returns-in-At
unfolding jumped_to
returns_2 c = ap (λ (f : Found). jumped_to f c.args.frame) (sym c.in-At.is)

pub jumped_to_spec : {M : Type 1} → statement M
jumped_to_spec = tie.close (tie.spec enum_told enum_known_found returns returns_2)
