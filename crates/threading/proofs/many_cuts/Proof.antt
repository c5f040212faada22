-- `threading::many_cuts` meets its contract.
use mathlib.Core.Path.{sym, ap}
use Rattle.depths.specs.declared.Rule.{Rule}
use Rattle.threading.specs.Threading.{many_cuts}
use borrow.Author.Rules.{rules}
use Rattle.threading.proofs.many_cuts.Statement.{statement}
use Rattle.threading.proofs.many_cuts.Tie as tie

enum_told : tie.Need-enum_told-1
enum_told c = search rules

enum_told_2 : tie.Need-enum_told-in-EvenNumber
enum_told_2 c = search rules

enum_told_3 : tie.Need-enum_told-in-FallingDepth
enum_told_3 c = search rules

enum_told_4 : tie.Need-enum_told-in-FallingNumber
enum_told_4 c = search rules

returns : tie.Need-returns-in-EvenDepth
unfolding many_cuts
returns c = let s = c in ap (λ (r : Rule). many_cuts r s.args.d3 s.args.d6) (sym c.in-EvenDepth.is)

returns_2 : tie.Need-returns-in-EvenNumber
unfolding many_cuts
returns_2 c = let s = c in ap (λ (r : Rule). many_cuts r s.args.d3 s.args.d6) (sym c.in-EvenNumber.is)

returns_3 : tie.Need-returns-in-FallingDepth
unfolding many_cuts
returns_3 c = let s = c in ap (λ (r : Rule). many_cuts r s.args.d3 s.args.d6) (sym c.in-FallingDepth.is)

returns_4 : tie.Need-returns-in-FallingNumber
unfolding many_cuts
returns_4 c = let s = c in ap (λ (r : Rule). many_cuts r s.args.d3 s.args.d6) (sym c.in-FallingNumber.is)

pub many_cuts_spec : {M : Type 1} → statement M
many_cuts_spec =
    tie.close
    (tie.spec enum_told enum_told_2 enum_told_3 enum_told_4 returns returns_2 returns_3 returns_4)
