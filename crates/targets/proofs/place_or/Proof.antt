-- `targets::place_or` meets its contract.
use borrow.Author.Rules.{rules, sfits_of}
use mathlib.Core.Path.{ap, sym, ◌∙◌}
use mir.Syntax.{w32}
use mir.Facts.{to_z-of_z}
use Rattle.whole.specs.declared.position.Placed.{Placed}
use Rattle.state.specs.Known.{place_or}
use Rattle.targets.proofs.place_or.Statement.{statement}
use Rattle.targets.proofs.place_or.Tie as tie

enum_known_placed : tie.Need-enum_known-placed
enum_known_placed c = search rules

enum_told : tie.Need-enum_told-1
enum_told c = search rules

returns : tie.Need-returns-in-At
returns c =
    let m = c in
    to_z-of_z (sfits_of {w = w32} {z = m.in-At.p.um} c.struct_told-1.given.0.1)
    ∙ sym (ap (λ (p : Placed). place_or p m.args.present) m.in-At.is)

returns_2 : tie.Need-returns-in-Outside
returns_2 c =
    let s = c in
    to_z-of_z s.ranges.present ∙ sym (ap (λ (p : Placed). place_or p s.args.present) c.in-Outside.is)

pub place_or_spec : {M : Type 1} → statement M
place_or_spec = tie.close (tie.spec enum_known_placed enum_told returns returns_2)
