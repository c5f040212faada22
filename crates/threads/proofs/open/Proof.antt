-- `threads::open` meets its contract.
use mathlib.Core.Path.{◌≡◌, sym, subst, ◌∙◌}
use mir.Syntax.{w32}
use mir.Facts.{to_z-of_z}
use borrow.Author.Rules.{rules, sfits_of}
use Rattle.axes.specs.Axis.{side}
use Rattle.threads.specs.declared.Cursor.{Cursor}
use Rattle.axes.specs.declared.Stage.TheVariants.{In}
use Rattle.threading.specs.Threading.{threading}
use Rattle.threads.specs.Cursor.{rest_of, Sound}
use Rattle.threading.proofs.Asked.{right}
use Rattle.threads.proofs.Cursors.{opens}
use Rattle.threads.proofs.open.Statement.{statement}
use Rattle.threads.proofs.open.Tie as tie

-- what the call gave, of the cycle itself
the_side : (c : tie.After-side_of-side) → c.side_of-side.result ≡ side c.args.t.infeed
the_side c = c.side_of-side.ensures ∙ search rules

open_requires : tie.Need-open-cuts-requires
open_requires c κs =
    let s = c in
    ((right s.args.t s.requires.1).proper, s.requires.0.d3, s.requires.0.d6)

returns : tie.Need-returns
returns c =
    let l = c in
    let d = l in
    let p = d in
    let s = p in
    let t = s.args.t in
    let line = to_z-of_z (sfits_of {w = w32} l.crest_of-line.type_inv) ∙ l.crest_of-line.ensures in
    subst (λ (o : Cursor). (rest_of o ≡ threading t) × Sound o)
    (sym (λ i. record { pass = p.pass_of-pass.ensures i; side = the_side d.before.before i; line = line i; depth = 0; cuts = c.open-cuts.result; empty = t.empty; stage = In }))
    (opens t c.open-cuts.result s.requires.0 s.requires.1 c.open-cuts.ensures.0 c.open-cuts.ensures.1)

pub open_spec : {M : Type 1} → statement M
open_spec =
    tie.close (tie.spec (λ c κs. search rules) (λ c κs. search rules) (λ c κs. search rules) open_requires returns)
