-- `passes::open` meets its contract.
use mathlib.Core.Path.{◌≡◌, sym, ap, subst, ◌∙◌}
use Prim.Native.Nat.{ℕ}
use native.Mathlib.Omega.{arith}
use mir.Facts.{to_z-of_z}
use borrow.Author.Rules.{rules}
use Rattle.division.specs.Carried.{row_of}
use Rattle.division.specs.Division.{pieces}
use Rattle.axes.specs.Axis.{side, net}
use Rattle.passes.specs.declared.Cursor.{Cursor}
use Rattle.axes.specs.declared.Stage.TheVariants.{In}
use Rattle.turning.specs.Turning.{pass_count, row, turning}
use Rattle.passes.specs.Cursor.{rest_of, Sound}
use Rattle.turning.proofs.Asked.{long_enough}
use Rattle.turning.proofs.Counts.{Stands}
use Rattle.passes.proofs.Cursors.{opens}
use Rattle.turning.proofs.Turned.{some_passes}
use Rattle.passes.proofs.open.Statement.{statement}
use Rattle.passes.proofs.open.Tie as tie

-- asked at the function's entry, where `search` still reaches them
stands : (s : tie.Start) → Stands s.args.c.infeed
stands s = record { start = search rules; target = search rules }

-- ---- what the calls gave, of the cycle itself
the_side : (c : tie.After-side_of-side) → c.side_of-side.result ≡ side c.args.c.infeed
the_side c = c.side_of-side.ensures ∙ search rules

the_count : (c : tie.After-pass_count-n) → let s = c in c.pass_count-n.result ≡ pass_count (net s.args.c.infeed) s.args.c.division
the_count c =
    let s = c in
    c.pass_count-n.ensures ∙ ap (λ (e : ℕ). pass_count e s.args.c.division) c.net_of-e.ensures

pass_count_requires : tie.Need-pass_count-n-requires
pass_count_requires c κs = let s = c in omega (arith, c.net_of-e.ensures, (long_enough s.args.c s.requires).0)

divide_requires : tie.Need-divide-depths-requires
divide_requires c κs =
    let s = c in
    let k = s.args.c in
    omega (arith, the_count c, some_passes (net k.infeed) k.division (long_enough k s.requires).0)

returns : tie.Need-returns
returns c =
    let n = c in
    let e = n in
    let d = e in
    let p = d in
    let s = d in
    let k = s.args.c in
    let depths : row_of c.divide-depths.result ≡ row k = c.divide-depths.ensures ∙ (λ i. pieces (e.net_of-e.ensures i) (the_count n.before i)) in
    subst (λ (o : Cursor). (rest_of o ≡ turning k) × Sound o)
    (sym (λ i. record { pass = p.pass_of-pass.ensures i; side = the_side d.before.before.before i; line = to_z-of_z (stands s.before.before.before.before.before.before.before.before).start i; depths = c.divide-depths.result; stage = In }))
    (opens k c.divide-depths.result s.requires (stands s.before.before.before.before.before.before.before.before) depths)

pub open_spec : {M : Type 1} → statement M
open_spec =
    tie.close
    (tie.spec (λ c κs. search rules) (λ c κs. search rules) (λ c κs. search rules) pass_count_requires divide_requires returns)
