-- `verdicts::sending_of` meets its contract.
use mathlib.Core.Path.{◌∙◌}
use mir.Syntax.{w32}
use mir.Val.{SFits}
use mir.Facts.{to_z-of_z}
use borrow.Author.Rules.{rules}
use Rattle.verdicts.proofs.Sent.{numbers_of, stand_x, stand_z, offset_read_x, offset_read_z, sent_x, sent_z, sending_made}
use Rattle.verdicts.proofs.sending_of.Statement.{statement}
use Rattle.verdicts.proofs.sending_of.Tie as tie

offset_of_requires : tie.Need-offset_of-offset-requires
offset_of_requires c κs =
    let a = c.args in
    (c.requires.0, numbers_of a.table.now a.s a.b c.requires.0 c.requires.1 c.requires.2 c.requires.3)

target_x_requires : tie.Need-target_x-requires
target_x_requires c κs =
    let o = c in
    let s = o in
    let a = s.args in
    sent_x a.table.now a.s a.b s.requires.0 s.requires.1 s.requires.2 s.requires.3
    (offset_read_x a.table.now a.s a.b s.requires.0 s.requires.1 s.requires.2 s.requires.3 o.offset_of-offset.ensures)

target_z_requires : tie.Need-target_z-requires
target_z_requires c κs =
    let o = c in
    let s = o in
    let a = s.args in
    sent_z a.table.now a.s a.b s.requires.0 s.requires.1 s.requires.2 s.requires.3
    (offset_read_z a.table.now a.s a.b s.requires.0 s.requires.1 s.requires.2 s.requires.3 o.offset_of-offset.ensures)

-- the targets fit, by their type
x_fits : (c : tie.After-target_x) → SFits w32 c.target_x.result
x_fits c = search rules

z_fits : (c : tie.After-target_z) → SFits w32 c.target_z.result
z_fits c = search rules

returns : tie.Need-returns
returns c =
    let tz = c in
    let tx = tz in
    let o = tx in
    let s = o in
    let a = s.args in
    let table = a.table.now in
    sending_made table a.s a.b s.requires.0 s.requires.1 s.requires.2 s.requires.3 a.set
    (stand_x table a.s a.b s.requires.0 s.requires.1 s.requires.2 s.requires.3)
    (stand_z table a.s a.b s.requires.0 s.requires.1 s.requires.2 s.requires.3)
    (offset_read_x table a.s a.b s.requires.0 s.requires.1 s.requires.2 s.requires.3 o.offset_of-offset.ensures)
    (offset_read_z table a.s a.b s.requires.0 s.requires.1 s.requires.2 s.requires.3 o.offset_of-offset.ensures)
    (to_z-of_z (x_fits tx.before.before.before) ∙ tx.target_x.ensures) (to_z-of_z (z_fits tz.before) ∙ tz.target_z.ensures)

pub sending_of_spec : {M : Type 1} → statement M
sending_of_spec =
    tie.close (tie.spec offset_of_requires target_x_requires target_z_requires returns)
