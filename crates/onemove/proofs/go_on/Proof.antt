-- `onemove::go_on` meets its contract.
use mathlib.Core.Path.{◌≡◌, sym, ap, subst, ◌∙◌}
use mathlib.Core.Bool.{false}
use lib.ListN.{length}
use lib.Seq.{length-take-le}
use borrow.Author.Rules.{rules}
use borrow.Author.Tests.{not-true, not-false}
use Rattle.settings.specs.Points.{with_points}
use Rattle.settings.specs.declared.Settings.{Settings}
use Rattle.settings.specs.Wrong.{settings_wrong}
use Rattle.settings.specs.Known.{Right}
use Rattle.panel.proofs.Rows.{all_there}
use Rattle.settings.proofs.Right.{right, right_points}
use Rattle.telling.proofs.Tells.{told_no}
use Rattle.runbounds.specs.of_runwords.Taken.{going_of}
use Rattle.runbounds.proofs.Keeping.{kept_small}
use Rattle.runbounds.specs.of_paused.declared.Going.{Going}
use Rattle.runbounds.specs.of_paused.declared.Phase.TheVariants.{Running}
use Rattle.inhand.specs.State.{run_in}
use Rattle.onemove.specs.OneMove.{CanGoOn, CanTell}
use Rattle.onemove.proofs.Asking.{to_end, run_is, unfit_ask, wrong_ask, cannot_ask, turned_ask}
use Rattle.onemove.proofs.go_on.Statement.{statement}
use Rattle.onemove.proofs.go_on.Tie as tie

-- the run that the words have
module _ (k : tie.After-going_of-g) where
  abbrev begun : tie.Start
  begun = k.before.before.before.before.before.before.before.before.before.before.before

  is_run : k.going_of-g.result ≡ run_in begun.args.state.now
  is_run = k.going_of-g.ensures ∙ ap going_of (to_end begun.args.state.now 54) ∙ run_is begun.args.state.now

returns : tie.Need-returns-then-unfit
returns c =
    let s = c in
    let a = s.args in
    unfit_ask a.tape.now a.table.now a.settings.now a.places.now a.state.now a.«record».now s.requires.1 s.requires.2 (sym c.unfit.ensures ∙ c.if-unfit.true)

settings_of_requires : tie.Need-settings_of-set-requires
settings_of_requires c κs = all_there c.args.settings.now (sym c.unfit.ensures ∙ c.if-unfit.false)

returns_2 : tie.Need-returns-then-settings_wrong
returns_2 c =
    let s = c in
    let a = s.args in
    wrong_ask a.tape.now a.table.now a.settings.now a.places.now a.state.now a.«record».now s.requires.1 s.requires.2 c.settings_of-set.ensures
    (sym c.settings_wrong.ensures ∙ c.if-settings_wrong.true)

returns_3 : tie.Need-returns-then-not-can_go_on
returns_3 c =
    let k = c in
    let s = begun k.before.before in
    let a = s.args in
    cannot_ask a.tape.now a.table.now a.settings.now a.places.now a.state.now a.«record».now s.requires.1 s.requires.2 (is_run k.before.before)
    (told_no c.can_go_on.ensures c.if-not-can_go_on.true)

slice_aggregate_lines : tie.Need-slice_bounds-lines-end
slice_aggregate_lines c =
    let o = c in
    let k = o in
    let n = o.can_go_on.ensures.0 c.if-not-can_go_on.false in
    sym (length-take-le k.going_of-g.result.end (begun k.before.before.before).args.tape.now n.end)

-- what the turns are given
fine : (e : tie.Else-settings_wrong) → settings_wrong e.args.table.now e.settings_of-set.result ≡ false
fine e = sym e.settings_wrong.ensures ∙ e.if-settings_wrong.false

advance_requires : tie.Need-advance-turned-requires
advance_requires c κs =
    let o = c in
    let k = o in
    let s = begun k.before.before.before in
    let e = k in
    let n = o.can_go_on.ensures.0 c.if-not-can_go_on.false in
    let r = subst (λ (y : Settings). Right s.args.table.now y) (sym c.with_points-running.ensures) (right_points false (right s.args.table.now e.settings_of-set.result (fine e.before.before.before.before.before))) in (
      record {
        offsets = r.offsets;
        range = r.range;
        filled = n.filled;
        read = length-take-le k.going_of-g.result.end s.args.tape.now n.end;
        state = n.state;
        kept = n.kept;
      },
      ap (λ (g : Going). g.phase) (is_run k.before.before.before) ∙ s.requires.2,
    )

-- what can be asked of the words
can_tell : (x : tie.Else-not-can_go_on)
    → let a = (begun x.before.before).args in CanTell Running a.tape.now a.table.now a.settings.now a.places.now (run_in a.state.now)
can_tell x =
    let k = x in
    let a = (begun k.before.before).args in
    let e = k in
    let u = e in (
      sym u.unfit.ensures ∙ u.if-unfit.false,
      ap (settings_wrong a.table.now) (sym e.settings_of-set.ensures) ∙ fine e.before.before.before.before,
      subst (CanGoOn (length a.tape.now) (length a.places.now)) (is_run k.before.before) (x.can_go_on.ensures.0 x.if-not-can_go_on.false),
    )

give_first_requires : tie.Need-give_first-requires
give_first_requires c κs =
    let v = c.advance-turned in
    let s = c in
    (s.requires.0, s.requires.1, v.ensures.0.held, v.ensures.1, kept_small v.ensures.0.kept, s.requires.3)

returns_4 : tie.Need-returns
returns_4 c =
    let f = c.give_first in
    let v = c.advance-turned in
    let w = c in
    let k = c in
    let s = begun k.before.before.before.before.before.before.before.before.before.before.before in
    let a = s.args in
    turned_ask a.tape.now a.table.now a.settings.now a.places.now a.state.now a.«record».now s.requires.1 s.requires.2 s.requires.0 (can_tell c.before.before.before.before.before.before.before.before.before) (is_run k.before.before.before.before.before.before.before.before.before.before.before)
    (w.with_points-running.ensures ∙ ap (with_points false) c.settings_of-set.ensures) v.result v.ensures.0 f.result f.new.state f.new.record f.ensures

pub go_on_spec : {M : Type 1} → statement M
go_on_spec = tie.close (tie.spec (λ c κs. search rules) returns settings_of_requires (λ c κs. search rules) returns_2 (λ c. search rules) (λ c. search rules) (λ c. search rules) (λ c κs. search rules) (λ c κs. search rules) (λ c. search rules) returns_3 (λ c κs. search rules) slice_aggregate_lines advance_requires give_first_requires (λ c. search rules) (λ c. search rules) returns_4)
