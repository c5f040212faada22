-- The state at the start, with the settings of `listmoves`, is sound.
use Rattle.std.proofs.Common.{refl, sym, ap, ◌∙◌, subst, w32, to_z, of_z}
use Rattle.whole.specs.Position.{in_table}
use Rattle.panel.specs.Listmoves.{listmoves}
use Rattle.settings.specs.declared.Settings.{Settings}
use Rattle.state.specs.Modal.{at_start}
use Rattle.state.specs.Known.{Sound}
use Rattle.targets.proofs.Ranges.{start_sound}
use Rattle.trying.proofs.begin.Goals as goal

pub returns : goal.returns
unfolding in_table
returns c =
    let set = c.of_listmoves-set.ensures in
    let same = c.at_start.ensures ∙ ap (λ (s : Settings). at_start (to_z w32 (of_z w32 s.x)) (to_z w32 (of_z w32 s.z))) set in
    (subst Sound (sym same) (start_sound listmoves.x listmoves.z refl refl), refl)
