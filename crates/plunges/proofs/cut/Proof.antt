-- `plunges::cut` meets its contract.
use mathlib.Core.Path.{ap, ◌∙◌}
use Prim.Native.Nat.{ℕ, ◌+◌}
use native.Mathlib.Omega.{arith}
use mir.Syntax.{w32}
use mir.Val.{SFits}
use mir.Facts.{to_z-of_z}
use borrow.Author.Rules.{rules, sfits_of}
use Rattle.axes.specs.Goes.{feed_to}
use Rattle.plunges.specs.Cursor.{after_cut}
use Rattle.plunges.proofs.Cursors.{is_ready, reaches, one_fewer, cuts_on}
use Rattle.plunges.proofs.cut.Statement.{statement}
use Rattle.plunges.proofs.cut.Tie as tie

-- asked at the function's entry, where `search` still reaches it
width_held : (s : tie.Start) → SFits w32 s.args.c.width
width_held s = search rules

hand_out_requires : tie.Need-hand_out-handed-requires
hand_out_requires c κs = let s = c in (is_ready s.args.c s.requires.0 s.requires.1, omega (arith, s.requires.0.reach, s.requires.0.far))

add_deep : tie.Need-overflow_add-deep
add_deep c =
    let h = c in
    let s = h in
    omega (arith, reaches s.args.c s.requires.0 h.hand_out-handed.result.rest h.hand_out-handed.ensures, s.requires.0.far)

deep_at_requires : tie.Need-deep_at-to-requires
deep_at_requires c κs =
    let h = c in
    let s = h in
    reaches s.args.c s.requires.0 h.hand_out-handed.result.rest h.hand_out-handed.ensures

returns : tie.Need-returns
returns c =
    let d = c in
    let h = d in
    let s = h in
    let k = s.args.c in
    let g = k.groove in
    let to = to_z-of_z (sfits_of {w = w32} d.deep_at-to.type_inv) ∙ d.deep_at-to.ensures in (
      cuts_on k s.requires.0 h.hand_out-handed.result.rest h.hand_out-handed.ensures s.requires.1 to
          (c.feed_to-record.ensures ∙ ap (feed_to g.facing g.f g.g95 _) (to_z-of_z (width_held s.before.before.before.before.before.before.before.before.before.before.before.before)))
          c.after_cut-stage.ensures
          (λ i. record { groove = g; stage = c.after_cut-stage.result; width = to_z-of_z (width_held s.before.before.before.before.before.before.before.before.before.before.before.before) i; deep = k.deep + h.hand_out-handed.result.piece; cuts = h.hand_out-handed.result.rest; plunge = k.plunge; steps = k.steps; several = k.several }),
      c.after_cut-stage.ensures ∙ ap (λ (n : ℕ). after_cut n g.dwell) (one_fewer k s.requires.0 h.hand_out-handed.result.rest h.hand_out-handed.ensures),
    )

pub cut_spec : {M : Type 1} → statement M
cut_spec =
    tie.close (tie.spec hand_out_requires add_deep deep_at_requires (λ c κs. search rules) (λ c κs. search rules) returns)
