-- `block::is_end` meets its contract.
use mathlib.Core.Path.{◌≡◌, ap, ◌∙◌}
use mir.Syntax.{w32}
use mir.Val.{to_z, of_z}
use lib.IntN.{nat_abs}
use borrow.Author.Tests.{eq-eqb, ne_eqb}
use Rattle.letters.specs.Letters.{letter_m}
use Rattle.codes.specs.Codes.{m_code}
use Rattle.acts.specs.Acting.{ends_by}
use Rattle.block.specs.Words.{is_end}
use borrow.Author.Rules.{rules}
use Rattle.block.proofs.is_end.Statement.{statement}
use Rattle.block.proofs.is_end.Tie as tie

-- the word's number, as the machine reads it back from its bits
same_value : (c : tie.After-struct_told-1) → to_z w32 (of_z w32 c.args.w.value) ≡ c.args.w.value
same_value c = search rules

magnitude_requires : tie.Need-magnitude-n-requires
magnitude_requires c κs = search rules

m_code_requires : tie.Need-m_code-requires
m_code_requires c κs = search rules

ends_by_requires : tie.Need-ends_by-requires
ends_by_requires c κs = search rules

returns : tie.Need-returns-then-w-eq77
unfolding is_end
returns c =
    let m = c in
    let h = m in
    rw (eq-eqb h.args.w.address letter_m h.if-w-eq77.true)
    (c.ends_by.ensures ∙ ap ends_by (c.m_code.ensures ∙ ap m_code (m.magnitude-n.ensures ∙ ap nat_abs (same_value m.before.before.before))))

returns_2 : tie.Need-returns
unfolding is_end
returns_2 c = rw (ne_eqb c.args.w.address letter_m c.if-w-eq77.false)

pub is_end_spec : {M : Type 1} → statement M
is_end_spec =
    tie.close (tie.spec magnitude_requires m_code_requires ends_by_requires returns returns_2)
