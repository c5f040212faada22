-- `packing::packed_answer` meets its contract.
use mathlib.Core.Path.{sym, ap, ◌∙◌}
use native.Mathlib.Omega.{arith}
use borrow.Author.Rules.{rules}
use Rattle.packing.specs.Packing.{answer_number}
use Rattle.packing.proofs.Packs.{packs, fits_by, packed_by}
use Rattle.packing.proofs.packed_answer.Statement.{statement}
use Rattle.packing.proofs.packed_answer.Tie as tie

packed_requires : tie.Need-packed-requires
packed_requires c κs = (omega arith, (fits_by c.in-Complete.is c.requires).count)

packed_requires_2 : tie.Need-packed-requires-in-Alarm
packed_requires_2 c κs = let f = fits_by c.in-Alarm.is c.requires in (f.place, f.count)

returns : tie.Need-returns-in-Complete
returns c =
    let e = c.in-Complete.is in
    (packed_by e (packs _ _ (fits_by e c.requires) (omega arith) c.packed.ensures), c.packed.ensures ∙ ap answer_number (sym e))

returns_2 : tie.Need-returns-in-Alarm
returns_2 c =
    let e = c.in-Alarm.is in
    (packed_by e (packs _ _ (fits_by e c.requires) (search rules) c.packed-in-Alarm.ensures), c.packed-in-Alarm.ensures ∙ ap answer_number (sym e))

pub packed_answer_spec : {M : Type 1} → statement M
packed_answer_spec =
    tie.close
    (tie.spec
    (λ c. search rules)
    packed_requires
    (λ c. search rules)
    packed_requires_2
    returns
    returns_2)
