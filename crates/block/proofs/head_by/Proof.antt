-- `block::head_by` meets its contract.
use mathlib.Core.Logic.{inl, inr, ⊎_elim}
use mathlib.Core.Path.{◌≡◌, ap, sym, ◌∙◌}
use Rattle.block.specs.declared.Head.TheVariants.{ProgramLine, BlockLine, Other}
use Rattle.block.specs.Words.{is_program_address, head_by, number_in}
use Rattle.block.proofs.Slots.{Not, head_other}
use mir.Syntax.{w32}
use mir.Val.{to_z, of_z}
use lib.IntN.{nat_abs}
use borrow.Author.Rules.{rules}
use Rattle.block.proofs.head_by.Statement.{statement}
use Rattle.block.proofs.head_by.Tie as tie

-- the word's number, as the machine reads it back from its bits
same_value : (c : tie.After-struct_told-1) → to_z w32 (of_z w32 c.args.w.value) ≡ c.args.w.value
same_value c = search rules

number : (c : tie.After-magnitude-number) → c.magnitude-number.result ≡ number_in c.args.w
number c = c.magnitude-number.ensures ∙ ap nat_abs (same_value c.before)

magnitude_requires : tie.Need-magnitude-number-requires
magnitude_requires c κs = search rules

returns : tie.Need-returns-in-37
unfolding head_by is_program_address
returns c = ⊎_elim (λ e. rw e (ap ProgramLine (number c.before))) (λ e. rw e (ap ProgramLine (number c.before))) c.in-37.is

returns_2 : tie.Need-returns-in-78
unfolding head_by is_program_address
returns_2 c = rw c.in-78.is (ap BlockLine (number c.before))

returns_3 : tie.Need-returns-in_default
unfolding Not
returns_3 c =
    let m = c in
    let w = m.args.w in
    ap Other c.lacks_point.ensures ∙ sym (head_other w (λ e. m.in_default.in_default-own.rest.0.1 (inl e)) (λ e. m.in_default.in_default-own.rest.0.1 (inr e)) m.in_default.in_default-own.rest.1)

pub head_by_spec : {M : Type 1} → statement M
head_by_spec = tie.close (tie.spec magnitude_requires (λ c κs. search rules) returns returns_2 returns_3)
