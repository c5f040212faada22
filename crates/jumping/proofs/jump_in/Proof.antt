-- `jumping::jump_in` meets its contract.
use mathlib.Core.Path.{refl, sym, ap, ◌∙◌}
use mathlib.Core.Bool.{true, false}
use Prim.Native.Nat.{◌≤◌}
use lib.ListN.{length}
use borrow.Author.Rules.{rules}
use Rattle.numbers.specs.declared.NumberForm.TheVariants.{FiveDigits}
use Rattle.numbers.specs.Numbers.{number_of}
use Rattle.jumping.specs.Jumping.{to_by}
use Rattle.jumping.proofs.Texts.{front_long, jump_by, part_is}
use Rattle.jumping.proofs.jump_in.Statement.{statement}
use Rattle.jumping.proofs.jump_in.Tie as tie

long : (c : tie.Then-is_front) → 6 ≤ length c.args.text.now
long c = front_long c.args.text.now (sym c.is_front.ensures ∙ c.if-is_front.true)

sub_read_five_digits : tie.Need-slice_bounds-read_five_digits-count
sub_read_five_digits c = long c

part_read_five_digits_start : tie.Need-slice_bounds-read_five_digits-start
part_read_five_digits_start c = long c

returns : tie.Need-returns-then-is_front
returns c =
    let t = c in
    jump_by t.args.text.now true (sym t.is_front.ensures ∙ t.if-is_front.true)
    (c.to_by.ensures ∙ ap to_by (c.read_five_digits.ensures ∙ ap (number_of FiveDigits) (part_is t.args.text.now 6)))

returns_2 : tie.Need-returns
returns_2 c = jump_by c.args.text.now false (sym c.is_front.ensures ∙ c.if-is_front.false) refl

pub jump_in_spec : {M : Type 1} → statement M
jump_in_spec = tie.close (tie.spec (λ c κs. search rules) sub_read_five_digits part_read_five_digits_start (λ c. search rules) (λ c κs. search rules) (λ c κs. search rules) returns returns_2)
