-- `block::slot_of` meets its contract.
use mathlib.Core.Path.{◌≡◌, ap, sym, ◌∙◌}
use Prim.Native.Nat.{ℕ}
use native.Mathlib.Omega.{arith}
use Rattle.block.specs.declared.Slot.TheVariants.{At}
use Rattle.codes.specs.Codes.{g_code, m_code}
use Rattle.block.specs.Words.{code_slot, slot_of}
use Rattle.block.specs.Slots.{m_slot, p_slot, d_slot, g_slot}
use Rattle.block.proofs.Slots.{Not, slot_none}
use mir.Syntax.{w32}
use mir.Val.{to_z, of_z}
use lib.IntN.{nat_abs}
use borrow.Author.Rules.{rules}
use Rattle.block.proofs.slot_of.Statement.{statement}
use Rattle.block.proofs.slot_of.Tie as tie

-- the word's number, as the machine reads it back from its bits
same_value : (c : tie.After-struct_told-1) → to_z w32 (of_z w32 c.args.w.value) ≡ c.args.w.value
same_value c = search rules

same_value2 : (c : tie.After-struct_told-in-77-1) → to_z w32 (of_z w32 c.args.w.value) ≡ c.args.w.value
same_value2 c = search rules

returns : tie.Need-returns-in-88
unfolding slot_of
returns c = (rw c.in-88.is, omega arith)

returns_2 : tie.Need-returns-in-90
unfolding slot_of
returns_2 c = (rw c.in-90.is, omega arith)

returns_3 : tie.Need-returns-in-85
unfolding slot_of
returns_3 c = (rw c.in-85.is, omega arith)

returns_4 : tie.Need-returns-in-87
unfolding slot_of
returns_4 c = (rw c.in-87.is, omega arith)

returns_5 : tie.Need-returns-in-73
unfolding slot_of
returns_5 c = (rw c.in-73.is, omega arith)

returns_6 : tie.Need-returns-in-75
unfolding slot_of
returns_6 c = (rw c.in-75.is, omega arith)

returns_7 : tie.Need-returns-in-70
unfolding slot_of
returns_7 c = (rw c.in-70.is, omega arith)

returns_8 : tie.Need-returns-in-83
unfolding slot_of
returns_8 c = (rw c.in-83.is, omega arith)

returns_9 : tie.Need-returns-in-84
unfolding slot_of
returns_9 c = (rw c.in-84.is, omega arith)

returns_10 : tie.Need-returns-in-76
unfolding slot_of
returns_10 c = (rw c.in-76.is, omega arith)

returns_11 : tie.Need-returns-in-80
unfolding slot_of
returns_11 c = (rw c.in-80.is (ap (λ (n : ℕ). At (p_slot n)) c.from-index.ensures), omega arith)

returns_12 : tie.Need-returns-in-68
unfolding slot_of
returns_12 c = (rw c.in-68.is (ap (λ (n : ℕ). At (d_slot n)) c.from-index.ensures), omega arith)

returns_13 : tie.Need-returns-in-71
unfolding slot_of
returns_13 c = (
  c.g_slot.ensures.0 ∙ ap (λ (n : ℕ). code_slot (g_code n) g_slot) (c.magnitude.ensures ∙ ap nat_abs (same_value c.before.before))
      ∙ sym (rw c.in-71.is),
  c.g_slot.ensures.1,
)

returns_14 : tie.Need-returns-in-77
unfolding slot_of
returns_14 c = (
  c.m_slot.ensures.0 ∙ ap (λ (n : ℕ). code_slot (m_code n) m_slot) (c.magnitude-in-77.ensures ∙ ap nat_abs (same_value2 c.before.before))
      ∙ sym (rw c.in-77.is),
  c.m_slot.ensures.1,
)

returns_15 : tie.Need-returns-in-78
unfolding slot_of
returns_15 c = (rw c.in-78.is, tt)

returns_16 : tie.Need-returns-in_default
unfolding Not
returns_16 c = (sym (slot_none c.args.w (search rules) (search rules) (search rules) (search rules) (search rules) (search rules) (search rules) (search rules) (search rules) (search rules) (search rules) (search rules) (search rules) (search rules) (search rules)), tt)

pub slot_of_spec : {M : Type 1} → statement M
slot_of_spec =
    tie.close
    (tie.spec
    (λ c κs. search rules)
    (λ c. search rules)
    (λ c. search rules)
    (λ c κs. search rules)
    (λ c κs. search rules)
    (λ c κs. search rules)
    (λ c κs. search rules)
    returns
    returns_2
    returns_3
    returns_4
    returns_5
    returns_6
    returns_7
    returns_8
    returns_9
    returns_10
    returns_11
    returns_12
    returns_13
    returns_14
    returns_15
    returns_16)
