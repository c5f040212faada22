-- `codes::g_code` meets its contract.
use mathlib.Core.Path.{sym}
use Rattle.codes.specs.Codes.{g_code}
use Rattle.codes.proofs.Tables.{past, shift_a_fits, shift_b_fits, cutting, revolution, shift_a, shift_b, none_low, none_middle, none_high}
use borrow.Author.Rules.{rules}
use Rattle.codes.proofs.g_code.Statement.{statement}
use Rattle.codes.proofs.g_code.Tie as tie

sub_t33 : tie.Need-overflow_sub-result
sub_t33 c = past _ 53 c.in-54-to-55.if-n-lt53-own.false (search rules)

add_t34 : tie.Need-overflow_add-result
add_t34 c = shift_a_fits _ c.in-54-to-55.if-n-lt56-own.true

sub_t36 : tie.Need-overflow_sub-result-in-57-to-59
sub_t36 c = past _ 56 c.in-57-to-59.if-n-lt56-own.false (search rules)

add_t37 : tie.Need-overflow_add-result-in-57-to-59
add_t37 c = shift_b_fits _ c.in-57-to-59.if-n-lt60-own.true

returns : tie.Need-returns-in-0
unfolding g_code
returns c = rw c.in-0.is

returns_2 : tie.Need-returns-in-1
unfolding g_code
returns_2 c = rw c.in-1.is

returns_3 : tie.Need-returns-in-2
unfolding g_code
returns_3 c = rw c.in-2.is

returns_4 : tie.Need-returns-in-3
unfolding g_code
returns_4 c = rw c.in-3.is

returns_5 : tie.Need-returns-in-33
unfolding g_code
returns_5 c = rw c.in-33.is

returns_6 : tie.Need-returns-in-4
unfolding g_code
returns_6 c = rw c.in-4.is

returns_7 : tie.Need-returns-in-84
unfolding g_code
returns_7 c = rw c.in-84.is

returns_8 : tie.Need-returns-in-85
unfolding g_code
returns_8 c = rw c.in-85.is

returns_9 : tie.Need-returns-in-86
unfolding g_code
returns_9 c = rw c.in-86.is

returns_10 : tie.Need-returns-in-87
unfolding g_code
returns_10 c = rw c.in-87.is

returns_11 : tie.Need-returns-in-88
unfolding g_code
returns_11 c = rw c.in-88.is

returns_12 : tie.Need-returns-in-53
unfolding g_code
returns_12 c = rw c.in-53.is

returns_13 : tie.Need-returns-in-56
unfolding g_code
returns_13 c = rw c.in-56.is

returns_14 : tie.Need-returns-in-25
unfolding g_code
returns_14 c = rw c.in-25.is

returns_15 : tie.Need-returns-in-27
unfolding g_code
returns_15 c = rw c.in-27.is

returns_16 : tie.Need-returns-in-71
unfolding g_code
returns_16 c = rw c.in-71.is

returns_17 : tie.Need-returns-in-54-to-55
returns_17 c = sym (shift_a _ c.in-54-to-55.if-n-lt53-own.false c.in-54-to-55.if-n-lt56-own.true (search rules))

returns_18 : tie.Need-returns-in-57-to-59
returns_18 c = sym (shift_b _ c.in-57-to-59.if-n-lt56-own.false c.in-57-to-59.if-n-lt60-own.true (search rules))

returns_19 : tie.Need-returns-in-94-to-95
returns_19 c = sym (revolution _ c.in-94-to-95.if-n-lt94-own.false c.in-94-to-95.if-n-lt96-own.true)

returns_20 : tie.Need-returns-in-96-to-97
returns_20 c = sym (cutting _ c.in-96-to-97.if-n-lt96-own.false c.in-96-to-97.if-n-lt98-own.true)

returns_21 : tie.Need-returns-in_default
returns_21 c = sym (none_low _ c.in_default.if-n-lt53-own.true (search rules) (search rules) (search rules) (search rules) (search rules) (search rules) (search rules) (search rules))

returns_22 : tie.Need-returns-in_default-2
returns_22 c = sym (none_middle _ c.in_default.if-n-lt60-own.false c.in_default.if-n-lt94-own.true (search rules) (search rules) (search rules) (search rules) (search rules) (search rules))

returns_23 : tie.Need-returns-in_default-3
returns_23 c = sym (none_high _ c.in_default.if-n-lt98-own.false)

pub g_code_spec : {M : Type 1} → statement M
g_code_spec =
    tie.close
    (tie.spec
    sub_t33
    add_t34
    sub_t36
    add_t37
    returns
    returns_2
    returns_3
    returns_4
    returns_5
    returns_6
    returns_7
    returns_8
    returns_9
    returns_10
    returns_11
    returns_12
    returns_13
    returns_14
    returns_15
    returns_16
    returns_17
    returns_18
    returns_19
    returns_20
    returns_21
    returns_22
    returns_23)
