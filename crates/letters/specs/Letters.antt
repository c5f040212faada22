-- The bytes of tapes and listings by their names.
use Rattle.std.specs.Prelude.{ℕ}

-- line feed, carriage return, space
abbrev pub lf : ℕ
lf = 10

abbrev pub cr : ℕ
cr = 13

abbrev pub space : ℕ
space = 32

-- % ( ) + - . =
abbrev pub percent : ℕ
percent = 37

abbrev pub opening : ℕ
opening = 40

abbrev pub closing : ℕ
closing = 41

abbrev pub plus_sign : ℕ
plus_sign = 43

abbrev pub minus_sign : ℕ
minus_sign = 45

abbrev pub point : ℕ
point = 46

abbrev pub equals : ℕ
equals = 61

-- the first and the last of the digits, which follow one another
abbrev pub digit_zero : ℕ
digit_zero = 48

abbrev pub digit_nine : ℕ
digit_nine = 57

-- capital letters
abbrev pub letter_d : ℕ
letter_d = 68

abbrev pub letter_f : ℕ
letter_f = 70

abbrev pub letter_g : ℕ
letter_g = 71

abbrev pub letter_i : ℕ
letter_i = 73

abbrev pub letter_k : ℕ
letter_k = 75

abbrev pub letter_l : ℕ
letter_l = 76

abbrev pub letter_m : ℕ
letter_m = 77

abbrev pub letter_n : ℕ
letter_n = 78

abbrev pub letter_o : ℕ
letter_o = 79

abbrev pub letter_p : ℕ
letter_p = 80

abbrev pub letter_s : ℕ
letter_s = 83

abbrev pub letter_t : ℕ
letter_t = 84

abbrev pub letter_u : ℕ
letter_u = 85

abbrev pub letter_w : ℕ
letter_w = 87

abbrev pub letter_x : ℕ
letter_x = 88

abbrev pub letter_z : ℕ
letter_z = 90
