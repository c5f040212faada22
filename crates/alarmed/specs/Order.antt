-- AN ORDER OF ALARMS is a list of rows, an alarm's number and its test. The first test that says yes gives the alarm.
use Rattle.std.specs.Prelude.{◌≡◌, Bool, true, false, List, [], ◌∷◌, ℕ}

pub record Row (A : Type 0) : Type 0 where
  pub number : ℕ
  pub test : A → Bool

abbrev pub row : {A : Type 0} → ℕ → (A → Bool) → Row A
row n t = record { number = n; test = t }

-- no test says yes of x
pub data Passes {A : Type 0} (x : A) : List (Row A) → Type 0 where
  none : Passes x []
  no : {r : Row A} {rs : List (Row A)} → r.test x ≡ false → Passes x rs → Passes x (r ∷ rs)

-- the first test that says yes of x is that of the alarm n
pub data Refused {A : Type 0} (x : A) (n : ℕ) : List (Row A) → Type 0 where
  yes : {r : Row A} {rs : List (Row A)} → r.test x ≡ true → n ≡ r.number → Refused x n (r ∷ rs)
  later : {r : Row A} {rs : List (Row A)} → r.test x ≡ false → Refused x n rs → Refused x n (r ∷ rs)
