-- What is known of a table of places whose row of entries was filled from the lines of a tape. 02, request 8: "Prove that each finding equals the first layout's walk along the tape".
use Rattle.std.specs.Prelude.{◌≡◌, List, ℕ}
use Rattle.places.specs.Places.{Row, program_in, block_in}
use Rattle.places.specs.declared.Found.TheVariants.{At}
use Rattle.tape.specs.Lines.{lines}
use Rattle.finding.specs.Finding.{find_program, block_of_program}

-- EACH FINDING EQUALS THE WALK: of a program from the tape's first line on, and of a block from the line of its program on, which stands at q
pub record Finds (row tape : List ℕ) (first : ℕ) : Type 0 where
  pub ascends : Row row
  pub programs : (n : ℕ) → program_in n row ≡ find_program n (lines tape first)
  pub blocks : (p q n : ℕ) → find_program p (lines tape first) ≡ At q → block_in p n row ≡ block_of_program n tape q
