-- THE NEXT RECORD OF A CYCLE that words stand for, and what they stand for behind it.
use Rattle.std.specs.Prelude.{◌≡◌, Bool, true, false, not, ◌&&◌, List, ℕ, length}
use Rattle.octets.specs.Bytes.{laid}
use Rattle.moves.specs.Form.{record_bytes, listed}
use Rattle.moves.specs.declared.Record.{Record}
use Rattle.moves.specs.declared.Origin.{Origin}
use Rattle.stages.specs.Cursor.{cycle_over, DueSound, Sound, Makes}
use Rattle.stages.specs.declared.Due.{Due}
use Rattle.stages.specs.declared.Due.TheVariants.{Turning, Threading, Grooving, Drilling, Single}
use Rattle.stages.specs.declared.Plan.{Plan}
use Rattle.cyclewords.specs.Sizes.{due_words}
use Rattle.handwords.specs.Due.{is_empty, is_deed, slot_of}
use Rattle.passhand.specs.declared.Gave.{Gave}
use Rattle.passhand.specs.declared.Gave.TheVariants.{Given, Unfit, Other}

-- a cycle, and one that has a record left
abbrev pub is_cycle : Due → Bool
is_cycle (Turning c) = true
is_cycle (Threading c) = true
is_cycle (Grooving c) = true
is_cycle (Drilling c) = true
is_cycle (Single k) = false

abbrev pub has_next : Due → Bool
has_next d = is_cycle d && not (cycle_over d)

-- words in which such a cycle is due
abbrev pub has_next_in : List ℕ → Bool
has_next_in w = is_deed w && has_next (slot_of w)

-- ---- what the contracts say
-- words that have what is due, or nothing where the block is over (true)
abbrev pub Holds : Bool → Due → List ℕ → Type 0
Holds true d v = is_empty v ≡ true
Holds false d v = (is_deed v ≡ true) × (slot_of v ≡ d)

-- a cycle was put into words: the block is over where the cycle is, and M00 or M30 does not stand behind it
pub record Put (stops : Bool) (d : Due) (v : List ℕ) : Type 0 where
  pub holds : Holds (cycle_over d && not stops) d v
  pub long : length v ≡ due_words

-- a record was laid, the next of the cycle whatever its block's plan, and the cycle was put as it stands behind that record
pub record Laid (d : Due) (o : Origin) (stops : Bool) (b v c : List ℕ) : Type 0 where
  pub made : Record
  pub behind : Due
  pub cycle : is_cycle behind ≡ true
  pub makes : (p : Plan) → Sound p d → Makes p d made behind
  pub bytes : c ≡ laid b 0 (record_bytes (listed o made))
  pub put : Put stops behind v

-- of a cycle d in words w, and whether it has a record left: the answer, the words v and the bytes c. A record is laid where one is left and the cycle is sound; else nothing is done
abbrev pub Gives : Bool → Due → Origin → Bool → List ℕ → List ℕ → Gave → List ℕ → List ℕ → Type 0
Gives goes d o stops w b Given v c = (goes ≡ true) × DueSound d × Laid d o stops b v c
Gives goes d o stops w b Unfit v c = (goes ≡ true) × (DueSound d → ⊥) × (v ≡ w) × (c ≡ b)
Gives goes d o stops w b Other v c = (goes ≡ false) × (v ≡ w) × (c ≡ b)
