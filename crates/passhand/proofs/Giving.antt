-- The next record of a cycle, whichever it is: what the words behind it stand for, and what was given.
-- Assumes nothing.
use mathlib.Core.Path.{◌≡◌, sym, ap, subst, ◌∙◌}
use mathlib.Core.Bool.{Bool, true, false, not, ◌&&◌}
use mathlib.Core.List.{List, ◌++◌, append-nil}
use Prim.Native.Nat.{ℕ, ◌+◌}
use native.Mathlib.Omega.{arith}
use lib.ListN.{length, drop_of_length-le}
use Rattle.octets.specs.Bytes.{laid}
use Rattle.moves.specs.Form.{record_bytes, listed}
use Rattle.moves.specs.declared.Record.{Record}
use Rattle.moves.specs.declared.Origin.{Origin}
use Rattle.stages.specs.Cursor.{cycle_over, DueSound, Sound, Makes}
use Rattle.stages.specs.declared.Due.{Due}
use Rattle.stages.specs.declared.Plan.{Plan}
use Rattle.cyclewords.specs.Sizes.{due_words}
use Rattle.handwords.specs.Due.{is_empty, is_deed, slot_of}
use Rattle.passhand.specs.declared.Gave.TheVariants.{Given}
use Rattle.passhand.specs.Gives.{is_cycle, has_next, Holds, Put, Gives}

-- ---- the words behind a record
-- words laid over all the others
over_all : (w x : List ℕ) → length w ≡ due_words → length x ≡ due_words → laid w 0 x ≡ x
unfolding laid
over_all w x l e = ap (λ (r : List ℕ). x ++ r) (drop_of_length-le w {i = 0 + length x} (omega arith)) ∙ append-nil x

module _ {t stops over : Bool} {v : List ℕ} (w x : List ℕ) (d : Due) (l : length w ≡ due_words) (e : length x ≡ due_words) (is : t ≡ cycle_over d) (put : v ≡ laid w 0 x) (tested : t && not stops ≡ over) where
  put_as : Holds over d x → Put stops d v
  put_as h =
      let all : v ≡ x = put ∙ over_all w x l e in
      record {
        holds = subst (Holds (cycle_over d && not stops) d) (sym all) (subst (λ (b : Bool). Holds b d x) (sym tested ∙ ap (λ (b : Bool). b && not stops) is) h);
        long = ap length all ∙ e;
      }

pub put_none : {t stops : Bool} {v : List ℕ} (w x : List ℕ) (d : Due) → length w ≡ due_words → length x ≡ due_words → t ≡ cycle_over d → v ≡ laid w 0 x → t && not stops ≡ true → is_empty x ≡ true → Put stops d v
put_none w x d l e is put tested none = put_as w x d l e is put tested none

pub put_some : {t stops : Bool} {v : List ℕ} (w x : List ℕ) (d : Due) → length w ≡ due_words → length x ≡ due_words → t ≡ cycle_over d → v ≡ laid w 0 x → t && not stops ≡ false → is_deed x ≡ true → slot_of x ≡ d → Put stops d v
put_some w x d l e is put tested deed slot = put_as w x d l e is put tested (deed, slot)

-- ---- a record is given
-- of a cycle e that was read as the cycle d of the words
module _ {d e : Due} {t : Bool} (o : Origin) (stops : Bool) (w b : List ℕ) (same : e ≡ d) (cycle : is_cycle e ≡ true) (is : t ≡ cycle_over e) where
  pub given : {made : Record} {behind : Due} {v c : List ℕ} → t ≡ false → DueSound e → is_cycle behind ≡ true → ((p : Plan) → Sound p e → Makes p e made behind)
      → c ≡ laid b 0 (record_bytes (listed o made)) → Put stops behind v → Gives (has_next d) d o stops w b Given v c
  given {made} {behind} {v} {c} tested sound on makes bytes put =
      subst
      (λ (x : Due). Gives (has_next x) x o stops w b Given v c)
      same
      ((λ i. cycle i && not ((sym is ∙ tested) i)), sound, record { made = made; behind = behind; cycle = on; makes = makes; bytes = bytes; put = put })
