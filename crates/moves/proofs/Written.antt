-- The records of a row that are written, and those that are left: the loops that write.
-- Assumes nothing.
use mathlib.Core.Path.{◌≡◌, refl, sym, ap, subst, ◌∙◌}
use mathlib.Core.List.{List, [], ◌∷◌, ◌++◌, append_assoc, append-nil}
use Prim.Native.Nat.{ℕ, ◌+◌, ◌*◌, ◌≤◌, ◌<◌}
use native.Mathlib.Omega.{arith}
use lib.ListN.{length, length-append}
use Rattle.octets.specs.Bytes.{laid}
use Rattle.octets.proofs.Laying.{laid_nil, laid_on, length_laid}
use Rattle.moves.specs.declared.Record.{Record}
use Rattle.moves.specs.declared.Origin.{Origin}
use Rattle.moves.specs.Form.{record_size, record_bytes, listed, row_from}
use Rattle.moves.specs.Written.{Written}
use Rattle.moves.proofs.Rows.{length_from, from_none, from_one, from_append}

pub none_written : (o : Origin) (b₀ : List ℕ) (first : ℕ) (c : List Record) → Written o b₀ first c b₀ c first
none_written o b₀ first c = record { done = []; same = refl; place = omega arith; buffer = sym (ap (laid b₀ first) (from_none o) ∙ laid_nil b₀ first) }

module _ {o : Origin} {b₀ : List ℕ} {first : ℕ} {c : List Record} (room : first + record_size * length c ≤ length b₀) {b : List ℕ} {now : List Record} {at : ℕ} (w : Written o b₀ first c b now at) where
  count : length c ≡ length w.done + length now
  count = ap length w.same ∙ length-append w.done now

  pub left_few : length now ≤ length c
  left_few = omega (arith, count)

  pub written_length : length b ≡ length b₀
  written_length = ap length w.buffer ∙ length_laid b₀ first (row_from o w.done) (omega (arith, length_from o w.done, count, room))

  -- some records more
  module _ (rs rest : List Record) (e : now ≡ rs ++ rest) where
    more : length now ≡ length rs + length rest
    more = ap length e ∙ length-append rs rest

    pub some_less : 0 < length rs → length rest < length now
    some_less h = omega (arith, more, h)

    pub some_room : at + record_size * length rs ≤ length b
    some_room = omega (arith, written_length, w.place, count, more, room)

    pub some_written : {u : List ℕ} → u ≡ laid b at (row_from o rs) → Written o b₀ first c u rest (at + record_size * length rs)
    some_written h = record {
      done = w.done ++ rs;
      same = w.same ∙ ap (λ (l : List Record). w.done ++ l) e ∙ sym (append_assoc w.done rs rest);
      place = omega (arith, w.place, length-append w.done rs);
      buffer = h ∙ (λ i. laid (w.buffer i) at (row_from o rs))
          ∙ laid_on b₀ first (row_from o w.done) (row_from o rs) at (omega (arith, w.place, length_from o w.done)) (omega (arith, w.place, count, more, room))
          ∙ ap (laid b₀ first) (sym (from_append o w.done rs));
    }

  -- all that are left have room, and some of them may be written by a loop of their own
  pub left_room : at + record_size * length now ≤ length b
  left_room = some_room now [] (sym (append-nil now))

  pub written_on : {u : List ℕ} {rest : List Record} {to : ℕ} → Written o b at now u rest to → Written o b₀ first c u rest to
  written_on {u} {rest} v = subst (Written o b₀ first c u rest) (sym v.place) (some_written v.done rest v.same v.buffer)

  -- one record more
  module _ (r : Record) (rest : List Record) (e : now ≡ r ∷ rest) where
    pub rest_less : length rest < length now
    rest_less = some_less (r ∷ []) rest e (omega arith)

    pub written_room : at + record_size ≤ length b
    written_room = some_room (r ∷ []) rest e

    pub one_written : {u : List ℕ} → u ≡ laid b at (record_bytes (listed o r)) → Written o b₀ first c u rest (at + record_size)
    one_written h = some_written (r ∷ []) rest e (h ∙ ap (laid b at) (from_one o r))

  pub all_written : now ≡ [] → b ≡ laid b₀ first (row_from o c)
  all_written e = w.buffer ∙ ap (λ (l : List Record). laid b₀ first (row_from o l)) (sym (w.same ∙ ap (λ (l : List Record). w.done ++ l) e ∙ append-nil w.done))

  pub written_end : now ≡ [] → at ≡ first + record_size * length c
  written_end e = omega (arith, w.place, count, ap length e)
