-- `plunging::put_dwell` meets its contract.
use borrow.Author.Rules.{rules}
use borrow.Author.Tests.{not-true, not-false}
use mathlib.Core.Path.{sym, ◌∙◌}
use Prim.Native.Nat.{◌+◌, ◌≤◌}
use lib.ListN.{length}
use Rattle.octets.proofs.Laying.{lent}
use Rattle.moves.specs.Form.{record_size, record_bytes, listed}
use Rattle.moves.proofs.Written.{none_written, one_written, written_room}
use Rattle.plunges.specs.Cursor.{rest_of}
use Rattle.plunges.proofs.Cursors.{dwell_next, out_next}
use Rattle.plunging.proofs.put_dwell.Statement.{statement}
use Rattle.plunging.proofs.put_dwell.Tie as tie

returns : tie.Need-returns-then-not-is_before_dwell
returns c =
    let s = c in
    (record { written = none_written _ _ _ _; sound = s.requires.0 }, out_next s.args.c s.requires.1 (sym c.is_before_dwell.ensures ∙ c.if-not-is_before_dwell.true))

dwell_requires : tie.Need-dwell-dwelling-requires
dwell_requires c κs =
    let s = c in
    (s.requires.0, dwell_next s.args.c (sym c.is_before_dwell.ensures ∙ c.if-not-is_before_dwell.false))

has_room : (d : tie.After-dwell-dwelling) → (let s = d in s.args.first + record_size ≤ length s.args.buf.now)
has_room d =
    let s = d in
    written_room s.requires.2 (none_written s.args.origin s.args.buf.now s.args.first (rest_of s.args.c)) d.dwell-dwelling.result.«record» _ d.dwell-dwelling.ensures.0.first

put_record_requires : tie.Need-put_record-requires
put_record_requires c κs = let h = has_room c.before.before.before in search rules

returns_2 : tie.Need-returns
returns_2 c =
    let p = c in
    let d = p in
    let s = d in
    let r = d.dwell-dwelling.result.«record» in (
      record {
        written = one_written s.requires.2 (none_written _ _ _ _) r _ d.dwell-dwelling.ensures.0.first
            (lent s.args.buf.now s.args.first (record_bytes (listed s.args.origin r)) p.put_record.new.part p.put_record.ensures);
        sound = d.dwell-dwelling.ensures.0.sound;
      },
      d.dwell-dwelling.ensures.1,
    )

pub put_dwell_spec : {M : Type 1} → statement M
put_dwell_spec =
    tie.close
    (tie.spec
    (λ c κs. search rules)
    returns
    dwell_requires
    (λ c. search rules)
    (λ c. search rules)
    (λ c. search rules)
    put_record_requires
    (λ c. search rules)
    (λ c. search rules)
    returns_2)
