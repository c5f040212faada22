-- `plunging::put_end` meets its contract: the last cut, the dwell, the way out and the way across, each written behind the one before it.
use borrow.Author.Rules.{rules}
use mathlib.Core.Path.{◌≡◌, sym, ap, subst, ◌∙◌}
use mathlib.Core.List.{List}
use Prim.Native.Nat.{ℕ, ◌+◌, ◌-◌, ◌*◌, ◌^◌, ◌<◌, ◌≤◌}
use native.Mathlib.Omega.{arith}
use lib.ListN.{length}
use borrow.Rule.Slice.PartMut.{put_mid}
use Rattle.octets.proofs.Laying.{lent}
use Rattle.moves.specs.Form.{record_size, record_bytes, listed}
use Rattle.moves.specs.Written.{Written}
use Rattle.moves.proofs.Written.{none_written, one_written, written_on, written_room, left_room, left_few, written_length}
use Rattle.plunges.specs.Cursor.{rest_of, behind_cuts_at}
use Rattle.plunges.proofs.Cursors.{last_behind, over_before_cut, across_next}
use Rattle.plunging.proofs.put_end.Statement.{statement}
use Rattle.plunging.proofs.put_end.Tie as tie

-- ---- the last cut
abbrev start_of : tie.After-cut-last → tie.Start
start_of n = n.before.before

-- the buffer's length fits
held : (n : tie.After-cut-last) → length (start_of n).args.buf.now < 2 ^ 64
held n = search rules

cut_room : (n : tie.After-cut-last) → (let s = start_of n in s.args.first + record_size ≤ length s.args.buf.now)
cut_room n =
    let s = start_of n in
    written_room s.requires.3 (none_written s.args.origin s.args.buf.now s.args.first (rest_of s.args.c)) n.cut-last.result.«record» _ n.cut-last.ensures.0.first

abbrev cut_of : tie.After-put_record → tie.After-cut-last
cut_of p = p.before.before.before.before

abbrev behind_cut_lem : tie.After-put_record → List ℕ
behind_cut_lem p =
    let a = (start_of (cut_of p)).args in
    put_mid a.first (length a.buf.now - a.first) a.buf.now p.put_record.new.part

cut_written : (p : tie.After-put_record)
    → (let n = cut_of p in let a = (start_of n).args in
    Written a.origin a.buf.now a.first (rest_of a.c) (behind_cut_lem p) (rest_of n.cut-last.result.rest) (a.first + record_size))
cut_written p =
    let n = cut_of p in
    let s = start_of n in
    let r = n.cut-last.result.«record» in
    one_written s.requires.3 (none_written _ _ _ _) r _ n.cut-last.ensures.0.first
    (lent s.args.buf.now s.args.first (record_bytes (listed s.args.origin r)) p.put_record.new.part p.put_record.ensures)

-- ---- the dwell
abbrev wrote_cut : tie.After-put_dwell-rested → tie.After-put_record
wrote_cut n = n.before.before.before.before

dwell_written : (n : tie.After-put_dwell-rested)
    → (let a = (start_of (cut_of (wrote_cut n))).args in
    Written a.origin a.buf.now a.first (rest_of a.c) n.put_dwell-rested.new.buf (rest_of n.put_dwell-rested.result.rest) n.put_dwell-rested.result.at)
dwell_written n =
    let p = wrote_cut n in
    written_on (start_of (cut_of p)).requires.3 (cut_written p) n.put_dwell-rested.ensures.0.written

-- ---- the way out
abbrev dwell_of : tie.After-go_out-leaving → tie.After-put_dwell-rested
dwell_of n = n.before.before.before.before

out_room : (n : tie.After-go_out-leaving) → (let d = dwell_of n in d.put_dwell-rested.result.at + record_size ≤ length d.put_dwell-rested.new.buf)
out_room n =
    let d = dwell_of n in
    written_room (start_of (cut_of (wrote_cut d))).requires.3 (dwell_written d) n.go_out-leaving.result.«record» _ n.go_out-leaving.ensures.0.first

abbrev out_of : tie.After-put_record-2 → tie.After-go_out-leaving
out_of p = p.before.before.before.before

abbrev behind_out : tie.After-put_record-2 → List ℕ
behind_out p =
    let d = dwell_of (out_of p) in
    put_mid d.put_dwell-rested.result.at (length d.put_dwell-rested.new.buf - d.put_dwell-rested.result.at) d.put_dwell-rested.new.buf p.put_record-2.new.part

out_written : (p : tie.After-put_record-2)
    → (let n = out_of p in let d = dwell_of n in let a = (start_of (cut_of (wrote_cut d))).args in
    Written a.origin a.buf.now a.first (rest_of a.c) (behind_out p) (rest_of n.go_out-leaving.result.rest) (d.put_dwell-rested.result.at + record_size))
out_written p =
    let n = out_of p in
    let d = dwell_of n in
    let s = start_of (cut_of (wrote_cut d)) in
    let r = n.go_out-leaving.result.«record» in
    one_written s.requires.3 (dwell_written d) r _ n.go_out-leaving.ensures.0.first
    (lent d.put_dwell-rested.new.buf d.put_dwell-rested.result.at (record_bytes (listed s.args.origin r)) p.put_record-2.new.part p.put_record-2.ensures)

-- fewer records are left
fewer : (n : tie.After-go_out-leaving) → length (rest_of n.go_out-leaving.result.rest) < length (rest_of (start_of (cut_of (wrote_cut (dwell_of n)))).args.c)
fewer n =
    let d = dwell_of n in
    let p = wrote_cut d in
    let room = left_room (start_of (cut_of p)).requires.3 (cut_written p) in
    omega (arith, ap length (cut_of p).cut-last.ensures.0.first, left_few room d.put_dwell-rested.ensures.0.written, ap length n.go_out-leaving.ensures.0.first)

-- ---- the way across
abbrev wrote_out : tie.After-go_across-crossing → tie.After-put_record-2
wrote_out n = n.before.before.before.before.before

across_room : (n : tie.After-go_across-crossing) → (let d = dwell_of (out_of (wrote_out n)) in (d.put_dwell-rested.result.at + record_size) + record_size ≤ length (behind_out (wrote_out n)))
across_room n =
    let p = wrote_out n in
    written_room (start_of (cut_of (wrote_cut (dwell_of (out_of p))))).requires.3 (out_written p) n.go_across-crossing.result.«record» _ n.go_across-crossing.ensures.0.first

-- ---- the needs
cut_requires : tie.Need-cut-last-requires
cut_requires c κs = let s = c in (s.requires.0, s.requires.1)

sub_put_record : tie.Need-slice_bounds-put_record-count
sub_put_record c = omega (arith, cut_room c.before.before)

part_put_record_start : tie.Need-slice_bounds-put_record-start
part_put_record_start c = let h = cut_room c.before.before in search rules

part_put_record_end : tie.Need-slice_bounds-put_record-end
part_put_record_end c = let h = cut_room c.before.before in search rules

put_record_requires : tie.Need-put_record-requires
put_record_requires c κs = let h = cut_room c.before.before.before in search rules

add_put_dwell : tie.Need-overflow_add-first
add_put_dwell c = let h = cut_room (cut_of c.before.before.before) in search rules

put_dwell_requires : tie.Need-put_dwell-rested-requires
put_dwell_requires c κs =
    let p = c in
    let n = cut_of p.before.before.before in
    let s = start_of n in (
      n.cut-last.ensures.0.sound,
      ap behind_cuts_at n.cut-last.ensures.1 ∙ last_behind s.args.c s.requires.1 s.requires.2,
      left_room s.requires.3 (cut_written p.before.before.before),
    )

go_out_requires : tie.Need-go_out-leaving-requires
go_out_requires c κs = let d = c in (d.put_dwell-rested.ensures.0.sound, d.put_dwell-rested.ensures.1)

sub_put_record_2 : tie.Need-slice_bounds-put_record-count-2
sub_put_record_2 c = omega (arith, out_room c.before.before)

part_put_record_start_2 : tie.Need-slice_bounds-put_record-start-2
part_put_record_start_2 c = let h = out_room c.before.before in search rules

part_put_record_end_2 : tie.Need-slice_bounds-put_record-end-2
part_put_record_end_2 c = let h = out_room c.before.before in search rules

put_record_requires_2 : tie.Need-put_record-requires-2
put_record_requires_2 c κs = let h = out_room c.before.before.before in search rules

add_t27 : tie.Need-overflow_add-result
add_t27 c =
    let n = out_of c.before.before.before.before in
    let d = dwell_of n in
    omega (arith, out_room n, written_length (start_of (cut_of (wrote_cut d))).requires.3 (dwell_written d), held (cut_of (wrote_cut d)))

same_length : tie.Need-shape_of-buf-then-is_over
same_length c =
    let p = c in
    written_length (start_of (cut_of (wrote_cut (dwell_of (out_of p.before.before.before.before))))).requires.3 (out_written p.before.before.before.before)

returns : tie.Need-returns-then-is_over
returns c =
    let p = c in
    let n = out_of p.before.before.before.before in (
      record { written = out_written p.before.before.before.before; sound = n.go_out-leaving.ensures.0.sound },
      over_before_cut n.go_out-leaving.result.rest (sym c.is_over.ensures ∙ c.if-is_over.true),
      fewer n,
    )

go_across_requires : tie.Need-go_across-crossing-requires
go_across_requires c κs =
    let n = out_of c.before.before.before.before in
    (n.go_out-leaving.ensures.0.sound, across_next n.go_out-leaving.result.rest (dwell_of n).put_dwell-rested.result.rest.several n.go_out-leaving.ensures.1 (sym c.is_over.ensures ∙ c.if-is_over.false))

add_put_record : tie.Need-overflow_add-at
add_put_record c =
    let n = out_of (wrote_out c.before.before) in
    let d = dwell_of n in
    omega (arith, out_room n, written_length (start_of (cut_of (wrote_cut d))).requires.3 (dwell_written d), held (cut_of (wrote_cut d)))

sub_put_record_3 : tie.Need-slice_bounds-put_record-count-3
sub_put_record_3 c = omega (arith, across_room c.before.before)

part_put_record_start_3 : tie.Need-slice_bounds-put_record-start-3
part_put_record_start_3 c = let h = across_room c.before.before in search rules

part_put_record_end_3 : tie.Need-slice_bounds-put_record-end-3
part_put_record_end_3 c = let h = across_room c.before.before in search rules

put_record_requires_3 : tie.Need-put_record-requires-3
put_record_requires_3 c κs = let h = across_room c.before.before.before in search rules

abbrev across_of_lem : tie.After-slice_known-5-1 → tie.After-go_across-crossing
across_of_lem c = c.before.before.before.before.before.before

across_written : (c : tie.After-slice_known-5-1)
    → (let n = across_of_lem c in let p = wrote_out n in let d = dwell_of (out_of p) in let a = (start_of (cut_of (wrote_cut d))).args in let at = d.put_dwell-rested.result.at in
    Written a.origin a.buf.now a.first (rest_of a.c) (put_mid (at + record_size) (length (behind_out p) - (at + record_size)) (behind_out p) c.put_record-3.new.part) (rest_of n.go_across-crossing.result.rest) ((at + record_size) + record_size))
across_written c =
    let q = c in
    let n = across_of_lem c in
    let p = wrote_out n in
    let d = dwell_of (out_of p) in
    let s = start_of (cut_of (wrote_cut d)) in
    let r = n.go_across-crossing.result.«record» in
    one_written s.requires.3 (out_written p) r _ n.go_across-crossing.ensures.0.first
    (lent (behind_out p) (d.put_dwell-rested.result.at + record_size) (record_bytes (listed s.args.origin r)) q.put_record-3.new.part q.put_record-3.ensures)

add_t18 : tie.Need-overflow_add-result-2
add_t18 c =
    let n = across_of_lem c in
    let p = wrote_out n in
    omega (arith, across_room n, written_length (start_of (cut_of (wrote_cut (dwell_of (out_of p))))).requires.3 (out_written p), held (cut_of (wrote_cut (dwell_of (out_of p)))))

same_length_2 : tie.Need-shape_of-buf
same_length_2 c =
    let p = wrote_out (across_of_lem c) in
    written_length (start_of (cut_of (wrote_cut (dwell_of (out_of p))))).requires.3 (across_written c)

returns_2 : tie.Need-returns
returns_2 c =
    let n = across_of_lem c in
    let o = out_of (wrote_out n) in
    let at = (dwell_of o).put_dwell-rested.result.at in
    let two : (at + record_size) + record_size ≡ at + 2 * record_size = omega arith in (
      record { written = subst (Written _ _ _ _ _ _) two (across_written c); sound = n.go_across-crossing.ensures.0.sound },
      n.go_across-crossing.ensures.1,
      omega (arith, fewer o, ap length n.go_across-crossing.ensures.0.first),
    )

pub put_end_spec : {M : Type 1} → statement M
put_end_spec =
    tie.close
    (tie.spec
    cut_requires
    sub_put_record
    part_put_record_start
    part_put_record_end
    put_record_requires
    add_put_dwell
    put_dwell_requires
    go_out_requires
    sub_put_record_2
    part_put_record_start_2
    part_put_record_end_2
    put_record_requires_2
    (λ c κs. search rules)
    add_t27
    same_length
    returns
    go_across_requires
    add_put_record
    sub_put_record_3
    part_put_record_start_3
    part_put_record_end_3
    put_record_requires_3
    add_t18
    same_length_2
    returns_2)
