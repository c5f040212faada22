-- `moves::list::put_record` meets its contract.
use borrow.Author.Rules.{rules}
use mathlib.Core.Path.{◌≡◌, ap, ◌∙◌}
use mathlib.Core.List.{List, [], ◌∷◌}
use Prim.Native.Nat.{ℕ, ◌+◌, ◌*◌, ◌^◌, ◌<◌}
use lib.ListN.{get_or}
use mir.Syntax.{w32}
use mir.Val.{SFits, to_z, of_z}
use Rattle.moves.proofs.Writing.{record_laid}
use Rattle.moves.specs.Form.{origin_bytes}
use Rattle.octets.specs.Bytes.{little_endian, word_of, laid}
use Rattle.moves.proofs.list.put_record.Statement.{statement}
use Rattle.moves.proofs.list.put_record.Tie as tie

-- X and Z as the machine reads them back from their bits, and what is known of the numbers
same_x : (c : tie.After-struct_told-1) → to_z w32 (of_z w32 c.args.what.x) ≡ c.args.what.x
same_x c = search rules

same_z_lem : (c : tie.After-struct_told-2-1) → to_z w32 (of_z w32 c.args.what.z) ≡ c.args.what.z
same_z_lem c = search rules

kind_held : (s : tie.Start) → s.args.what.kind < 256
kind_held s = search rules

flags_held : (s : tie.Start) → s.args.what.flags < 256
flags_held s = search rules

z_held : (s : tie.Start) → SFits w32 s.args.what.z
z_held s = search rules

returns : tie.Need-returns
unfolding origin_bytes
returns c =
    let p3 = c in
    let p2 = p3 in
    let j2 = p2 in
    let p1 = j2 in
    let j1 = p1 in
    let n = j1 in
    let p = n in
    let z = p in
    let x = z in
    let k = x in
    let s = k in
    let o = s.args.origin in
    let w = s.args.what in
    let tail : List ℕ = origin_bytes o in
    let back : List ℕ = little_endian 8 (word_of w.z + 2 ^ 32 * w.value) in
    p3.put_four.ensures
    ∙ (λ i. laid (p2.put_eight-2.ensures i) 16
    (get_or (p.bytes_of_u16-program.ensures i) 0 0 ∷ get_or (p.bytes_of_u16-program.ensures i) 1 0 ∷ get_or (n.bytes_of_u16-block.ensures i) 0 0 ∷ get_or (n.bytes_of_u16-block.ensures i) 1 0 ∷ []))
    ∙ (λ i. laid (laid (p1.put_eight.ensures i) 8 (little_endian 8 (j2.joined-2.ensures i))) 16 tail)
    ∙ (λ i. laid (laid (laid s.args.part.now 0 (little_endian 8 (j1.joined.ensures i))) 8 (little_endian 8 ((z.word_of-z.ensures ∙ ap word_of (same_z_lem z.before.before.before.before.before.before.before.before.before.before.before.before.before.before.before.before.before)) i + 2 ^ 32 * w.value))) 16 tail)
    ∙ (λ i. laid (laid (laid s.args.part.now 0 (little_endian 8 (k.u32_of_bytes-kind.ensures i + 2 ^ 32 * (x.word_of-x.ensures ∙ ap word_of (same_x x.before.before.before.before.before.before.before.before.before.before.before.before.before.before.before.before.before.before.before)) i))) 8 back) 16 tail)
    ∙ record_laid s.args.part.now w o (kind_held s.before.before.before.before.before.before.before.before.before.before.before.before.before.before.before.before.before.before.before.before.before.before) (flags_held s.before.before.before.before.before.before.before.before.before.before.before.before.before.before.before.before.before.before.before.before.before.before) (z_held s.before.before.before.before.before.before.before.before.before.before.before.before.before.before.before.before.before.before.before.before.before.before) s.requires

pub put_record_spec : {M : Type 1} → statement M
put_record_spec =
    tie.close
    (tie.spec
    (λ c κs. search rules)
    (λ c κs. search rules)
    (λ c κs. search rules)
    (λ c κs. search rules)
    (λ c κs. search rules)
    (λ c κs. search rules)
    (λ c κs. search rules)
    (λ c κs. search rules)
    (λ c κs. search rules)
    (λ c. search rules)
    (λ c. search rules)
    (λ c. search rules)
    (λ c. search rules)
    (λ c κs. search rules)
    (λ c. search rules)
    returns)
