-- `taking::quiet::meet_block` meets its contract.
use mathlib.Core.Path.{◌≡◌, sym, ap, ◌∙◌, subst}
use mathlib.Core.List.{List}
use Prim.Native.Nat.{ℕ, ◌+◌, ◌-◌, ◌≤◌, ◌<◌}
use native.Mathlib.Omega.{arith}
use lib.ListN.{length, take, drop}
use borrow.Author.Rules.{rules}
use Rattle.tape.specs.Lines.{lines}
use Rattle.finding.specs.Finding.{first_block}
use Rattle.finding.specs.declared.BlockAt.{BlockAt}
use Rattle.taking.specs.declared.quiet.Met.{Met}
use Rattle.taking.specs.Meets.{Next, met_by, met_at, met_in, met_from, JumpMeets}
use Rattle.taking.proofs.Lines.{not_none, found_none, found_next, met_is, none_left, met_bare, met_text, behind_number, bare_told, jump_met}
use Rattle.taking.proofs.quiet.meet_block.Statement.{statement}
use Rattle.taking.proofs.quiet.meet_block.Tie as tie

-- the block line that was found
module _ (x : tie.In-At) where
  abbrev begun : tie.Start
  begun = x.before.before.before

  abbrev line : BlockAt
  line = x.in-At.line

  -- what is known of it, and how the step is met by it
  found : Next begun.args.tape.now begun.args.from line
  found = let n = x in found_next begun.args.tape.now begun.args.from n.next_block-next.ensures.0 n.next_block-next.ensures.1 x.in-At.is

  same : {r : Met} → r ≡ met_at begun.args.tape.now begun.args.left line → r ≡ met_from begun.args.tape.now begun.args.from begun.args.left
  same h =
      let a = begun.args in
      met_is a.tape.now a.from a.left x.next_block-next.ensures.0 (h ∙ sym (ap (met_in a.tape.now a.left) x.in-At.is))

-- blocks are left to begin
some : (e : tie.Else-left-eq0) → 0 < (begun e.before).args.left
some e = not_none (begun e.before).args.left e.if-left-eq0.false

returns : tie.Need-returns-then-left-eq0
returns c = let x = c in (same x.before (none_left (begun x.before).args.tape.now (begun x.before).args.left (line x.before) c.if-left-eq0.true), found x.before)

add_if2 : tie.Need-overflow_add-at
add_if2 c =
    let x = c in
    let k = (found x.before.before).known in
    let h : (line x.before.before).at + (line x.before.before).behind ≤ length (begun x.before.before).args.tape.now = omega (arith, k.begins, k.text) in
    search rules

returns_2 : tie.Need-returns-then-stop-at
returns_2 c =
    let e = c in
    let x = e in
    (same x.before.before.before (met_bare (begun x.before.before.before).args.tape.now (begun x.before.before.before).args.left (line x.before.before.before) e.if-left-eq0.false c.if-stop-at.true), bare_told _ (found x.before.before.before) (some e.before.before) c.if-stop-at.true)

part_jump_on_end : tie.Need-slice_bounds-jump_on-end
part_jump_on_end c = let k = (found c.before.before.before).known in omega (arith, k.begins, k.text)

jump_on_requires : tie.Need-jump_on-jump-requires
jump_on_requires c κs = behind_number _ (found c.before.before.before.before)

-- the jump that the line's text told
module _ (k : tie.After-jump_on-jump) where
  abbrev left_over : tie.Else-stop-at
  left_over = k.before.before

  abbrev starting : tie.Else-left-eq0
  starting = left_over.before.before

  abbrev there : tie.In-At
  there = starting.before

  abbrev text : List ℕ
  text = let l = line there in take (l.stop - l.at) (drop l.at (begun there).args.tape.now)

  told : met_by (line there) k.jump_on-jump.result ≡ met_at (begun there).args.tape.now (begun there).args.left (line there)
  told = met_text (begun there).args.tape.now (begun there).args.left (line there) starting.if-left-eq0.false left_over.if-stop-at.false k.jump_on-jump.ensures.0

returns_3 : tie.Need-returns-in-Nowhere
returns_3 c =
    let n = c in
    let a = n.args in (
      met_is a.tape.now a.from a.left n.next_block-next.ensures.0 (sym (ap (met_in a.tape.now a.left) c.in-Nowhere.is)),
      found_none a.tape.now (first_block (lines a.tape.now a.from)) n.next_block-next.ensures.0 c.in-Nowhere.is,
    )

returns_4 : tie.Need-returns-in-To
returns_4 c =
    let j = c in
    let k = j in
    let x = there k.before in (
      same x (sym (ap (met_by (line x)) j.in-To.is) ∙ told k.before),
      jump_met _ (found x) (some (starting k.before)) j.in-To.to (subst (JumpMeets (text k.before)) j.in-To.is k.jump_on-jump.ensures.1),
    )

returns_5 : tie.Need-returns-in-Other
returns_5 c =
    let k = c in
    let x = there k.before in
    (same x (sym (ap (met_by (line x)) c.in-Other.is) ∙ told k.before), found x)

pub meet_block_spec : {M : Type 1} → statement M
meet_block_spec =
    tie.close
    (tie.spec
    (λ c κs. search rules)
    (λ c. search rules)
    (λ c. search rules)
    returns
    add_if2
    returns_2
    (λ c. search rules)
    (λ c. search rules)
    part_jump_on_end
    jump_on_requires
    (λ c. search rules)
    (λ c. search rules)
    returns_3
    returns_4
    returns_5)
