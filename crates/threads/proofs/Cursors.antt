-- A threading cycle that is opened has its records, each record that is handed out is the first of those that are left, and what is over has none.
-- Assumes nothing.
use mathlib.Core.Path.{◌≡◌, refl, sym, ap, subst, ◌∙◌}
use mathlib.Core.Bool.{Bool, true, false, ◌&&◌, false≢true}
use mathlib.Core.List.{List, [], ◌∷◌, ◌++◌, map}
use Prim.Native.Nat.{ℕ, zero, suc, ◌+◌, ◌-◌, ◌≤◌, ◌<◌}
use native.Mathlib.Nat.{add-zero}
use native.Mathlib.Omega.{arith}
use lib.Dec.{eqb}
use lib.IntN.{ℤ, pos, neg_ℤ, ◌+ℤ◌, ◌-ℤ◌}
use lib.ListN.{replicate}
use mir.Syntax.{w32}
use mir.Val.{SFits}
use borrow.Author.Tests.{eqb-true}
use Rattle.whole.specs.declared.Side.{Side}
use Rattle.whole.specs.declared.Side.TheVariants.{Minus, Zero, Plus}
use Rattle.whole.specs.Signed.{along}
use Rattle.whole.proofs.Integers.{whole, sub_in, up_neg, down_neg}
use Rattle.whole.proofs.Sides.{along_add, along_zero, between}
use Rattle.moves.specs.declared.Record.{Record}
use Rattle.axes.specs.Axis.{side}
use Rattle.axes.specs.Goes.{rapid_to}
use Rattle.cuts.specs.declared.Cuts.{Cuts}
use Rattle.depths.specs.Depths.{greatest_d, depths}
use Rattle.depths.specs.Promised.{Rises}
use Rattle.cuts.specs.Cuts as cut
use Rattle.depths.proofs.Rows.{starts}
use Rattle.depths.proofs.Kept.{row_rises}
use Rattle.cuts.proofs.Opened as cut_laws
use Rattle.threading.specs.declared.Thread.{Thread}
use Rattle.threading.specs.declared.Pass.{Pass}
use Rattle.axes.specs.declared.Stage.{Stage}
use Rattle.axes.specs.declared.Stage.TheVariants.{In, Cut, Out, Back}
use Rattle.threads.specs.declared.Cursor.{Cursor}
use Rattle.threading.specs.Threading.{wide, crest, wrong, pass_for, pass_on, passes, repeated, threading, Told}
use Rattle.threads.specs.Cursor.{cuts_left, crest_of, line_of, rest_at, rest_of, over_at, over, at, Sound, Makes}
use Rattle.threading.proofs.Asked.{right}
use Rattle.threading.proofs.Lines.{wide_sum, wide_zero, back_forth, forth_back, line_bottom}

-- ---- a cycle that is opened
abbrev opened : Thread → Cuts → Cursor
opened t cs = record { pass = pass_for t; side = side t.infeed; line = crest t; depth = 0; cuts = cs; empty = t.empty; stage = In }

back_zero : (l : ℤ) (s : Side) → l -ℤ along s 0 ≡ l
back_zero l Minus = omega (whole, sub_in l (neg_ℤ (pos 0)), up_neg (pos 0), down_neg (pos 0))
back_zero l Zero = omega (whole, sub_in l (pos 0))
back_zero l Plus = omega (whole, sub_in l (pos 0))

pub opens : (t : Thread) (cs : Cuts) → Told t → wrong t ≡ false → cut.rest_of 0 cs ≡ depths t.rule t.d3 t.d6 → cut.Sound 0 cs
    → (rest_of (opened t cs) ≡ threading t) × Sound (opened t cs)
unfolding rest_of rest_at threading
opens t cs told w is sound =
    let r = right t w in
    let s = side t.infeed in
    let b = t.facing in
    let on : crest_of (opened t cs) ≡ crest t = ap (λ (n : ℕ). crest t -ℤ along s n) (wide_zero b) ∙ back_zero (crest t) s in
    let all : t.d6 - 0 ≡ t.d6 = omega arith in (
      λ i. passes (pass_for t) (map (λ x. on i +ℤ along s (wide b x)) (repeated 0 (is i) t.empty)),
      record {
        deepest = t.d6;
        small = told.d6;
        cuts = sound;
        rises = subst (Rises t.d6 0) (sym is) (row_rises t.rule t.d3 t.d6 r.proper);
        reach = subst (SFits w32) (sym (ap (λ (n : ℕ). crest t +ℤ along s (wide b n)) all ∙ line_bottom t r.crest)) told.bottom;
      },
    )

-- ---- one record
module _ (c : Cursor) {now : Stage} (sound : Sound c) (stage : c.stage ≡ now) where
  here : rest_of c ≡ rest_at now c
  unfolding rest_of
  here = ap (λ (s : Stage). rest_at s c) stage

  -- within a pass: of the records from a stage on, the first
  pub within : (s : Stage) {r made : Record} {rest : Cursor} → rest_at now c ≡ r ∷ rest_at s (at c s) → made ≡ r → rest ≡ at c s → Makes c made rest
  unfolding rest_of
  within s e m b = record {
    first = here ∙ e ∙ (λ i. sym m i ∷ rest_of (sym b i));
    sound = subst Sound (sym b) (record { deepest = sound.deepest; small = sound.small; cuts = sound.cuts; rises = sound.rises; reach = sound.reach });
  }

-- the line of the present depth is the present line
line_now : (c : Cursor) → line_of c c.depth ≡ c.line
line_now c =
    let w = wide c.pass.facing c.depth in
    ap (λ (n : ℕ). crest_of c +ℤ along c.side n) (sym (add-zero w)) ∙ back_forth c.line c.side w 0 ∙ along_zero c.line c.side

replicate_first : (x n : ℕ) → 0 < n → replicate n x ≡ x ∷ replicate (n - 1) x
replicate_first x zero h = absurd (omega arith)
replicate_first x (suc n) h = let less : n ≡ suc n - 1 = omega arith in ap (λ (m : ℕ). x ∷ replicate m x) less

-- an empty cut: the last pass again
module _ (c : Cursor) (sound : Sound c) (stage : c.stage ≡ In) where
  abbrev again : Cursor
  again = record { pass = c.pass; side = c.side; line = c.line; depth = c.depth; cuts = c.cuts; empty = c.empty - 1; stage = Cut }

  pub goes_again : cut.over c.cuts ≡ true → 0 < c.empty → {made : Record} {rest : Cursor} → made ≡ rapid_to c.pass.facing c.line c.pass.home → rest ≡ again → Makes c made rest
  unfolding rest_of rest_at passes pass_on repeated
  goes_again o h m b = record {
    first = here c sound stage
        ∙ ap (λ (xs : List ℕ). passes p (map (line_of c) (repeated x xs c.empty))) none
        ∙ ap (λ (xs : List ℕ). passes p (map (line_of c) xs)) (replicate_first x c.empty h)
        ∙ (λ i. pass_on p (line_now c i) ++ passes p (map (line_of c) (repeated x (sym none i) (c.empty - 1))))
        ∙ (λ i. sym m i ∷ rest_of (sym b i));
    sound = subst Sound (sym b) (record { deepest = sound.deepest; small = sound.small; cuts = sound.cuts; rises = sound.rises; reach = sound.reach });
  }
    where
      p : Pass
      p = c.pass

      x : ℕ
      x = c.depth

      none : cuts_left c ≡ []
      none = cut_laws.rest_none c.depth c.cuts o

-- a cut more
module _ (c : Cursor) (sound : Sound c) {x : ℕ} {cs : Cuts} (next : cut.Makes c.depth c.cuts x cs) where
  abbrev b : Bool
  b = c.pass.facing

  rises : (c.depth ≤ x) × Rises sound.deepest x (cut.rest_of x cs)
  unfolding Rises
  rises = subst (Rises sound.deepest c.depth) next.first sound.rises

  pub not_above : c.depth ≤ x
  not_above = rises.0

  below : x ≤ sound.deepest
  below = starts sound.deepest x (cut.rest_of x cs) rises.1

  pub small_cut : x ≤ greatest_d
  small_cut = omega (arith, below, sound.small)

  abbrev line_next : ℤ
  line_next = c.line +ℤ along c.side (wide b (x - c.depth))

  parts : wide b (x - c.depth) + wide b (sound.deepest - x) ≡ wide b (sound.deepest - c.depth)
  parts =
      let w : (x - c.depth) + (sound.deepest - x) ≡ sound.deepest - c.depth = omega (arith, not_above, below) in
      sym (wide_sum b (x - c.depth) (sound.deepest - x)) ∙ ap (wide b) w

  grown : wide b c.depth + wide b (x - c.depth) ≡ wide b x
  grown = let w : c.depth + (x - c.depth) ≡ x = omega (arith, not_above) in sym (wide_sum b c.depth (x - c.depth)) ∙ ap (wide b) w

  -- its line fits, since the last one does
  pub line_next_fits : SFits w32 c.line → SFits w32 line_next
  line_next_fits f = between c.side f sound.reach (omega (arith, parts))

  abbrev deeper : ℤ → Cursor
  deeper l = record { pass = c.pass; side = c.side; line = l; depth = x; cuts = cs; empty = c.empty; stage = Cut }

  deeper_sound : Sound (deeper line_next)
  deeper_sound = record {
    deepest = sound.deepest;
    small = sound.small;
    cuts = next.sound;
    rises = rises.1;
    reach = subst (SFits w32) (ap (λ (n : ℕ). c.line +ℤ along c.side n) (sym parts) ∙ sym (along_add c.line c.side (wide b (x - c.depth)) (wide b (sound.deepest - x)))) sound.reach;
  }

  -- it lies at its depth from the crest, and the crest is where it was
  line_is : line_of c x ≡ line_next
  line_is = ap (λ (n : ℕ). crest_of c +ℤ along c.side n) (sym grown) ∙ back_forth c.line c.side (wide b c.depth) (wide b (x - c.depth))

  crest_is : crest_of c ≡ line_next -ℤ along c.side (wide b x)
  crest_is = sym (forth_back c.line c.side (wide b c.depth) (wide b (x - c.depth))) ∙ ap (λ (n : ℕ). line_next -ℤ along c.side n) grown

  pub goes_deeper : c.stage ≡ In → {line : ℤ} {made : Record} {rest : Cursor} → line ≡ line_next
      → made ≡ rapid_to b line c.pass.home → rest ≡ deeper line → Makes c made rest
  unfolding rest_of rest_at passes pass_on repeated
  goes_deeper stage l m r = record {
    first = here c sound stage
        ∙ ap (λ (xs : List ℕ). passes c.pass (map (line_of c) (repeated c.depth xs c.empty))) next.first
        ∙ (λ i. pass_on c.pass (line_is i) ++ passes c.pass (map (λ y. crest_is i +ℤ along c.side (wide b y)) (repeated x (cut.rest_of x cs) c.empty)))
        ∙ (λ i. rapid_to b (sym l i) c.pass.home ∷ rest_of (deeper (sym l i)))
        ∙ (λ i. sym m i ∷ rest_of (sym r i));
    sound = subst Sound (sym (r ∙ ap deeper l)) deeper_sound;
  }

-- ---- none is left
pub over_at_lem : (c : Cursor) {now : Stage} → c.stage ≡ now → over c ≡ over_at now c
unfolding over
over_at_lem c e = ap (λ (s : Stage). over_at s c) e

two : (a b : Bool) → (a && b) ≡ true → (a ≡ true) × (b ≡ true)
two true b e = (refl, e)
two false b e = absurd (false≢true e)

none_at : (s : Stage) (c : Cursor) → over_at s c ≡ true → rest_at s c ≡ []
unfolding rest_at passes repeated
none_at In c e =
    let h = two (cut.over c.cuts) (eqb c.empty 0) e in
    λ i. passes c.pass (map (line_of c) ((ap (λ (xs : List ℕ). repeated c.depth xs c.empty) (cut_laws.rest_none c.depth c.cuts h.0) ∙ ap (λ (n : ℕ). replicate n c.depth) (eqb-true c.empty 0 h.1)) i))
none_at Cut c e = absurd (false≢true e)
none_at Out c e = absurd (false≢true e)
none_at Back c e = absurd (false≢true e)

pub rest_none : (c : Cursor) → over c ≡ true → rest_of c ≡ []
unfolding over rest_of
rest_none c e = none_at c.stage c e

-- and before a pass that is not over, with no cut left, an empty one is
pub some_empty : (c : Cursor) → over c ≡ false → c.stage ≡ In → cut.over c.cuts ≡ true → 0 < c.empty
some_empty c e s o = cut_laws.not_none c.empty (ap (λ (t : Bool). t && eqb c.empty 0) (sym o) ∙ sym (over_at_lem c s) ∙ e)
