-- A groove that is opened has its records, each record that is handed out is the first of those that are left, and what is over has none.
-- Assumes nothing.
use mathlib.Core.Path.{◌≡◌, refl, sym, ap, subst, ◌∙◌}
use mathlib.Core.Bool.{Bool, true, false, cond}
use mathlib.Core.List.{List, [], ◌∷◌, ◌++◌, append_assoc}
use Prim.Native.Nat.{ℕ, zero, suc, ◌+◌, ◌-◌, ◌<◌, ◌≤◌, ◌^◌}
use native.Mathlib.Omega.{arith}
use lib.Dec.{ltb, eqb}
use lib.IntN.{ℤ, ◌+ℤ◌, ◌-ℤ◌}
use lib.ListN.{length}
use mir.Syntax.{w32}
use mir.Val.{SFits}
use borrow.Author.Tests.{lt-ltb, ltb-true, ltb-false, ne_eqb}
use Rattle.whole.specs.declared.Side.TheVariants.{Minus}
use Rattle.whole.specs.Signed.{along}
use Rattle.whole.proofs.Integers.{whole, range, sub_in, abs}
use Rattle.whole.proofs.Sides.{along_add, between}
use Rattle.division.specs.declared.Pieces.{Pieces}
use Rattle.division.specs.Division.{sum}
use Rattle.division.specs.Carried.{row_of}
use Rattle.division.proofs.Carrying.{row_length, none_left}
use Rattle.moves.specs.declared.Record.{Record}
use Rattle.axes.specs.Goes.{dwell_at}
use Rattle.grooving.specs.declared.Way.{Way}
use Rattle.grooving.specs.declared.Groove.{Groove}
use Rattle.plunges.specs.declared.Stage.{Stage}
use Rattle.plunges.specs.declared.Stage.TheVariants.{Cut, Back, Dwell, Out, Across, Over}
use Rattle.plunges.specs.declared.Cursor.{Cursor}
use Rattle.plunges.specs.declared.CutAndBack.{CutAndBack}
use Rattle.grooving.specs.Grooving.{length_of, wrong, rest, steps, cuts, cut_to, out_to, deep_at, cutting, dwelling, plunge, plunges, after_first, grooving}
use Rattle.plunges.specs.Cursor.{others, from_out, rest_at, rest_of, over_at, over, before_cut_at, before_cut, before_cut_and_back_at, before_cut_and_back, before_dwell_at, before_dwell, behind_cuts_at, behind_cuts, at, after_cut, Ready, Sound, Makes, MakesCut}
use Rattle.grooving.proofs.Asked.{width_fits}
use Rattle.grooving.proofs.Counts.{Stands}
use Rattle.grooving.proofs.Rows.{some_cuts, cuts_length, cuts_sum, steps_sum}

-- ---- a groove that is opened
-- two places that fit lie less than 2 ^ 32 apart
apart : (a : Way) → Stands a → length_of a < 2 ^ 32
apart a s = let x = range s.start in let y = range s.target in let d = sub_in a.target a.start in let m = abs (a.target -ℤ a.start) in omega whole

-- a plunge and what lies behind it, in the order in which they come
plunge_then : (g : Groove) (w : ℤ) (behind : List Record)
    → plunge g w ++ behind ≡ cutting g w 0 (cuts g) ++ (dwelling g w ++ (out_to g w g.depth.start ∷ behind))
unfolding plunge
plunge_then g w behind =
    let out : List Record = out_to g w g.depth.start ∷ [] in
    append_assoc (cutting g w 0 (cuts g)) (dwelling g w ++ out) behind ∙ ap (λ (l : List Record). cutting g w 0 (cuts g) ++ l) (append_assoc (dwelling g w) out behind)

-- where there are steps the plunges behind the first follow, else nothing
after_first_lem : (g : Groove) (l : List ℕ) (n : ℕ) → length l ≡ n → cond (ltb 0 n) (plunges g g.width.start l) [] ≡ after_first g l
after_first_lem g [] n e = ap (λ (m : ℕ). cond (ltb 0 m) (plunges g g.width.start []) []) (sym e)
after_first_lem g (s ∷ ss) n e = ap (λ (b : Bool). cond b (plunges g g.width.start (s ∷ ss)) []) (lt-ltb 0 n (omega (arith, e)))

module _ (g : Groove) (p q : Pieces) (right : wrong g ≡ false) (cut : row_of p ≡ cuts g) (step : row_of q ≡ steps g) where
  abbrev opened : Cursor
  opened = record { groove = g; stage = Cut; width = g.width.start; deep = 0; cuts = p; plunge = p; steps = q; several = ltb 0 q.left }

  opens_with : rest_of opened ≡ grooving g
  unfolding rest_of rest_at grooving
  opens_with =
      let w = g.width.start in
      (λ i. cutting g w 0 (cut i) ++ (dwelling g w ++ (out_to g w g.depth.start ∷ after_first_lem g (row_of q) q.left (row_length q) i)))
      ∙ sym (plunge_then g w (after_first g (row_of q)))
      ∙ ap (λ (l : List ℕ). plunge g w ++ after_first g l) step

  opens_sound : Stands g.depth → Stands g.width → Sound opened
  opens_sound d w =
      let many : p.left ≡ length (cuts g) = sym (row_length p) ∙ ap length cut in
      let deep : sum (row_of p) ≡ length_of g.depth = ap sum cut ∙ cuts_sum g right in
      let wide : sum (row_of q) ≡ rest g = ap sum step ∙ steps_sum g right in
      let some : 0 < p.left = omega (arith, many, cuts_length g right, some_cuts g right) in
      record {
        row = cut;
        some = some;
        whole = omega (arith, deep);
        far = apart g.depth d;
        reach = omega (arith, deep);
        small = omega (arith, wide, apart g.width w);
        wide = width_fits g right w.start w.target (sum (row_of q)) (omega (arith, wide));
        ready = some;
      }

  pub opens : Stands g.depth → Stands g.width → (rest_of opened ≡ grooving g) × Sound opened
  opens d w = (opens_with, opens_sound d w)

-- ---- one record
module _ (c : Cursor) {now : Stage} (sound : Sound c) (stage : c.stage ≡ now) where
  here : rest_of c ≡ rest_at now c
  unfolding rest_of
  here = ap (λ (s : Stage). rest_at s c) stage

  pub is_ready : Ready now c
  is_ready = subst (λ (s : Stage). Ready s c) stage sound.ready

  -- from a stage of a plunge to another: of the records from the one on, the first
  pub within : (s : Stage) {r made : Record} {rest : Cursor} → Ready s (at c s) → rest_at now c ≡ r ∷ rest_at s (at c s) → made ≡ r → rest ≡ at c s → Makes c made rest × (rest.stage ≡ s)
  unfolding rest_of
  within s h e m b = (
    record {
      first = here ∙ e ∙ (λ i. sym m i ∷ rest_of (sym b i));
      sound = subst Sound (sym b) (record {
        row = sound.row;
        some = sound.some;
        whole = sound.whole;
        far = sound.far;
        reach = sound.reach;
        small = sound.small;
        wide = sound.wide;
        ready = h;
      });
    },
    ap (λ (k : Cursor). k.stage) b,
  )

-- ---- a cut
-- what follows a cut to the depth t, where the cuts ds are left
behind_cut : Groove → ℤ → ℕ → List ℕ → List Record
behind_cut g w t [] = []
behind_cut g w t (d ∷ ds) = out_to g w (deep_at g (t - g.back)) ∷ cutting g w t (d ∷ ds)

cut_first : (g : Groove) (w : ℤ) (t d : ℕ) (ds : List ℕ) → cutting g w t (d ∷ ds) ≡ cut_to g w (deep_at g (t + d)) ∷ behind_cut g w (t + d) ds
unfolding cutting behind_cut
cut_first g w t d [] = refl
cut_first g w t d (e ∷ ds) = refl

-- behind the last cut: the dwell if there is one, and the rapid out
last_cut : (c : Cursor) (n : ℕ) → c.groove.dwell ≡ n → rest_at (cond (ltb 0 c.groove.dwell) Dwell Out) c ≡ dwelling c.groove c.width ++ from_out c
unfolding rest_at dwelling
last_cut c zero e =
    let g = c.groove in
    ap (λ (n : ℕ). rest_at (cond (ltb 0 n) Dwell Out) c) e
    ∙ ap (λ (n : ℕ). cond (eqb n 0) [] (dwell_at g.facing g.dwell g.depth.target c.width ∷ []) ++ from_out c) (sym e)
last_cut c (suc n) e =
    let g = c.groove in
    ap (λ (b : Bool). rest_at (cond b Dwell Out) c) (lt-ltb 0 g.dwell (omega (arith, e)))
    ∙ ap (λ (b : Bool). cond b [] (dwell_at g.facing g.dwell g.depth.target c.width ∷ []) ++ from_out c) (sym (ne_eqb g.dwell 0 (λ z. omega (arith, e, z))))

-- behind any cut
after_cut_lem : (c : Cursor) (l : List ℕ) → row_of c.cuts ≡ l
    → rest_at (after_cut c.cuts.left c.groove.dwell) c ≡ behind_cut c.groove c.width c.deep l ++ (dwelling c.groove c.width ++ from_out c)
unfolding behind_cut rest_at
after_cut_lem c [] e =
    let z : c.cuts.left ≡ 0 = sym (row_length c.cuts) ∙ ap length e in
    ap (λ (n : ℕ). rest_at (cond (ltb 0 n) Back (cond (ltb 0 c.groove.dwell) Dwell Out)) c) z ∙ last_cut c c.groove.dwell refl
after_cut_lem c (d ∷ ds) e =
    let z : c.cuts.left ≡ suc (length ds) = sym (row_length c.cuts) ∙ ap length e in
    let g = c.groove in
    ap (λ (b : Bool). rest_at (cond b Back (cond (ltb 0 g.dwell) Dwell Out)) c) (lt-ltb 0 c.cuts.left (omega (arith, z)))
    ∙ ap (λ (l : List ℕ). out_to g c.width (deep_at g (c.deep - g.back)) ∷ (cutting g c.width c.deep l ++ (dwelling g c.width ++ from_out c))) e

ready_after : (c : Cursor) (n : ℕ) → c.cuts.left ≡ n → Ready (after_cut c.cuts.left c.groove.dwell) c
ready_after c zero e = subst (λ (n : ℕ). Ready (after_cut n c.groove.dwell) c) (sym e) (either (ltb 0 c.groove.dwell))
  where
    either : (b : Bool) → Ready (cond b Dwell Out) c
    either true = tt
    either false = tt
ready_after c (suc n) e =
    let some : 0 < c.cuts.left = omega (arith, e) in
    subst (λ (b : Bool). Ready (cond b Back (cond (ltb 0 c.groove.dwell) Dwell Out)) c) (sym (lt-ltb 0 c.cuts.left some)) some

module _ (c : Cursor) (sound : Sound c) {d : ℕ} (ds : Pieces) (row : row_of c.cuts ≡ d ∷ row_of ds) where
  -- it goes no deeper than the groove
  pub reaches : c.deep + d ≤ length_of c.groove.depth
  reaches = let e : sum (row_of c.cuts) ≡ d + sum (row_of ds) = ap sum row in omega (arith, e, sound.reach)

  pub one_fewer : ds.left ≡ c.cuts.left - 1
  one_fewer = omega (arith, row_length c.cuts, row_length ds, ap length row)

  abbrev deeper : Stage → Cursor
  deeper s = record { groove = c.groove; stage = s; width = c.width; deep = c.deep + d; cuts = ds; plunge = c.plunge; steps = c.steps; several = c.several }

  abbrev next : Stage
  next = after_cut ds.left c.groove.dwell

  pub cuts_on : c.stage ≡ Cut → {to : ℤ} {made : Record} {s : Stage} {rest : Cursor} → to ≡ deep_at c.groove (c.deep + d)
      → made ≡ cut_to c.groove c.width to → s ≡ next → rest ≡ deeper s → Makes c made rest
  unfolding rest_of rest_at
  cuts_on stage {to} t m n b = record {
    first = here c sound stage
        ∙ ap (λ (l : List ℕ). cutting g w c.deep l ++ behind) row
        ∙ ap (λ (l : List Record). l ++ behind) (cut_first g w c.deep d (row_of ds))
        ∙ ap (λ (l : List Record). cut_to g w (deep_at g (c.deep + d)) ∷ l) (sym (after_cut_lem (deeper next) (row_of ds) refl))
        ∙ (λ i. sym (m ∙ ap (cut_to g w) t) i ∷ rest_of (sym (b ∙ ap deeper n) i));
    sound = subst Sound (sym (b ∙ ap deeper n)) (record {
      row = sound.row;
      some = sound.some;
      whole = sound.whole;
      far = sound.far;
      reach = let e : sum (row_of c.cuts) ≡ d + sum (row_of ds) = ap sum row in omega (arith, e, sound.reach);
      small = sound.small;
      wide = sound.wide;
      ready = ready_after (deeper next) ds.left refl;
    });
  }
    where
      g : Groove
      g = c.groove

      w : ℤ
      w = c.width

      behind : List Record
      behind = dwelling g w ++ from_out c

-- ---- the rapid out
module _ (c : Cursor) (sound : Sound c) (stage : c.stage ≡ Out) {made : Record} {rest : Cursor} (m : made ≡ out_to c.groove c.width c.groove.depth.start) where
  pub goes_across : c.several ≡ true → rest ≡ at c Across → Makes c made rest × (rest.stage ≡ cond c.several Across Over)
  unfolding rest_at
  goes_across e b =
      let w = within c sound stage Across tt (ap (λ (t : Bool). out_to c.groove c.width c.groove.depth.start ∷ cond t (others c) []) e) m b in
      (w.0, w.1 ∙ ap (λ (t : Bool). cond t Across Over) (sym e))

  pub goes_over : c.several ≡ false → rest ≡ at c Over → Makes c made rest × (rest.stage ≡ cond c.several Across Over)
  unfolding rest_at
  goes_over e b =
      let w = within c sound stage Over tt (ap (λ (t : Bool). out_to c.groove c.width c.groove.depth.start ∷ cond t (others c) []) e) m b in
      (w.0, w.1 ∙ ap (λ (t : Bool). cond t Across Over) (sym e))

-- ---- between two cuts
-- the rapid to the depth reached less the retract
pub drawn : (c : Cursor) → Sound c → c.stage ≡ Back → {t : ℕ} {made : Record} {rest : Cursor}
    → t ≡ c.deep - c.groove.back → made ≡ out_to c.groove c.width (deep_at c.groove t) → rest ≡ at c Cut → Makes c made rest × (rest.stage ≡ Cut)
unfolding rest_at
drawn c sound stage d m b = within c sound stage Cut (is_ready c sound stage) refl (m ∙ ap (λ (t : ℕ). out_to c.groove c.width (deep_at c.groove t)) d) b

-- ---- behind a plunge
-- the rapid to the start
pub goes_home : (c : Cursor) → Sound c → c.stage ≡ Across → c.steps.left ≡ 0 → {made : Record} {rest : Cursor}
    → made ≡ out_to c.groove c.groove.width.start c.groove.depth.start → rest ≡ at c Over → Makes c made rest × (before_cut rest ≡ true)
unfolding rest_at plunges
goes_home c sound stage z m b = let w = within c sound stage Over tt (ap (plunges c.groove c.width) (none_left c.steps z)) m b in (w.0, ap before_cut_at w.1)

-- the rapid to the next plunge
module _ (c : Cursor) (sound : Sound c) {d : ℕ} (ds : Pieces) (row : row_of c.steps ≡ d ∷ row_of ds) where
  all : sum (row_of c.steps) ≡ d + sum (row_of ds)
  all = ap sum row

  abbrev width_next : ℤ
  width_next = c.width +ℤ along Minus d

  pub width_next_fits : SFits w32 c.width → SFits w32 width_next
  width_next_fits f = let near : d ≤ sum (row_of c.steps) = omega (arith, all) in between Minus f sound.wide near

  abbrev plunge_next : ℤ → Cursor
  plunge_next w = record { groove = c.groove; stage = Cut; width = w; deep = 0; cuts = c.plunge; plunge = c.plunge; steps = ds; several = true }

  pub goes_on : c.stage ≡ Across → {w : ℤ} {made : Record} {rest : Cursor} → w ≡ width_next
      → made ≡ out_to c.groove w c.groove.depth.start → rest ≡ plunge_next w → Makes c made rest × (before_cut rest ≡ true)
  unfolding rest_of rest_at plunges
  goes_on stage {w} e m b = (
    record {
      first = here c sound stage ∙ ap (plunges g c.width) row
          ∙ ap (λ (l : List Record). out_to g width_next g.depth.start ∷ l) (plunge_then g width_next (plunges g width_next (row_of ds)))
          ∙ ap (λ (l : List ℕ). out_to g width_next g.depth.start ∷ (cutting g width_next 0 l ++ (dwelling g width_next ++ (out_to g width_next g.depth.start ∷ plunges g width_next (row_of ds))))) (sym sound.row)
          ∙ (λ i. sym (m ∙ ap (λ (x : ℤ). out_to g x g.depth.start) e) i ∷ rest_of (sym (b ∙ ap plunge_next e) i));
      sound = subst Sound (sym (b ∙ ap plunge_next e)) (record {
        row = sound.row;
        some = sound.some;
        whole = sound.whole;
        far = sound.far;
        reach = omega (arith, sound.whole);
        small = omega (arith, all, sound.small);
        wide = subst (SFits w32) (ap (λ (n : ℕ). c.width +ℤ along Minus n) all ∙ sym (along_add c.width Minus d (sum (row_of ds)))) sound.wide;
        ready = sound.some;
      });
    },
    ap (λ (k : Cursor). before_cut k) b,
  )
    where
      g : Groove
      g = c.groove

-- ---- none is left
pub never : false ≡ true → ⊥
never h = let z : ◌≡◌ {A = ℕ} 0 1 = cc in omega arith

none_at : (s : Stage) (c : Cursor) → over_at s ≡ true → rest_at s c ≡ []
unfolding rest_at
none_at Cut c h = absurd (never h)
none_at Back c h = absurd (never h)
none_at Dwell c h = absurd (never h)
none_at Out c h = absurd (never h)
none_at Across c h = absurd (never h)
none_at Over c h = refl

pub rest_none : (c : Cursor) → over c ≡ true → rest_of c ≡ []
unfolding rest_of
rest_none c e = none_at c.stage c e

-- ---- a cut and the rapid back behind it
cut_next : (s : Stage) (n : ℕ) → before_cut_and_back_at s n ≡ true → (s ≡ Cut) × (1 < n)
cut_next Cut n e = (refl, ltb-true 1 n e)
cut_next Back n e = absurd (never e)
cut_next Dwell n e = absurd (never e)
cut_next Out n e = absurd (never e)
cut_next Across n e = absurd (never e)
cut_next Over n e = absurd (never e)

pub cut_then_back : (c : Cursor) → before_cut_and_back c ≡ true → (c.stage ≡ Cut) × (after_cut (c.cuts.left - 1) c.groove.dwell ≡ Back)
cut_then_back c e =
    let h = cut_next c.stage c.cuts.left e in
    (h.0, ap (λ (b : Bool). cond b Back (cond (ltb 0 c.groove.dwell) Dwell Out)) (lt-ltb 0 (c.cuts.left - 1) (omega (arith, h.1))))

pub two_make : {c k : Cursor} {p : CutAndBack} → Makes c p.cut k → Makes k p.back p.rest → p.rest.stage ≡ Cut → MakesCut c p
two_make {p = p} a b stage = record { first = a.first ∙ ap (λ (l : List Record). p.cut ∷ l) b.first; sound = b.sound; cut = stage }

-- ---- the end of a plunge
pub cut_next_is : (c : Cursor) → before_cut c ≡ true → over c ≡ false → c.stage ≡ Cut
cut_next_is c e v = go c.stage e v
  where
    go : (s : Stage) → before_cut_at s ≡ true → over_at s ≡ false → s ≡ Cut
    go Cut e v = refl
    go Back e v = absurd (never e)
    go Dwell e v = absurd (never e)
    go Out e v = absurd (never e)
    go Across e v = absurd (never e)
    go Over e v = absurd (never (sym v))

-- behind a cut that no rapid back follows: the dwell, or the way out
pub last_behind : (c : Cursor) → c.stage ≡ Cut → before_cut_and_back c ≡ false → behind_cuts_at (after_cut (c.cuts.left - 1) c.groove.dwell) ≡ true
last_behind c stage h =
    let none : c.cuts.left - 1 ≡ 0 = omega (arith, ltb-false 1 c.cuts.left (sym (ap (λ (s : Stage). before_cut_and_back_at s c.cuts.left) stage) ∙ h)) in
    ap (λ (n : ℕ). behind_cuts_at (after_cut n c.groove.dwell)) none ∙ either (ltb 0 c.groove.dwell)
  where
    either : (b : Bool) → behind_cuts_at (cond b Dwell Out) ≡ true
    either true = refl
    either false = refl

pub dwell_next : (c : Cursor) → before_dwell c ≡ true → c.stage ≡ Dwell
dwell_next c e = go c.stage e
  where
    go : (s : Stage) → before_dwell_at s ≡ true → s ≡ Dwell
    go Cut e = absurd (never e)
    go Back e = absurd (never e)
    go Dwell e = refl
    go Out e = absurd (never e)
    go Across e = absurd (never e)
    go Over e = absurd (never e)

pub out_next : (c : Cursor) → behind_cuts c ≡ true → before_dwell c ≡ false → c.stage ≡ Out
out_next c e d = go c.stage e d
  where
    go : (s : Stage) → behind_cuts_at s ≡ true → before_dwell_at s ≡ false → s ≡ Out
    go Cut e d = absurd (never e)
    go Back e d = absurd (never e)
    go Dwell e d = absurd (never (sym d))
    go Out e d = refl
    go Across e d = absurd (never e)
    go Over e d = absurd (never e)

-- behind the way out: the way across, or nothing
pub over_before_cut : (c : Cursor) → over c ≡ true → before_cut c ≡ true
over_before_cut c e = go c.stage e
  where
    go : (s : Stage) → over_at s ≡ true → before_cut_at s ≡ true
    go Cut e = absurd (never e)
    go Back e = absurd (never e)
    go Dwell e = absurd (never e)
    go Out e = absurd (never e)
    go Across e = absurd (never e)
    go Over e = refl

pub across_next : (c : Cursor) (b : Bool) → c.stage ≡ cond b Across Over → over c ≡ false → c.stage ≡ Across
across_next c true e v = e
across_next c false e v = absurd (never (sym v ∙ ap over_at e))
