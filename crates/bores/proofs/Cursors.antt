-- A bore that is opened has its records, each record that is handed out is the first of those that are left, and what is over has none.
-- Assumes nothing.
use mathlib.Core.Path.{◌≡◌, refl, sym, ap, ◌∙◌, subst, subst₂}
use mathlib.Core.Bool.{Bool, true, false, cond}
use mathlib.Core.List.{List, [], ◌∷◌, ◌++◌, append_assoc}
use Prim.Native.Nat.{ℕ, zero, suc, ◌+◌, ◌-◌, ◌≤◌, ◌<◌}
use native.Mathlib.Decide.{dec_lt}
use native.Mathlib.Omega.{arith}
use lib.Dec.{eqb}
use lib.ListN.{length}
use borrow.Author.Tests.{eq-eqb, ne_eqb}
use Rattle.axes.proofs.Places.{neither}
use Rattle.moves.specs.declared.Record.{Record}
use Rattle.moves.specs.Kinds.{dwell}
use Rattle.drilling.specs.declared.Bore.{Bore}
use Rattle.bores.specs.declared.Stage.{Stage}
use Rattle.bores.specs.declared.Stage.TheVariants.{Bite, Home, Back, Dwell, Out, Over}
use Rattle.bores.specs.declared.Cursor.{Cursor}
use Rattle.bites.specs.Bites.{next_bite, biting, has_zero}
use Rattle.drilling.specs.Drilling.{stroke_of, bites, wrong, deep_at, bore_to, out_to, clearing, boring, dwelling, drilling}
use Rattle.bores.specs.Cursor.{bites_of, ending, from_bite, back_of, rest_at, rest_of, over_at, over, at, after_bite, bitten, bottomed, opened, Ready, Sound, Makes}
use Rattle.bites.proofs.Rows.{some, no_room, bite_step, bite_first, bite_last}
use Rattle.drilling.proofs.Asked.{asked, one_bite, more_bites}

-- ---- the bound on a row that has no 0 is free
pub bound : (less least bite left m n : ℕ) → left ≤ m → left ≤ n → 0 < left → has_zero (biting less least bite left m) ≡ false → biting less least bite left m ≡ biting less least bite left n
unfolding has_zero
bound less least bite left zero n h k l e = absurd (omega arith)
bound less least bite left (suc m) zero h k l e = absurd (omega arith)
bound less least bite left (suc m) (suc n) h k l e = go (dec_lt bite left) (λ p q r z. bound less least (next_bite less least bite) (left - bite) m n p q r z)
  where
    b' : ℕ
    b' = next_bite less least bite

    go : Dec (bite < left)
        → (left - bite ≤ m → left - bite ≤ n → 0 < left - bite → has_zero (biting less least b' (left - bite) m) ≡ false → biting less least b' (left - bite) m ≡ biting less least b' (left - bite) n)
        → biting less least bite left (suc m) ≡ biting less least bite left (suc n)
    go (yes t) on =
        let z = neither (eqb bite 0) (has_zero (biting less least b' (left - bite) m)) (sym (ap has_zero (bite_step less least bite left m t)) ∙ e) in
        let s = some bite z.0 in
        bite_step less least bite left m t
        ∙ ap (λ (l : List ℕ). bite ∷ l) (on (omega arith) (omega arith) (omega arith) z.1)
        ∙ sym (bite_step less least bite left n t)
    go (no t) on = bite_last less least bite left (suc m) (omega arith) (omega arith) ∙ sym (bite_last less least bite left (suc n) (omega arith) (omega arith))

-- a row of something has a bite
row_some : (less least bite left n : ℕ) → 0 < n → 0 < length (biting less least bite left n)
row_some less least bite left n h = go (dec_lt bite left)
  where
    go : Dec (bite < left) → 0 < length (biting less least bite left n)
    go (yes t) = subst (λ (l : List ℕ). 0 < length l) (sym (bite_first less least bite left n t h)) (omega arith)
    go (no t) = subst (λ (l : List ℕ). 0 < length l) (sym (bite_last less least bite left n (omega arith) h)) (omega arith)

-- a bite in front of others
boring_more : (b : Bore) (t d : ℕ) (ds : List ℕ) → 0 < length ds → boring b t (d ∷ ds) ≡ bore_to b (deep_at b (t + d)) ∷ (clearing b (t + d) ++ boring b (t + d) ds)
unfolding boring
boring_more b t d [] h = absurd (omega arith)
boring_more b t d (e ∷ ds) h = refl

boring_one : (b : Bore) (t d : ℕ) → boring b t (d ∷ []) ≡ bore_to b (deep_at b (t + d)) ∷ []
unfolding boring
boring_one b t d = refl

-- what equals a record and a cursor that are made is made
pub made : {c : Cursor} {m n : Record} {d e : Cursor} → Makes c m d → n ≡ m → e ≡ d → Makes c n e
made {c} h x y = subst₂ (λ (n : Record) (e : Cursor). Makes c n e) (sym x) (sym y) h

-- what is left, and what is known, where the stage is told
module _ (c : Cursor) {now : Stage} (stage : c.stage ≡ now) where
  here : rest_of c ≡ rest_at now c
  unfolding rest_of
  here = ap (λ (s : Stage). rest_at s c) stage

  is_ready : Sound c → Ready now c
  is_ready sound = subst (λ (s : Stage). Ready s c) stage sound.ready

-- ---- a bite that is not the last
record Split (c : Cursor) : Type 0 where
  row : bites_of c ≡ c.bite ∷ bites_of (bitten c)
  bite : 0 < c.bite
  above : has_zero (bites_of (bitten c)) ≡ false

split : (c : Cursor) → Sound c → c.bite < c.left → Split c
unfolding has_zero
split c s t =
    let b = c.bore in
    let b' = next_bite b.less b.least c.bite in
    let first = bite_first b.less b.least c.bite c.left c.left t (omega arith) in
    let z = neither (eqb c.bite 0) (has_zero (biting b.less b.least b' (c.left - c.bite) (c.left - 1))) (sym (ap has_zero first) ∙ s.above) in
    let u = some c.bite z.0 in
    let same = bound b.less b.least b' (c.left - c.bite) (c.left - 1) (c.left - c.bite) (omega arith) (omega arith) (omega arith) z.1 in
    record { row = first ∙ ap (λ (l : List ℕ). c.bite ∷ l) same; bite = u; above = sym (ap has_zero same) ∙ z.1 }

behind_bite : (c : Cursor) → rest_of (bitten c) ≡ clearing c.bore (c.deep + c.bite) ++ from_bite (bitten c)
unfolding rest_of rest_at clearing
behind_bite c = go c.bore.full
  where
    b : Bore
    b = c.bore

    t : ℕ
    t = c.deep + c.bite

    go : (f : Bool) → rest_at (after_bite f) (bitten c) ≡ cond f (out_to b b.start ∷ out_to b (deep_at b (t - b.back)) ∷ []) (out_to b (deep_at b (t - b.back)) ∷ []) ++ from_bite (bitten c)
    go true = refl
    go false = refl

ready_between : (f : Bool) (c : Cursor) → 0 < c.left → Ready (after_bite f) c
ready_between true c h = h
ready_between false c h = h

pub bites_more : (c : Cursor) → Sound c → c.stage ≡ Bite → c.bite < c.left → Makes c (bore_to c.bore (deep_at c.bore (c.deep + c.bite))) (bitten c)
unfolding rest_at
bites_more c s z t =
    let b = c.bore in
    let r = split c s t in
    let some_left = row_some b.less b.least (next_bite b.less b.least c.bite) (c.left - c.bite) (c.left - c.bite) (omega arith) in record {
      first =
          here c z
          ∙ ap (λ (l : List ℕ). boring b c.deep l ++ ending b) r.row
          ∙ ap (λ (l : List Record). l ++ ending b) (boring_more b c.deep c.bite (bites_of (bitten c)) some_left)
          ∙ ap (λ (l : List Record). bore_to b (deep_at b (c.deep + c.bite)) ∷ l)
          (append_assoc (clearing b (c.deep + c.bite)) (boring b (c.deep + c.bite) (bites_of (bitten c))) (ending b) ∙ sym (behind_bite c));
      sound = record { part = s.part; whole = omega (arith, s.whole); above = r.above; ready = ready_between b.full (bitten c) (omega arith) };
    }

-- ---- the last bite
behind_last : (c : Cursor) → rest_of (bottomed c) ≡ ending c.bore
unfolding rest_of rest_at dwelling
behind_last c = go (eqb c.bore.dwell 0)
  where
    b : Bore
    b = c.bore

    go : (t : Bool) → rest_at (cond t Out Dwell) (bottomed c) ≡ cond t [] (dwell b.x b.target b.dwell ∷ []) ++ (out_to b b.start ∷ [])
    go true = refl
    go false = refl

nothing : (less least bite : ℕ) → has_zero (biting less least bite 0 0) ≡ false
unfolding has_zero
nothing less least bite = ap has_zero (no_room less least bite 0)

ready_last : (t : Bool) (c : Cursor) → Ready (cond t Out Dwell) c
ready_last true c = tt
ready_last false c = tt

pub bites_last : (c : Cursor) → Sound c → c.stage ≡ Bite → c.left ≤ c.bite → Makes c (bore_to c.bore (deep_at c.bore (c.deep + c.left))) (bottomed c)
unfolding rest_at
bites_last c s z t =
    let b = c.bore in
    let some_left = is_ready c z s in record {
      first =
          here c z
          ∙ ap (λ (l : List ℕ). boring b c.deep l ++ ending b) (bite_last b.less b.least c.bite c.left c.left t some_left)
          ∙ ap (λ (l : List Record). l ++ ending b) (boring_one b c.deep c.left)
          ∙ ap (λ (l : List Record). bore_to b (deep_at b (c.deep + c.left)) ∷ l) (sym (behind_last c));
      sound = record { part = s.part; whole = omega (arith, s.whole); above = nothing b.less b.least c.bite; ready = ready_last (eqb b.dwell 0) (bottomed c) };
    }

-- ---- the other stages
restaged : (c : Cursor) (n : Stage) → Sound c → Ready n (at c n) → Sound (at c n)
restaged c n s h = record { part = s.part; whole = s.whole; above = s.above; ready = h }

module _ (c : Cursor) (s : Sound c) where
  pub goes_home : c.stage ≡ Home → Makes c (out_to c.bore c.bore.start) (at c Back)
  unfolding rest_of rest_at
  goes_home z = record { first = here c z; sound = restaged c Back s (is_ready c z s) }

  pub draws_back : c.stage ≡ Back → Makes c (back_of c) (at c Bite)
  unfolding rest_of rest_at
  draws_back z = record { first = here c z; sound = restaged c Bite s (is_ready c z s) }

  -- to the depth reached less the retract
  pub drawn : c.stage ≡ Back → {t : ℕ} {n : Record} {e : Cursor} → t ≡ c.deep - c.bore.back → n ≡ out_to c.bore (deep_at c.bore t) → e ≡ at c Bite → Makes c n e
  drawn z d m b = made (draws_back z) (m ∙ ap (λ (t : ℕ). out_to c.bore (deep_at c.bore t)) d) b

  pub dwells : c.stage ≡ Dwell → Makes c (dwell c.bore.x c.bore.target c.bore.dwell) (at c Out)
  unfolding rest_of rest_at
  dwells z = record { first = here c z; sound = restaged c Out s tt }

  pub goes_out : c.stage ≡ Out → Makes c (out_to c.bore c.bore.start) (at c Over)
  unfolding rest_of rest_at
  goes_out z = record { first = here c z; sound = restaged c Over s tt }

-- ---- a bore that is opened
opened_row : (b : Bore) → wrong b ≡ false → bites_of (opened b) ≡ bites b
opened_row b q = go b.first refl
  where
    n : ℕ
    n = stroke_of b

    go : (f : ℕ) → b.first ≡ f → biting b.less b.least (cond (eqb b.first 0) n b.first) n n ≡ bites b
    go zero e = ap (λ (t : Bool). biting b.less b.least (cond t n b.first) n n) (eq-eqb b.first 0 e) ∙ bite_last b.less b.least n n n (omega arith) (asked b q).long ∙ sym (one_bite b e)
    go (suc f) e =
        let h : b.first ≡ 0 → ⊥ = λ z. omega arith in
        ap (λ (t : Bool). biting b.less b.least (cond t n b.first) n n) (ne_eqb b.first 0 h) ∙ sym (more_bites b h)

pub opens_with : (b : Bore) → wrong b ≡ false → rest_of (opened b) ≡ drilling b
unfolding rest_of rest_at drilling
opens_with b q = ap (λ (l : List ℕ). boring b 0 l ++ ending b) (opened_row b q)

pub opens_sound : (b : Bore) → wrong b ≡ false → Sound (opened b)
opens_sound b q = record { part = (asked b q).part; whole = omega arith; above = ap has_zero (opened_row b q) ∙ (asked b q).above; ready = (asked b q).long }

-- ---- none is left
pub never : false ≡ true → ⊥
never h = let z : ◌≡◌ {A = ℕ} 0 1 = cc in omega arith

none_at : (s : Stage) (c : Cursor) → over_at s ≡ true → rest_at s c ≡ []
unfolding rest_at
none_at Bite c h = absurd (never h)
none_at Home c h = absurd (never h)
none_at Back c h = absurd (never h)
none_at Dwell c h = absurd (never h)
none_at Out c h = absurd (never h)
none_at Over c h = refl

pub rest_none : (c : Cursor) → over c ≡ true → rest_of c ≡ []
unfolding rest_of
rest_none c e = none_at c.stage c e
