-- A tape that is cut where a line of it ends has the same lines up to there.
-- Assumes nothing.
use mathlib.Core.Path.{◌≡◌, refl, ap, ◌∙◌}
use mathlib.Core.Bool.{Bool, true, false, cond, ◌&&◌}
use mathlib.Core.List.{List, [], ◌∷◌}
use Prim.Native.Nat.{ℕ, zero, suc, ◌+◌, ◌-◌, ◌<◌, ◌≤◌}
use native.Mathlib.Omega.{arith}
use lib.Dec.{ltb, eqb}
use lib.ListN.{length, take, drop, get_or}
use lib.Seq.{take-add, drop_at, length-take-le, get_or-take, take_all, take-take}
use borrow.Author.Tests.{ltb-true, ltb-false, lt-ltb}
use Rattle.tape.specs.declared.line.Line.{Line}
use Rattle.letters.specs.Letters.{cr}
use Rattle.tape.specs.Lines.{seek, seek_from, is_line_feed, line_at, LineIn, Text, text_at, lines}
use Rattle.tape.proofs.Lining.{line_in_lem, lines_more}

seek_cut : (t : ℕ → Bool) (s : List ℕ) (m : ℕ) → seek t s < m → seek t (take m s) ≡ seek t s
unfolding seek
seek_cut t [] zero h = refl
seek_cut t [] (suc m) h = refl
seek_cut t (b ∷ s) zero h = absurd (omega arith)
seek_cut t (b ∷ s) (suc m) h = go (t b) h (λ l. seek_cut t s m l)
  where
    go : (u : Bool) → cond u 0 (suc (seek t s)) < suc m → (seek t s < m → seek t (take m s) ≡ seek t s) → cond u 0 (suc (seek t (take m s))) ≡ cond u 0 (suc (seek t s))
    go true h rest = refl
    go false h rest = ap suc (rest (omega arith))

drop_cut : (s : List ℕ) (p e : ℕ) → p ≤ e → p ≤ length s → drop p (take e s) ≡ take (e - p) (drop p s)
drop_cut s p e h l =
    ap (λ (n : ℕ). drop p (take n s)) same ∙ ap (drop p) (take-add p (e - p) s) ∙ drop_at (take p s) (take (e - p) (drop p s)) p (length-take-le p s l)
  where
    same : e ≡ p + (e - p)
    same = omega arith

-- the text of a line ends where the next one begins, or before
stop_after : (s : List ℕ) (p : ℕ) → (line_at s p).stop ≤ (line_at s p).after
unfolding line_at
stop_after s p = go (seek_from is_line_feed s p) (ltb (seek_from is_line_feed s p) (length s)) (ltb p (seek_from is_line_feed s p) && eqb (get_or s (seek_from is_line_feed s p - 1) 0) cr)
  where
    go : (n : ℕ) (t u : Bool) → let r : Line = cond t (record { stop = cond u (n - 1) n; after = n + 1 }) (record { stop = n; after = n }) in r.stop ≤ r.after
    go n true true = omega arith
    go n true false = omega arith
    go n false u = omega arith

-- a line by the place of its feed
shape : ℕ → ℕ → ℕ → ℕ → Line
shape n size b p = cond (ltb n size) (record { stop = cond (ltb p n && eqb b cr) (n - 1) n; after = n + 1 }) (record { stop = n; after = n })

module _ (s : List ℕ) (p e : ℕ) (inside : p < length s) (ends : (line_at s p).after ≤ e) (size : e ≤ length s) where
  pub line_cut : line_at (take e s) p ≡ line_at s p
  unfolding line_at shape
  line_cut =
      let n = seek_from is_line_feed s p in
      go (ltb n (length s)) refl ends
    where
      go : (t : Bool) → ltb (seek_from is_line_feed s p) (length s) ≡ t
          → (cond {A = Line} t (record { stop = cond (ltb p (seek_from is_line_feed s p) && eqb (get_or s (seek_from is_line_feed s p - 1) 0) cr) (seek_from is_line_feed s p - 1) (seek_from is_line_feed s p); after = seek_from is_line_feed s p + 1 }) (record { stop = seek_from is_line_feed s p; after = seek_from is_line_feed s p })).after ≤ e
          → shape (seek_from is_line_feed (take e s) p) (length (take e s)) (get_or (take e s) (seek_from is_line_feed (take e s) p - 1) 0) p
          ≡ shape (seek_from is_line_feed s p) (length s) (get_or s (seek_from is_line_feed s p - 1) 0) p
      go true q a =
          let n = seek_from is_line_feed s p in
          let l : n < length s = ltb-true n (length s) q in
          let same : seek_from is_line_feed (take e s) p ≡ n =
          ap (λ (r : List ℕ). p + seek is_line_feed r) (drop_cut s p e (omega arith) (omega arith)) ∙ ap (λ (k : ℕ). p + k) (seek_cut is_line_feed (drop p s) (e - p) (omega arith)) in
          ap (λ (k : ℕ). shape k (length (take e s)) (get_or (take e s) (k - 1) 0) p) same
          ∙ ap (λ (k : ℕ). shape n k (get_or (take e s) (n - 1) 0) p) (length-take-le e s size)
          ∙ ap (λ (b : ℕ). shape n e b p) (get_or-take e s (n - 1) 0 (omega arith))
          ∙ rw (lt-ltb n e (omega arith), q)
      go false q a =
          let n = seek_from is_line_feed s p in
          let l : length s ≤ n = ltb-false n (length s) q in
          let whole : take e s ≡ s = take_all e s (omega arith) in
          ap (λ (r : List ℕ). shape (seek_from is_line_feed r p) (length r) (get_or r (seek_from is_line_feed r p - 1) 0) p) whole

  pub text_cut : text_at (take e s) p ≡ text_at s p
  text_cut =
      let b : LineIn (line_at s p) p (length s) = line_in_lem s p (omega arith) in
      let w : (line_at s p).stop ≤ (line_at s p).after = stop_after s p in
      ap (λ (l : Line). record { place = p; bytes = take (l.stop - p) (drop p (take e s)); after = l.after }) line_cut
      ∙ ap (λ (r : List ℕ). record { place = p; bytes = r; after = (line_at s p).after })
      (ap (take ((line_at s p).stop - p)) (drop_cut s p e (omega (arith, b.onward inside)) (omega arith)) ∙ take-take ((line_at s p).stop - p) (e - p) (drop p s) (omega arith))

  -- the lines from here on
  pub lines_cut : lines (take e s) p ≡ text_at s p ∷ lines (take e s) (line_at s p).after
  lines_cut =
      let b : LineIn (line_at s p) p (length s) = line_in_lem s p (omega arith) in
      lines_more (take e s) p (omega (arith, b.onward inside, length-take-le e s size))
      ∙ ap (λ (t : Text). t ∷ lines (take e s) t.after) text_cut
