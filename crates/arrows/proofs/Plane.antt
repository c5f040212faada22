-- Three arrows of the plane, in parts along an axis (f₁, l₁, p₁) and across it (f₂, l₂, p₂), and where the third stands if it lies between the first and the last, counterclockwise, and
-- the axis does not lie strictly between: it reaches along the axis no farther than one of the two, but for 10 micrometres.
-- Assumes nothing.
use mathlib.Core.Path.{◌≡◌, sym, ap, ◌∙◌}
use mathlib.Core.Logic.{◌⊎◌, inl, inr}
use Prim.Native.Nat.{ℕ, ◌+◌, ◌*◌, ◌<◌}
use native.Mathlib.Omega.{arith}
use lib.IntN.{ℤ, pos, negsuc, neg_ℤ, nat_abs, *ℤ_comm, ◌+ℤ◌, ◌-ℤ◌, ◌*ℤ◌}
use lib.Signed.{◌≤ℤ◌}
use Rattle.whole.proofs.Integers.{whole, add_in, sub_in, up_neg, down_neg, abs_neg}
use Rattle.arrows.specs.Arrows.{slack}
use Rattle.arrows.proofs.Differences.{self, sum, dif, prod, neg, same, sub_mul, add_mul, mul_add, order_acb, order_bca, order_cba, order_a_cb, assoc}
use Rattle.arrows.proofs.Signs.{Neg, Pos, NonNeg, NonPos, Sign, minus, nought, plus, sign, zero_l, zero_r, pp, pn, np, nn, pp<, pn<, np<, nn<}
use Rattle.arrows.proofs.Roots.{Near}
use Rattle.arrows.proofs.Reaching.{reaches}

-- how the arrows lie to each other, whatever the axis: the products across of the first and the third, the third and the last, the first and the last, and the product along of the
-- first and the last
pub record Lie (f₁ f₂ l₁ l₂ p₁ p₂ x y w d : ℤ) : Type 0 where
  pub x_is : x ≡ f₁ *ℤ p₂ -ℤ f₂ *ℤ p₁
  pub y_is : y ≡ p₁ *ℤ l₂ -ℤ p₂ *ℤ l₁
  pub w_is : w ≡ f₁ *ℤ l₂ -ℤ f₂ *ℤ l₁
  pub d_is : d ≡ f₁ *ℤ l₁ +ℤ f₂ *ℤ l₂

module _ {f₁ f₂ l₁ l₂ p₁ p₂ x y w d : ℤ} (h : Lie f₁ f₂ l₁ l₂ p₁ p₂ x y w d) where
  -- seen in a mirror that lies along the axis, the last arrow is the first
  pub mirrored : Lie l₁ (neg_ℤ l₂) f₁ (neg_ℤ f₂) p₁ (neg_ℤ p₂) y x w d
  mirrored =
      let f₁ᵢ = self f₁ in let f₂ᵢ = self f₂ in let l₁ᵢ = self l₁ in let l₂ᵢ = self l₂ in let p₁ᵢ = self p₁ in let p₂ᵢ = self p₂ in
      record {
        x_is = h.y_is ∙ same (dif (prod p₁ᵢ l₂ᵢ) (prod p₂ᵢ l₁ᵢ)) (dif (prod l₁ᵢ (neg p₂ᵢ)) (prod (neg l₂ᵢ) p₁ᵢ)) (omega arith);
        y_is = h.x_is ∙ same (dif (prod f₁ᵢ p₂ᵢ) (prod f₂ᵢ p₁ᵢ)) (dif (prod p₁ᵢ (neg f₂ᵢ)) (prod (neg p₂ᵢ) f₁ᵢ)) (omega arith);
        w_is = h.w_is ∙ same (dif (prod f₁ᵢ l₂ᵢ) (prod f₂ᵢ l₁ᵢ)) (dif (prod l₁ᵢ (neg f₂ᵢ)) (prod (neg l₂ᵢ) f₁ᵢ)) (omega arith);
        d_is = h.d_is ∙ same (sum (prod f₁ᵢ l₁ᵢ) (prod f₂ᵢ l₂ᵢ)) (sum (prod l₁ᵢ f₁ᵢ) (prod (neg l₂ᵢ) (neg f₂ᵢ))) (omega arith);
      }

  -- three arrows of a plane
  triple : x *ℤ l₂ +ℤ y *ℤ f₂ ≡ w *ℤ p₂
  triple =
      let a = ap (λ (k : ℤ). k *ℤ l₂) h.x_is ∙ sub_mul (f₁ *ℤ p₂) (f₂ *ℤ p₁) l₂ in
      let b = ap (λ (k : ℤ). k *ℤ f₂) h.y_is ∙ sub_mul (p₁ *ℤ l₂) (p₂ *ℤ l₁) f₂ in
      let c = ap (λ (k : ℤ). k *ℤ p₂) h.w_is ∙ sub_mul (f₁ *ℤ l₂) (f₂ *ℤ l₁) p₂ in
      omega (
        whole,
        order_acb f₁ p₂ l₂,
        order_bca f₂ p₁ l₂,
        order_cba p₂ l₁ f₂,
        add_in (x *ℤ l₂) (y *ℤ f₂),
        sub_in (f₁ *ℤ p₂ *ℤ l₂) (f₂ *ℤ p₁ *ℤ l₂),
        sub_in (p₁ *ℤ l₂ *ℤ f₂) (p₂ *ℤ l₁ *ℤ f₂),
        sub_in (f₁ *ℤ l₂ *ℤ p₂) (f₂ *ℤ l₁ *ℤ p₂),
      )

  -- the same along the axis
  triple_along : x *ℤ l₁ +ℤ y *ℤ f₁ ≡ w *ℤ p₁
  triple_along =
      let a = ap (λ (k : ℤ). k *ℤ l₁) h.x_is ∙ sub_mul (f₁ *ℤ p₂) (f₂ *ℤ p₁) l₁ in
      let b = ap (λ (k : ℤ). k *ℤ f₁) h.y_is ∙ sub_mul (p₁ *ℤ l₂) (p₂ *ℤ l₁) f₁ in
      let c = ap (λ (k : ℤ). k *ℤ p₁) h.w_is ∙ sub_mul (f₁ *ℤ l₂) (f₂ *ℤ l₁) p₁ in
      omega (
        whole,
        order_bca f₁ p₂ l₁,
        order_acb f₂ p₁ l₁,
        order_cba p₁ l₂ f₁,
        add_in (x *ℤ l₁) (y *ℤ f₁),
        sub_in (f₁ *ℤ p₂ *ℤ l₁) (f₂ *ℤ p₁ *ℤ l₁),
        sub_in (p₁ *ℤ l₂ *ℤ f₁) (p₂ *ℤ l₁ *ℤ f₁),
        sub_in (f₁ *ℤ l₂ *ℤ p₁) (f₂ *ℤ l₁ *ℤ p₁),
      )

  -- and both with the first arrow
  pub pull : x *ℤ d +ℤ y *ℤ (f₁ *ℤ f₁ +ℤ f₂ *ℤ f₂) ≡ w *ℤ (p₁ *ℤ f₁ +ℤ p₂ *ℤ f₂)
  pull =
      let e₁ = sym (add_mul (x *ℤ l₁) (y *ℤ f₁) f₁) ∙ ap (λ (k : ℤ). k *ℤ f₁) triple_along in
      let e₂ = sym (add_mul (x *ℤ l₂) (y *ℤ f₂) f₂) ∙ ap (λ (k : ℤ). k *ℤ f₂) triple in
      let a = ap (λ (k : ℤ). x *ℤ k) h.d_is ∙ mul_add x (f₁ *ℤ l₁) (f₂ *ℤ l₂) in
      let b = mul_add y (f₁ *ℤ f₁) (f₂ *ℤ f₂) in
      let c = mul_add w (p₁ *ℤ f₁) (p₂ *ℤ f₂) in
      omega (
        whole,
        order_a_cb x l₁ f₁,
        order_a_cb x l₂ f₂,
        assoc y f₁ f₁,
        assoc y f₂ f₂,
        assoc w p₁ f₁,
        assoc w p₂ f₂,
        add_in (x *ℤ l₁ *ℤ f₁) (y *ℤ f₁ *ℤ f₁),
        add_in (x *ℤ l₂ *ℤ f₂) (y *ℤ f₂ *ℤ f₂),
        add_in (x *ℤ (f₁ *ℤ l₁)) (x *ℤ (f₂ *ℤ l₂)),
        add_in (y *ℤ (f₁ *ℤ f₁)) (y *ℤ (f₂ *ℤ f₂)),
        add_in (w *ℤ (p₁ *ℤ f₁)) (w *ℤ (p₂ *ℤ f₂)),
        add_in (x *ℤ d) (y *ℤ (f₁ *ℤ f₁ +ℤ f₂ *ℤ f₂)),
      )

  -- the last arrow's part across, from the products with the first
  pub split : d *ℤ l₂ ≡ w *ℤ l₁ +ℤ f₂ *ℤ (l₁ *ℤ l₁ +ℤ l₂ *ℤ l₂)
  split =
      let a = ap (λ (k : ℤ). k *ℤ l₂) h.d_is ∙ add_mul (f₁ *ℤ l₁) (f₂ *ℤ l₂) l₂ in
      let b = ap (λ (k : ℤ). k *ℤ l₁) h.w_is ∙ sub_mul (f₁ *ℤ l₂) (f₂ *ℤ l₁) l₁ in
      let c = mul_add f₂ (l₁ *ℤ l₁) (l₂ *ℤ l₂) in
      omega (
        whole,
        order_acb f₁ l₁ l₂,
        assoc f₂ l₁ l₁,
        assoc f₂ l₂ l₂,
        add_in (w *ℤ l₁) (f₂ *ℤ (l₁ *ℤ l₁ +ℤ l₂ *ℤ l₂)),
        add_in (f₁ *ℤ l₁ *ℤ l₂) (f₂ *ℤ l₂ *ℤ l₂),
        sub_in (f₁ *ℤ l₂ *ℤ l₁) (f₂ *ℤ l₁ *ℤ l₁),
        add_in (f₂ *ℤ (l₁ *ℤ l₁)) (f₂ *ℤ (l₂ *ℤ l₂)),
      )

-- the arrows' lengths: the third, to a place in q-ths, on the circle of radius √m; those of the first and the last differ from it by at most 10 micrometres
pub record Lengths (q m n k : ℕ) (f₁ f₂ l₁ l₂ p₁ p₂ : ℤ) : Type 0 where
  pub some : 0 < q
  pub m>0 : 0 < m
  pub n>0 : 0 < n
  pub k>0 : 0 < k
  pub m_n : Near m n
  pub n_m : Near n m
  pub m_k : Near m k
  pub k_m : Near k m
  pub circle : nat_abs p₁ * nat_abs p₁ + nat_abs p₂ * nat_abs p₂ ≡ q * q * m
  pub n_is : nat_abs f₁ * nat_abs f₁ + nat_abs f₂ * nat_abs f₂ ≡ n
  pub k_is : nat_abs l₁ * nat_abs l₁ + nat_abs l₂ * nat_abs l₂ ≡ k

square_neg : (a b : ℤ) → nat_abs a * nat_abs a + nat_abs (neg_ℤ b) * nat_abs (neg_ℤ b) ≡ nat_abs a * nat_abs a + nat_abs b * nat_abs b
square_neg a b = ap (λ (k : ℕ). nat_abs a * nat_abs a + k * k) (abs_neg b)

lengths_mirrored : {q m n k : ℕ} {f₁ f₂ l₁ l₂ p₁ p₂ : ℤ} → Lengths q m n k f₁ f₂ l₁ l₂ p₁ p₂ → Lengths q m k n l₁ (neg_ℤ l₂) f₁ (neg_ℤ f₂) p₁ (neg_ℤ p₂)
lengths_mirrored {f₁ = f₁} {f₂ = f₂} {l₁ = l₁} {l₂ = l₂} {p₁ = p₁} {p₂ = p₂} h = record {
  some = h.some;
  m>0 = h.m>0;
  n>0 = h.k>0;
  k>0 = h.n>0;
  m_n = h.m_k;
  n_m = h.k_m;
  m_k = h.m_n;
  k_m = h.n_m;
  circle = square_neg p₁ p₂ ∙ h.circle;
  n_is = square_neg l₁ l₂ ∙ h.k_is;
  k_is = square_neg f₁ f₂ ∙ h.n_is;
}

turn_of : (f₁ f₂ p₁ p₂ x : ℤ) → x ≡ f₁ *ℤ p₂ -ℤ f₂ *ℤ p₁ → NonNeg f₂ → NonNeg p₂ → NonNeg x → (p₁ *ℤ pos (nat_abs f₂)) ≤ℤ (f₁ *ℤ pos (nat_abs p₂))
turn_of f₁ (pos g) p₁ (pos b) x e hf hp hx = omega (whole, sub_in (f₁ *ℤ pos b) (pos g *ℤ p₁), *ℤ_comm (pos g) p₁)
turn_of f₁ (negsuc g) p₁ p₂ x e hf hp hx = absurd (omega whole)
turn_of f₁ (pos g) p₁ (negsuc b) x e hf hp hx = absurd (omega whole)

pos_abs : (z : ℤ) → Pos z → 0 < nat_abs z
pos_abs (pos n) h = omega whole
pos_abs (negsuc n) h = absurd (omega whole)

-- the third reaches no farther than the first, but for 10 micrometres, or no farther than the last
pub data Reached (q : ℕ) (f₁ l₁ p₁ : ℤ) : Type 0 where
  as_first : p₁ ≤ℤ (pos q *ℤ (f₁ +ℤ pos slack)) → Reached q f₁ l₁ p₁
  as_last : p₁ ≤ℤ (pos q *ℤ (l₁ +ℤ pos slack)) → Reached q f₁ l₁ p₁

swapped : {q : ℕ} {f₁ l₁ p₁ : ℤ} → Reached q l₁ f₁ p₁ → Reached q f₁ l₁ p₁
swapped (as_first h) = as_last h
swapped (as_last h) = as_first h

module _ {q m n k : ℕ} {f₁ f₂ l₁ l₂ p₁ p₂ x y w d : ℤ} (h : Lie f₁ f₂ l₁ l₂ p₁ p₂ x y w d) (t : Lengths q m n k f₁ f₂ l₁ l₂ p₁ p₂) where
  -- all of them on one side of the axis
  pub by_first : NonNeg f₂ → NonNeg p₂ → NonNeg x → Pos p₂ ⊎ (Pos f₁ ⊎ NonPos p₁) → Reached q f₁ l₁ p₁
  by_first hf hp hx o = as_first (reaches p₁ f₁ (record {
    some = t.some;
    m>0 = t.m>0;
    n>0 = t.n>0;
    above = t.m_n;
    below = t.n_m;
    circle = t.circle;
    end = t.n_is;
    turn = turn_of f₁ f₂ p₁ p₂ x h.x_is hf hp hx;
    proper = proper o;
  }))
    where
      proper : Pos p₂ ⊎ (Pos f₁ ⊎ NonPos p₁) → (0 < nat_abs p₂) ⊎ (Pos f₁ ⊎ NonPos p₁)
      proper (inl e) = inl (pos_abs p₂ e)
      proper (inr e) = inr e

module _ {q m n k : ℕ} {f₁ f₂ l₁ l₂ p₁ p₂ x y w d : ℤ} (h : Lie f₁ f₂ l₁ l₂ p₁ p₂ x y w d) (t : Lengths q m n k f₁ f₂ l₁ l₂ p₁ p₂) where
  pub by_last : NonPos l₂ → NonPos p₂ → NonNeg y → Neg p₂ ⊎ (Pos l₁ ⊎ NonPos p₁) → Reached q f₁ l₁ p₁
  by_last hl hp hy o = swapped (by_first (mirrored h) (lengths_mirrored t) (omega (whole, up_neg l₂, down_neg l₂)) (omega (whole, up_neg p₂, down_neg p₂)) hy (proper o))
    where
      proper : Neg p₂ ⊎ (Pos l₁ ⊎ NonPos p₁) → Pos (neg_ℤ p₂) ⊎ (Pos l₁ ⊎ NonPos p₁)
      proper (inl e) = inl (omega (whole, up_neg p₂, down_neg p₂))
      proper (inr e) = inr e

no_length : (a b : ℤ) (n : ℕ) → nat_abs a * nat_abs a + nat_abs b * nat_abs b ≡ n → 0 < n → a ≡ pos 0 → b ≡ pos 0 → ⊥
no_length a b n e h ea eb = omega (arith, ap (λ (k : ℤ). nat_abs k * nat_abs k) ea, ap (λ (k : ℤ). nat_abs k * nat_abs k) eb)

pub square_pos : (a : ℤ) → NonNeg (a *ℤ a)
square_pos (pos a) = omega whole
square_pos (negsuc a) = omega whole

-- ---- more than half a turn, and the axis not strictly between
module _ {q m n k : ℕ} {f₁ f₂ l₁ l₂ p₁ p₂ x y w d : ℤ} (h : Lie f₁ f₂ l₁ l₂ p₁ p₂ x y w d) (t : Lengths q m n k f₁ f₂ l₁ l₂ p₁ p₂) where
  module _ (hw : Neg w) (hf : NonNeg f₂) (hl : NonPos l₂) where
    over_above : Pos p₂ → NonNeg x ⊎ NonNeg y → Reached q f₁ l₁ p₁
    over_above hp (inl hx) = by_first h t hf (omega whole) hx (inl hp)
    over_above hp (inr hy) = by_first h t hf (omega whole) (go (sign x)) (inl hp)
      where
        go : Sign x → NonNeg x
        go (minus e) =
            let e' : NonPos x = omega whole in
            absurd (omega (whole, triple h, add_in (x *ℤ l₂) (y *ℤ f₂), nn x l₂ e' hl, pp y f₂ hy hf, np< w p₂ hw hp))
        go (nought e) = omega whole
        go (plus e) = omega whole

    over_on : p₂ ≡ pos 0 → Pos p₁ → NonNeg x → Reached q f₁ l₁ p₁
    over_on e hp hx = go (sign f₂) (sign f₁)
      where
        z : f₁ *ℤ p₂ ≡ pos 0
        z = zero_r f₁ p₂ e

        go : Sign f₂ → Sign f₁ → Reached q f₁ l₁ p₁
        go (minus b) a = absurd (omega whole)
        go (plus b) a = absurd (omega (whole, h.x_is, z, sub_in (f₁ *ℤ p₂) (f₂ *ℤ p₁), pp< f₂ p₁ b hp))
        go (nought b) (plus a) = by_first h t hf (omega whole) hx (inr (inl a))
        go (nought b) (nought a) = absurd (no_length f₁ f₂ n t.n_is t.n>0 a b)
        go (nought b) (minus a) =
            let a' : NonPos f₁ = omega whole in
            absurd (omega (whole, h.w_is, zero_l f₂ l₁ b, sub_in (f₁ *ℤ l₂) (f₂ *ℤ l₁), nn f₁ l₂ a' hl))

    over_against : p₂ ≡ pos 0 → NonPos p₁ → Reached q f₁ l₁ p₁
    over_against e hp = by_first h t hf (omega whole) (omega (whole, h.x_is, zero_r f₁ p₂ e, sub_in (f₁ *ℤ p₂) (f₂ *ℤ p₁), pn f₂ p₁ hf hp)) (inr (inr hp))

other : {a b : ℤ} → NonNeg a ⊎ NonNeg b → NonNeg b ⊎ NonNeg a
other (inl h) = inr h
other (inr h) = inl h

module _ (z : ℤ) where
  neg_pos : Neg z → Pos (neg_ℤ z)
  neg_pos h = omega (whole, up_neg z, down_neg z)

  neg_non_neg : NonNeg z → NonPos (neg_ℤ z)
  neg_non_neg h = omega (whole, up_neg z, down_neg z)

  neg_non_pos : NonPos z → NonNeg (neg_ℤ z)
  neg_non_pos h = omega (whole, up_neg z, down_neg z)

  neg_zero : z ≡ pos 0 → neg_ℤ z ≡ pos 0
  neg_zero h = omega (whole, up_neg z, down_neg z)

module _ {q m n k : ℕ} {f₁ f₂ l₁ l₂ p₁ p₂ x y w d : ℤ} (h : Lie f₁ f₂ l₁ l₂ p₁ p₂ x y w d) (t : Lengths q m n k f₁ f₂ l₁ l₂ p₁ p₂) where
  pub over_half : Neg w → NonNeg f₂ → NonPos l₂ → NonNeg x ⊎ NonNeg y → Reached q f₁ l₁ p₁
  over_half hw hf hl o = go (sign p₂) (sign p₁) o
    where
      go : Sign p₂ → Sign p₁ → NonNeg x ⊎ NonNeg y → Reached q f₁ l₁ p₁
      go (plus s) r o = over_above h t hw hf hl s o
      go (minus s) r o = swapped (over_above (mirrored h) (lengths_mirrored t) hw (neg_non_pos l₂ hl) (neg_non_neg f₂ hf) (neg_pos p₂ s) (other o))
      go (nought s) (minus r) o = over_against h t hw hf hl s (omega whole)
      go (nought s) (nought r) o = over_against h t hw hf hl s (omega whole)
      go (nought s) (plus r) (inl hx) = over_on h t hw hf hl s r hx
      go (nought s) (plus r) (inr hy) = swapped (over_on (mirrored h) (lengths_mirrored t) hw (neg_non_pos l₂ hl) (neg_non_neg f₂ hf) (neg_zero p₂ s) r hy)

-- ---- up to half a turn, not on one ray, and the axis not strictly between
module _ {q m n k : ℕ} {f₁ f₂ l₁ l₂ p₁ p₂ x y w d : ℤ} (h : Lie f₁ f₂ l₁ l₂ p₁ p₂ x y w d) (t : Lengths q m n k f₁ f₂ l₁ l₂ p₁ p₂) where
  module _ (hw : NonNeg w) (o : Pos w ⊎ NonPos d) (hx : NonNeg x) (hy : NonNeg y) (hf : NonNeg f₂) where
    up_on : p₂ ≡ pos 0 → Pos p₁ → Reached q f₁ l₁ p₁
    up_on e hp = go (sign f₂) (sign f₁) (sign l₂) (sign l₁) o
      where
        go : Sign f₂ → Sign f₁ → Sign l₂ → Sign l₁ → Pos w ⊎ NonPos d → Reached q f₁ l₁ p₁
        go (minus b) a c g o = absurd (omega whole)
        go (plus b) a c g o = absurd (omega (whole, h.x_is, zero_r f₁ p₂ e, sub_in (f₁ *ℤ p₂) (f₂ *ℤ p₁), pp< f₂ p₁ b hp))
        go (nought b) (plus a) c g o = by_first h t hf (omega whole) hx (inr (inl a))
        go (nought b) (nought a) c g o = absurd (no_length f₁ f₂ n t.n_is t.n>0 a b)
        go (nought b) (minus a) (minus c) g o = absurd (omega (whole, h.y_is, zero_l p₂ l₁ e, sub_in (p₁ *ℤ l₂) (p₂ *ℤ l₁), pn< p₁ l₂ hp c))
        go (nought b) (minus a) (plus c) g o = absurd (omega (whole, h.w_is, zero_l f₂ l₁ b, sub_in (f₁ *ℤ l₂) (f₂ *ℤ l₁), np< f₁ l₂ a c))
        go (nought b) (minus a) (nought c) (plus g) o = by_last h t (omega whole) (omega whole) hy (inr (inl g))
        go (nought b) (minus a) (nought c) (nought g) o = absurd (no_length l₁ l₂ k t.k_is t.k>0 g c)
        go (nought b) (minus a) (nought c) (minus g) (inl o) = absurd (omega (whole, h.w_is, zero_l f₂ l₁ b, zero_r f₁ l₂ c, sub_in (f₁ *ℤ l₂) (f₂ *ℤ l₁)))
        go (nought b) (minus a) (nought c) (minus g) (inr o) = absurd (omega (whole, h.d_is, zero_l f₂ l₂ b, nn< f₁ l₁ a g, add_in (f₁ *ℤ l₁) (f₂ *ℤ l₂)))

    up_beyond : Neg p₂ → Pos l₂ → Pos w ⊎ NonPos d → ⊥
    up_beyond hp hl (inl o) =
        let l' : NonNeg l₂ = omega whole in
        omega (whole, triple h, add_in (x *ℤ l₂) (y *ℤ f₂), pp x l₂ hx l', pp y f₂ hy hf, pn< w p₂ o hp)
    up_beyond hp hl (inr o) = go (sign w) (sign f₂) (sign f₁)
      where
        l' : NonNeg l₂
        l' = omega whole

        wide : Pos (l₁ *ℤ l₁ +ℤ l₂ *ℤ l₂)
        wide = omega (whole, add_in (l₁ *ℤ l₁) (l₂ *ℤ l₂), square_pos l₁, pp< l₂ l₂ hl hl)

        go : Sign w → Sign f₂ → Sign f₁ → ⊥
        go (minus c) b a = omega whole
        go (plus c) b a = omega (whole, triple h, add_in (x *ℤ l₂) (y *ℤ f₂), pp x l₂ hx l', pp y f₂ hy hf, pn< w p₂ c hp)
        go (nought c) (minus b) a = omega whole
        go (nought c) (plus b) a = omega (whole, split h, np d l₂ o l', zero_l w l₁ c, add_in (w *ℤ l₁) (f₂ *ℤ (l₁ *ℤ l₁ +ℤ l₂ *ℤ l₂)), pp< f₂ (l₁ *ℤ l₁ +ℤ l₂ *ℤ l₂) b wide)
        go (nought c) (nought b) (nought a) = no_length f₁ f₂ n t.n_is t.n>0 a b
        go (nought c) (nought b) (plus a) = omega (whole, h.w_is, zero_l f₂ l₁ b, sub_in (f₁ *ℤ l₂) (f₂ *ℤ l₁), pp< f₁ l₂ a hl)
        go (nought c) (nought b) (minus a) = omega (whole, h.w_is, zero_l f₂ l₁ b, sub_in (f₁ *ℤ l₂) (f₂ *ℤ l₁), np< f₁ l₂ a hl)

    up_first : Reached q f₁ l₁ p₁
    up_first = go (sign p₂) (sign p₁) (sign l₂)
      where
        go : Sign p₂ → Sign p₁ → Sign l₂ → Reached q f₁ l₁ p₁
        go (plus s) r u = by_first h t hf (omega whole) hx (inl s)
        go (nought s) (minus r) u = by_first h t hf (omega whole) hx (inr (inr (omega whole)))
        go (nought s) (nought r) u = by_first h t hf (omega whole) hx (inr (inr (omega whole)))
        go (nought s) (plus r) u = up_on s r
        go (minus s) r (minus u) = by_last h t (omega whole) (omega whole) hy (inl s)
        go (minus s) r (nought u) = by_last h t (omega whole) (omega whole) hy (inl s)
        go (minus s) r (plus u) = absurd (up_beyond s u o)

module _ {q m n k : ℕ} {f₁ f₂ l₁ l₂ p₁ p₂ x y w d : ℤ} (h : Lie f₁ f₂ l₁ l₂ p₁ p₂ x y w d) (t : Lengths q m n k f₁ f₂ l₁ l₂ p₁ p₂) where
  pub up_to_half : NonNeg w → Pos w ⊎ NonPos d → NonNeg x → NonNeg y → NonNeg f₂ ⊎ NonPos l₂ → Reached q f₁ l₁ p₁
  up_to_half hw o hx hy (inl hf) = up_first h t hw o hx hy hf
  up_to_half hw o hx hy (inr hl) = swapped (up_first (mirrored h) (lengths_mirrored t) hw o hy hx (neg_non_pos l₂ hl))
