-- THE BYTES OF A LIST HAVE ONE READING: what was written is read back, and so two lists with the same bytes are the same list.
-- Assumes nothing.
use mathlib.Core.Path.{◌≡◌, refl, sym, ap, ◌∙◌}
use mathlib.Core.List.{List, [], ◌∷◌, ◌++◌, append_assoc}
use Prim.Native.Nat.{ℕ, suc, ◌+◌, ◌*◌, ◌/◌, ◌%◌}
use native.Mathlib.Omega.{arith}
use lib.ListN.{length, take, drop, length-append}
use lib.Seq.{take_at, drop_at}
use Rattle.octets.specs.Bytes.{little_endian, value_of, signed_bytes, signed_of}
use Rattle.octets.proofs.LittleEndian.{length_little, length_signed, read_back, signed_read_back}
use Rattle.moves.specs.declared.Record.{Record}
use Rattle.moves.specs.declared.Origin.{Origin}
use Rattle.moves.specs.declared.Listed.{Listed}
use Rattle.moves.specs.Kinds.{flagged}
use Rattle.moves.specs.Form.{header_size, record_size, record_start, header_bytes, what_bytes, origin_bytes, record_bytes, row_bytes, list_bytes, listed, stamped, whats, Fitting, FittingOrigin, AllListed, LawfulList}
use Rattle.moves.specs.Reading.{number_at, record_in, origin_in, listed_in, row_in, row_at, list_in}
use Rattle.moves.proofs.Writing.{length_what}

-- ---- lengths
pub length_record : (l : Listed) → length (record_bytes l) ≡ record_size
unfolding record_bytes origin_bytes
length_record l = omega (arith, length-append (what_bytes l.what) (origin_bytes l.origin), length_what l.what)

pub length_row : (ls : List Listed) → length (row_bytes ls) ≡ record_size * length ls
unfolding row_bytes
length_row [] = refl
length_row (l ∷ ls) = length-append (record_bytes l) (row_bytes ls) ∙ omega (arith, length_record l, length_row ls)

pub length_header : (n : ℕ) → length (header_bytes n) ≡ header_size
unfolding header_bytes
length_header n = refl

pub length_list : (ls : List Listed) → length (list_bytes ls) ≡ record_start (length ls)
unfolding list_bytes
length_list ls = length-append (header_bytes (length ls)) (row_bytes ls) ∙ omega (arith, length_header (length ls), length_row ls)

pub row_append : (v w : List Listed) → row_bytes (v ++ w) ≡ row_bytes v ++ row_bytes w
unfolding row_bytes
row_append [] w = refl
row_append (l ∷ v) w = ap (λ (b : List ℕ). record_bytes l ++ b) (row_append v w) ∙ sym (append_assoc (record_bytes l) (row_bytes v) (row_bytes w))

-- ---- records, and the block that they came from
pub length_stamped : (o : Origin) (rs : List Record) → length (stamped o rs) ≡ length rs
unfolding stamped
length_stamped o [] = refl
length_stamped o (r ∷ rs) = ap suc (length_stamped o rs)

pub stamped_append : (o : Origin) (v w : List Record) → stamped o (v ++ w) ≡ stamped o v ++ stamped o w
unfolding stamped
stamped_append o [] w = refl
stamped_append o (r ∷ v) w = ap (λ (l : List Listed). listed o r ∷ l) (stamped_append o v w)

pub length_whats : (ls : List Listed) → length (whats ls) ≡ length ls
unfolding whats
length_whats [] = refl
length_whats (l ∷ ls) = ap suc (length_whats ls)

pub whats_append : (v w : List Listed) → whats (v ++ w) ≡ whats v ++ whats w
unfolding whats
whats_append [] w = refl
whats_append (l ∷ v) w = ap (λ (rs : List Record). l.what ∷ rs) (whats_append v w)

-- what a block did is not changed by putting its number on
pub whats_stamped : (o : Origin) (rs : List Record) → whats (stamped o rs) ≡ rs
unfolding stamped whats
whats_stamped o [] = refl
whats_stamped o (r ∷ rs) = ap (λ (l : List Record). r ∷ l) (whats_stamped o rs)

-- ---- one record is read back, whatever follows it
-- the number of w, which stands behind p and before t
number_at_lem : (p w t : List ℕ) (i n : ℕ) → length p ≡ i → length w ≡ n → number_at (p ++ (w ++ t)) i n ≡ value_of w
number_at_lem p w t i n lp lw = ap value_of (ap (take n) (drop_at p (w ++ t) i lp) ∙ take_at w t n lw)

-- what is done
pub what_read : (r : Record) (t : List ℕ) → Fitting r → record_in (what_bytes r ++ t) ≡ r
unfolding what_bytes record_in
what_read r t f =
    let x : List ℕ = signed_bytes r.x in
    let z : List ℕ = signed_bytes r.z in
    let v : List ℕ = little_endian 4 r.value in
    let front : List ℕ → List ℕ = λ l. r.kind ∷ r.flags ∷ 0 ∷ 0 ∷ l in
    let b : List ℕ = front (x ++ (z ++ (v ++ t))) in
    let e : what_bytes r ++ t ≡ b = ap front (append_assoc x (z ++ v) t ∙ ap (λ (l : List ℕ). x ++ l) (append_assoc z v t)) in
    let lz : length (front (x ++ z)) ≡ 12 = omega (arith, length-append x z, length_signed r.x, length_signed r.z) in
    let ex : signed_of (number_at b 4 4) ≡ r.x =
    ap signed_of (number_at_lem (front []) x (z ++ (v ++ t)) 4 4 refl (length_signed r.x)) ∙ signed_read_back r.x f.x in
    let ez : signed_of (number_at b 8 4) ≡ r.z =
    ap signed_of (number_at_lem (front x) z (v ++ t) 8 4 (omega (arith, length_signed r.x)) (length_signed r.z)) ∙ signed_read_back r.z f.z in
    let ev : number_at b 12 4 ≡ r.value =
    ap (λ (l : List ℕ). number_at (front l) 12 4) (sym (append_assoc x z (v ++ t))) ∙ number_at_lem (front (x ++ z)) v t 12 4 lz (length_little 4 r.value)
    ∙ read_back 4 r.value f.value in
    ap record_in e ∙ (λ i. flagged r.kind r.flags (ex i) (ez i) (ev i))

-- where it came from
origin_read : (r : Record) (o : Origin) (t : List ℕ) → FittingOrigin o → origin_in (what_bytes r ++ (origin_bytes o ++ t)) ≡ o
unfolding origin_bytes origin_in
origin_read r o t f =
    let w : List ℕ = what_bytes r in
    let p : List ℕ = little_endian 2 o.program in
    let n : List ℕ = little_endian 2 o.block in
    let long : length (w ++ p) ≡ 18 = omega (arith, length-append w p, length_what r) in
    let ep : number_at (w ++ (p ++ (n ++ t))) 16 2 ≡ o.program = number_at_lem w p (n ++ t) 16 2 (length_what r) refl ∙ read_back 2 o.program f.program in
    let en : number_at (w ++ (p ++ (n ++ t))) 18 2 ≡ o.block =
    ap (λ (l : List ℕ). number_at l 18 2) (sym (append_assoc w p (n ++ t))) ∙ number_at_lem (w ++ p) n t 18 2 long refl ∙ read_back 2 o.block f.block in
    λ i. record { program = ep i; block = en i }

pub record_read : (l : Listed) (t : List ℕ) → Fitting l.what → FittingOrigin l.origin → listed_in (record_bytes l ++ t) ≡ l
unfolding record_bytes
record_read l t f g =
    let e : record_bytes l ++ t ≡ what_bytes l.what ++ (origin_bytes l.origin ++ t) = append_assoc (what_bytes l.what) (origin_bytes l.origin) t in
    ap listed_in e ∙ (λ i. listed (origin_read l.what l.origin t g i) (what_read l.what (origin_bytes l.origin ++ t) f i))

-- ---- a row of records is read back
pub row_read : (ls : List Listed) (t : List ℕ) → AllListed ls → row_in (length ls) (row_bytes ls ++ t) ≡ ls
unfolding row_bytes row_in
row_read [] t f = refl
row_read (l ∷ ls) t (f, g) =
    let e : (record_bytes l ++ row_bytes ls) ++ t ≡ record_bytes l ++ (row_bytes ls ++ t) = append_assoc (record_bytes l) (row_bytes ls) t in
    let d : drop record_size (record_bytes l ++ (row_bytes ls ++ t)) ≡ row_bytes ls ++ t = drop_at (record_bytes l) (row_bytes ls ++ t) record_size (length_record l) in
    (λ i. listed_in (e i) ∷ row_in (length ls) (drop record_size (e i)))
    ∙ (λ i. record_read l (row_bytes ls ++ t) f.0 f.1 i ∷ row_in (length ls) (d i))
    ∙ ap (λ (k : List Listed). l ∷ k) (row_read ls t g)

-- of a buffer in which w stands behind the header and the records v: from record number `length v` on, w is read
pub read_after : (h : List ℕ) (v w : List Listed) (t : List ℕ) → length h ≡ header_size → AllListed w
    → row_at (h ++ (row_bytes v ++ (row_bytes w ++ t))) (length v) (length w) ≡ w
read_after h v w t lh f =
    let l : length (h ++ row_bytes v) ≡ record_start (length v) = length-append h (row_bytes v) ∙ omega (arith, lh, length_row v) in
    ap (λ (b : List ℕ). row_in (length w) (drop (record_start (length v)) b)) (sym (append_assoc h (row_bytes v) (row_bytes w ++ t)))
    ∙ ap (row_in (length w)) (drop_at (h ++ row_bytes v) (row_bytes w ++ t) (record_start (length v)) l)
    ∙ row_read w t f

-- ---- a list is read back, and has one reading
pub list_read : (ls : List Listed) (t : List ℕ) → LawfulList ls → list_in (list_bytes ls ++ t) ≡ ls
unfolding list_bytes list_in header_bytes
list_read ls t f =
    let n : length ls % 256 + 256 * (length ls / 256 % 256 + 256 * 0) ≡ length ls = omega (arith, f.few) in
    ap (λ (k : ℕ). row_in k (row_bytes ls ++ t)) n ∙ row_read ls t f.each

pub one_reading : (ls ms : List Listed) (t u : List ℕ) → LawfulList ls → LawfulList ms → list_bytes ls ++ t ≡ list_bytes ms ++ u → ls ≡ ms
one_reading ls ms t u f g e = sym (list_read ls t f) ∙ ap list_in e ∙ list_read ms u g
