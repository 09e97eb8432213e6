-- Laws of fields.
use Rattle.std.proofs.Common.{◌≡◌, ℕ, zero, suc, ◌+◌, ◌-◌, ◌*◌, ◌/◌, ◌%◌, ◌^◌, ◌<◌, ◌≤◌, List, ◌++◌, length, get_or, take, drop, sym, refl, ap, ◌∙◌, add-zero, add_assoc, add-suc, mul_assoc, pow-suc, arith, lit<}
use Rattle.std.proofs.lemmas.Nat.{mod-pow-add, shr-shr, shr_high, mod_low, and_mask}
use lib.Bits.{bit_and}
use Rattle.std.proofs.lemmas.List.{get_or-drop, get_or_append_left, take-append-drop}
use Rattle.register_log.specs.Fields.{bit_at, field}

pub field-zero : (bytes : List ℕ) (place : ℕ) → field bytes place 0 ≡ 0
unfolding field
field-zero bytes place = refl

pub field-suc : (bytes : List ℕ) (place width : ℕ) → field bytes place (suc width) ≡ 2 * field bytes place width + bit_at bytes (place + width)
unfolding field
field-suc bytes place width = refl

bit_below : (bytes : List ℕ) (place : ℕ) → bit_at bytes place < 2
bit_below bytes place = grind arith

pub field_below : (bytes : List ℕ) (place width : ℕ) → field bytes place width < 2 ^ width
field_below bytes place zero = rw field-zero (lit< tt)
field_below bytes place (suc width) =
    rw (field-suc, pow-suc) (omega (arith, field_below bytes place width, bit_below bytes (place + width)))

-- a field of m + n bits is one of m bits and then one of n
pub field-add : (bytes : List ℕ) (place m n : ℕ) → field bytes place (m + n) ≡ field bytes place m * 2 ^ n + field bytes (place + m) n
field-add bytes place m zero = rw (add-zero m, field-zero bytes (place + m)) (omega arith)
field-add bytes place m (suc n) =
    rw (add-suc m n, field-suc bytes place (m + n), field-suc bytes (place + m) n, field-add bytes place m n, pow-suc 2 n, add_assoc place m n)
    (omega (arith, mul_assoc (field bytes place m) (2 ^ n) 2))

-- the two parts of a field, from its number
pub field_split :
    (bytes : List ℕ) (place m n high low : ℕ) → field bytes place (m + n) ≡ high * 2 ^ n + low → low < 2 ^ n →
    (field bytes place m ≡ high) × (field bytes (place + m) n ≡ low)
field_split bytes place m n high low e l =
    let both : field bytes place m * 2 ^ n + field bytes (place + m) n ≡ high * 2 ^ n + low = sym (field-add bytes place m n) ∙ e in
    let below = field_below bytes (place + m) n in (
      sym (shr_high (field bytes place m) n (field bytes (place + m) n) below) ∙ ap (λ x. x / 2 ^ n) both ∙ shr_high high n low l,
      sym (mod_low (field bytes place m) n (field bytes (place + m) n) below) ∙ ap (λ x. x % 2 ^ n) both ∙ mod_low high n low l,
    )

-- equal bits make equal fields
field_same :
    (xs ys : List ℕ) (p q width : ℕ) → ((k : ℕ) → k < width → bit_at xs (p + k) ≡ bit_at ys (q + k)) → field xs p width ≡ field ys q width
field_same xs ys p q zero h = field-zero xs p ∙ sym (field-zero ys q)
field_same xs ys p q (suc n) h =
    let front : field xs p n ≡ field ys q n = field_same xs ys p q n (λ k l. h k (omega arith)) in
    let last : bit_at xs (p + n) ≡ bit_at ys (q + n) = h n (omega arith) in
    field-suc xs p n ∙ omega (arith, front, last) ∙ sym (field-suc ys q n)

pub field-drop : (bytes : List ℕ) (i place width : ℕ) → field (drop i bytes) place width ≡ field bytes (8 * i + place) width
field-drop bytes i place width =
    field_same (drop i bytes) bytes place (8 * i + place) width (λ k l.
    let d : i + (place + k) / 8 ≡ (8 * i + place + k) / 8 = omega arith in
    let m : (place + k) % 8 ≡ (8 * i + place + k) % 8 = omega arith in
    ap (λ x. x / 2 ^ (7 - (place + k) % 8) % 2) (get_or-drop i bytes ((place + k) / 8) 0)
    ∙ ap (λ x. get_or bytes x 0 / 2 ^ (7 - (place + k) % 8) % 2) d
    ∙ ap (λ x. get_or bytes ((8 * i + place + k) / 8) 0 / 2 ^ (7 - x) % 2) m)

-- a field within the first bytes
pub field_front : (xs ys : List ℕ) (place width : ℕ) → place + width ≤ 8 * length xs → field (xs ++ ys) place width ≡ field xs place width
field_front xs ys place width h = grind (arith, field_same, get_or_append_left)

-- a field within a part of the bytes
pub field_part :
    (bytes : List ℕ) (first n width : ℕ) → width ≤ 8 * length (take n (drop first bytes)) → field (take n (drop first bytes)) 0 width ≡ field bytes (8 * first) width
field_part bytes first n width l =
    let part = take n (drop first bytes) in
    sym (field_front part (drop n (drop first bytes)) 0 width (omega arith))
    ∙ ap (λ xs. field xs 0 width) (take-append-drop n (drop first bytes))
    ∙ field-drop bytes first 0 width
    ∙ ap (λ q. field bytes q width) (add-zero (8 * first))

-- the number whose binary digits stand in the field
pub field_of :
    (bytes : List ℕ) (place width v : ℕ) →
    ((k : ℕ) → k < width → bit_at bytes (place + k) ≡ v / 2 ^ (width - 1 - k) % 2) → field bytes place width ≡ v % 2 ^ width
field_of bytes place zero v h = rw field-zero (omega arith)
field_of bytes place (suc n) v h =
    let front : field bytes place n ≡ v / 2 ^ 1 % 2 ^ n =
    field_of bytes place n (v / 2 ^ 1) (λ k l.
    let e : suc n - 1 - k ≡ 1 + (n - 1 - k) = omega arith in
    h k (omega arith) ∙ ap (λ x. v / 2 ^ x % 2) e ∙ ap (λ x. x % 2) (sym (shr-shr v 1 (n - 1 - k)))) in
    let none : suc n - 1 - n ≡ 0 = omega arith in
    let last : bit_at bytes (place + n) ≡ v / 2 ^ 0 % 2 = h n (omega arith) ∙ ap (λ x. v / 2 ^ x % 2) none in
    let e : suc n ≡ n + 1 = omega arith in
    field-suc bytes place n ∙ omega (arith, front, last, mod-pow-add v n 1, ap (λ x. v % 2 ^ x) e)

-- a field within byte i, k bits after its start
pub field_in_byte : (bytes : List ℕ) (i k width : ℕ) → k + width ≤ 8 → field bytes (8 * i + k) width ≡ get_or bytes i 0 / 2 ^ (8 - k - width) % 2 ^ width
field_in_byte bytes i k width l =
    let byte = get_or bytes i 0 in
    field_of bytes (8 * i + k) width (byte / 2 ^ (8 - k - width)) (λ j h.
    let d : (8 * i + k + j) / 8 ≡ i = omega arith in
    let m : 7 - (8 * i + k + j) % 8 ≡ (8 - k - width) + (width - 1 - j) = omega arith in
    ap (λ x. get_or bytes x 0 / 2 ^ (7 - (8 * i + k + j) % 8) % 2) d
    ∙ ap (λ x. byte / 2 ^ x % 2) m
    ∙ ap (λ x. x % 2) (sym (shr-shr byte (8 - k - width) (width - 1 - j))))

pub field_byte : (bytes : List ℕ) (i : ℕ) → get_or bytes i 0 < 256 → field bytes (8 * i) 8 ≡ get_or bytes i 0
field_byte bytes i h = ap (λ q. field bytes q 8) (sym (add-zero (8 * i))) ∙ field_in_byte bytes i 0 8 (omega arith) ∙ omega arith

-- three bytes
pub field_bytes : (bytes : List ℕ) → ((k : ℕ) → get_or bytes k 0 < 256) → field bytes 8 24 ≡ 65536 * get_or bytes 1 0 + 256 * get_or bytes 2 0 + get_or bytes 3 0
field_bytes bytes small =
    let high = field_byte bytes 1 (small 1) in
    let middle = field_byte bytes 2 (small 2) in
    let low = field_byte bytes 3 (small 3) in
    let first = field-add bytes 8 8 16 in
    let rest = field-add bytes 16 8 8 in
    omega arith

-- the fields of a log's first byte
pub header_bits :
    (log : List ℕ) → get_or log 0 0 < 256 →
    let first : ℕ = get_or log 0 0 in
    (first / 16 ≡ field log 0 4) × (bit_and (first / 8) 1 ≡ field log 4 1) × (bit_and first 7 ≡ field log 5 3)
header_bits log small =
    let first = get_or log 0 0 in (
      sym (field_in_byte log 0 0 4 (omega arith) ∙ omega arith),
      and_mask (first / 8) 1 ∙ sym (field_in_byte log 0 4 1 (omega arith)),
      and_mask first 3 ∙ sym (field_in_byte log 0 5 3 (omega arith) ∙ omega arith),
    )
