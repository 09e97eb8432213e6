-- What the code of the fields does.
use Rattle.std.proofs.Common.{◌≡◌, ℕ, zero, suc, ◌+◌, ◌-◌, ◌*◌, ◌/◌, ◌%◌, ◌^◌, ◌<◌, ◌≤◌, List, [], ◌∷◌, ◌++◌, map, length, get_or, take, drop, sym, refl, ap, ◌∙◌, subst, append_assoc, add-zero, mod-eq_of_lt, mul_assoc, add-mul, zero-add, arith, lit<}
use borrow.Rule.Slice.PartMut.{put_mid}
use lib.Bits.{bit_and, bit_or}
use Rattle.std.proofs.lemmas.Nat.{pow-add, shr_high, shr_below, mod_low, shl-shr, shl_whole, or_shifted, and_mask, mul-add-lt}
use Rattle.std.specs.List.{fold}
use Rattle.std.proofs.lemmas.List.Sums.{fold_more}
use Rattle.std.proofs.lemmas.List.{drop-drop, take_at, get_or_append_left, get_or-take, length-take-le}
use Rattle.register_log.specs.Fields.{field, bytes_for, gap, Field, span, number, big_endian, packed, written}
use Rattle.register_log.specs.Record.{octet}
use Rattle.register_log.proofs.Fields.{field-zero, field-add, field_byte, field_below, field_in_byte}
use Rattle.register_log.proofs.Packing.{length-big_endian, big_endian_same, big_endian-add, bytes-big_endian}

-- Reading

-- the number in some bytes, one after another
pub number_of_bytes :
    (bytes : List ℕ) → ((k : ℕ) → get_or bytes k 0 < 256) → (n : ℕ) → n ≤ 4 → n ≤ length bytes →
    fold (λ bits byte. bit_or (bits * 256 % 2 ^ 32) byte) 0 (take n bytes) ≡ field bytes 0 (8 * n)
number_of_bytes bytes small zero l m = sym (field-zero bytes 0)
number_of_bytes bytes small (suc n) l m =
    let bits = fold (λ bits byte. bit_or (bits * 256 % 2 ^ 32) byte) 0 (take n bytes) in
    let byte = get_or bytes n 0 in
    let ih : bits ≡ field bytes 0 (8 * n) = number_of_bytes bytes small n (omega arith) (omega arith) in
    let below : bits < 2 ^ (8 * n) = subst (λ x. x < 2 ^ (8 * n)) (sym ih) (field_below bytes 0 (8 * n)) in
    let next = field_byte bytes n (small n) in
    let one : suc n ≡ n + 1 = omega arith in
    let more : 8 * suc n ≡ 8 * n + 8 = omega arith in
    ap (λ x. fold (λ bits byte. bit_or (bits * 256 % 2 ^ 32) byte) 0 (take x bytes)) one
    ∙ fold_more (λ bits byte. bit_or (bits * 256 % 2 ^ 32) byte) 0 bytes n 0 (omega arith)
    ∙ ap (λ x. bit_or x byte) (shl_whole bits (8 * n) 8 32 below (omega arith))
    ∙ or_shifted bits 8 byte (small n)
    ∙ cc (ih, next)
    ∙ sym (field-add bytes 0 (8 * n) 8 ∙ ap (λ q. field bytes 0 (8 * n) * 256 + field bytes q 8) (zero-add (8 * n)))
    ∙ ap (field bytes 0) (sym more)

-- the field within its bytes, of which it leaves the first k bits and the last g
pub read_part :
    (bytes : List ℕ) (place k width g bits mask : ℕ) → bits ≡ field bytes place (k + width + g) → mask ≡ 2 ^ width - 1 →
    bit_and (bits / 2 ^ g) mask ≡ field bytes (place + k) width
read_part bytes place k width g bits mask e m = grind (arith, field-add, shr_high, field_below, and_mask, mod_low)

-- Writing

-- the first bits of a byte
pub byte_front : (bytes : List ℕ) (i k : ℕ) → k ≤ 8 → get_or bytes i 0 < 256 → (get_or bytes i 0 / 2 ^ (8 - k) < 2 ^ k) × (field bytes (8 * i) k ≡ get_or bytes i 0 / 2 ^ (8 - k))
byte_front bytes i k l small =
    let width : k + (8 - k) ≡ 8 = omega arith in
    let below : get_or bytes i 0 / 2 ^ (8 - k) < 2 ^ k = shr_below (get_or bytes i 0) k (8 - k) (subst (λ x. get_or bytes i 0 < 2 ^ x) (sym width) small) in
    let none : 8 - 0 - k ≡ 8 - k = omega arith in (
      below,
      ap (λ q. field bytes q k) (sym (add-zero (8 * i)))
          ∙ field_in_byte bytes i 0 k (omega arith)
          ∙ ap (λ x. get_or bytes i 0 / 2 ^ x % 2 ^ k) none
          ∙ mod-eq_of_lt below,
    )

-- a word of 32 bits with k bits and a field of so many as the width in front
pub write_bits :
    (front k width value s : ℕ) → front < 2 ^ k → value < 2 ^ width → k + width + s ≡ 32 →
    bit_or (front * 2 ^ width % 2 ^ 32) value * 2 ^ s % 2 ^ 32 ≡ (front * 2 ^ width + value) * 2 ^ s
write_bits front k width value s l v e =
    let below : front * 2 ^ width + value < 2 ^ (k + width) =
    omega (arith, mul-add-lt front (2 ^ width) value (2 ^ k) l v, pow-add 2 k width) in
    ap (λ x. bit_or x value * 2 ^ s % 2 ^ 32) (shl_whole front k width 32 l (omega arith))
    ∙ ap (λ x. x * 2 ^ s % 2 ^ 32) (or_shifted front width value v)
    ∙ shl_whole (front * 2 ^ width + value) (k + width) s 32 below (omega arith)

pub four_bytes : (n : ℕ) → n / 16777216 % 256 ∷ n / 65536 % 256 ∷ n / 256 % 256 ∷ n % 256 ∷ [] ≡ big_endian 4 n
unfolding big_endian
four_bytes n = grind arith

-- the first bytes of a word whose bits are in front
pub first_bytes :
    (count n s g : ℕ) (bytes : List ℕ) → count ≤ 4 → s ≡ g + 8 * (4 - count) → bytes ≡ big_endian 4 (n * 2 ^ s) → take count bytes ≡ big_endian count (n * 2 ^ g)
first_bytes count n s g bytes l e b =
    let d = 4 - count in
    let four : 4 ≡ count + d = omega arith in
    let shift : n * 2 ^ s ≡ n * 2 ^ g * 2 ^ (8 * d) = ap (λ x. n * 2 ^ x) e ∙ ap (λ x. n * x) (pow-add 2 g (8 * d)) ∙ sym (mul_assoc n (2 ^ g) (2 ^ (8 * d))) in
    let high : n * 2 ^ s / 2 ^ (8 * d) ≡ n * 2 ^ g = ap (λ x. x / 2 ^ (8 * d)) shift ∙ shl-shr (n * 2 ^ g) (8 * d) in
    let parts : bytes ≡ big_endian count (n * 2 ^ g) ++ big_endian d (n * 2 ^ s) =
    b ∙ ap (λ x. big_endian x (n * 2 ^ s)) four ∙ big_endian-add count d (n * 2 ^ s) ∙ ap (λ x. big_endian count x ++ big_endian d (n * 2 ^ s)) high in
    ap (take count) parts ∙ take_at (big_endian count (n * 2 ^ g)) (big_endian d (n * 2 ^ s)) count (length-big_endian count (n * 2 ^ g))

-- new bytes in a buffer are the fields, if their number is what follows the bytes before them
pub pasted :
    (buffer new : List ℕ) (place first count k low : ℕ) (fs : List Field) → ((i : ℕ) → get_or (put_mid first k buffer new) i 0 < 256) → first ≤ length buffer →
    bytes_for (place + span fs) ≡ first + count → k ≡ count → new ≡ big_endian count low → low < 2 ^ (8 * count) →
    number ((place, field buffer 0 place) ∷ fs) * 2 ^ gap (place + span fs) ≡ field buffer 0 (8 * first) * 2 ^ (8 * count) + low →
    put_mid first k buffer new ≡ written buffer place fs
unfolding written packed
pasted buffer new place first count k low fs small l total ek en below e =
    let n = number ((place, field buffer 0 place) ∷ fs) * 2 ^ gap (place + span fs) in
    let high : n / 2 ^ (8 * count) ≡ field buffer 0 (8 * first) = ap (λ x. x / 2 ^ (8 * count)) e ∙ shr_high (field buffer 0 (8 * first)) (8 * count) low below in
    let same : (i : ℕ) → i < first → get_or (put_mid first k buffer new) i 0 ≡ get_or buffer i 0 =
    λ i h. get_or_append_left (take first buffer) (new ++ drop k (drop first buffer)) 0 i (subst (λ x. i < x) (sym (length-take-le first buffer l)) h) ∙ get_or-take first buffer i 0 h in
    let front : take first buffer ≡ big_endian first (n / 2 ^ (8 * count)) = bytes-big_endian first buffer (λ i h. subst (λ x. x < 256) (same i h) (small i)) l ∙ ap (big_endian first) (sym high) in
    let back : new ≡ big_endian count n =
    en ∙ big_endian_same count low n (mod-eq_of_lt below ∙ sym (mod_low (field buffer 0 (8 * first)) (8 * count) low below) ∙ ap (λ x. x % 2 ^ (8 * count)) (sym e)) in
    let rest : drop k (drop first buffer) ≡ drop (bytes_for (place + span fs)) buffer =
    ap (λ x. drop x (drop first buffer)) ek ∙ drop-drop count first buffer ∙ ap (λ x. drop x buffer) (sym total) in
    sym (append_assoc (take first buffer) new (drop k (drop first buffer)))
    ∙ cc (front, back, rest, sym (big_endian-add first count n), ap (λ x. big_endian x n) (sym total))

-- bytes as fields
pub span_octets : (bytes : List ℕ) → span (map octet bytes) ≡ 8 * length bytes
span_octets [] = refl
span_octets (b ∷ bytes) = ap (λ x. 8 + x) (span_octets bytes) ∙ omega arith

pub number_octets :
    (bytes : List ℕ) → ((i : ℕ) → get_or bytes i 0 < 256) →
    (number (map octet bytes) < 2 ^ (8 * length bytes)) × (bytes ≡ big_endian (length bytes) (number (map octet bytes)))
unfolding big_endian
number_octets [] small = (lit< tt, refl)
number_octets (b ∷ bytes) small =
    let k = 8 * length bytes in
    let ih = number_octets bytes (λ i. small (suc i)) in
    let low = number (map octet bytes) in
    let n : number (map octet (b ∷ bytes)) ≡ b * 2 ^ k + low = ap (λ x. b * 2 ^ x + low) (span_octets bytes) in
    let more : 8 * suc (length bytes) ≡ 8 + k = omega arith in
    let below : b * 2 ^ k + low < 2 ^ (8 + k) = omega (arith, mul-add-lt b (2 ^ k) low 256 (small 0) ih.0, pow-add 2 8 k) in
    let head : b ≡ number (map octet (b ∷ bytes)) / 2 ^ k % 256 =
    sym (ap (λ x. x / 2 ^ k % 256) n ∙ ap (λ x. x % 256) (shr_high b k low ih.0) ∙ mod-eq_of_lt (small 0)) in
    let tail : bytes ≡ big_endian (length bytes) (number (map octet (b ∷ bytes))) =
    ih.1 ∙ big_endian_same (length bytes) low (number (map octet (b ∷ bytes))) (mod-eq_of_lt ih.0 ∙ sym (ap (λ x. x % 2 ^ k) n ∙ mod_low b k low ih.0)) in
    (subst (λ x. x < 2 ^ (8 * suc (length bytes))) (sym n) (subst (λ x. b * 2 ^ k + low < 2 ^ x) (sym more) below), cc (head, tail))

-- the number of the bits before a place, of which the last k stand in the byte of the place
pub front_number :
    (bytes : List ℕ) (first k width value g count : ℕ) → k + width + g ≡ 8 * count →
    (field bytes 0 (8 * first + k) * 2 ^ width + value) * 2 ^ g
    ≡ field bytes 0 (8 * first) * 2 ^ (8 * count) + (field bytes (8 * first) k * 2 ^ width + value) * 2 ^ g
front_number bytes first k width value g count e = grind (arith, field-add, add-mul, mul_assoc, pow-add)
