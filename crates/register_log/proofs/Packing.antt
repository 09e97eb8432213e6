-- Laws of fields in a row: their number, and the bytes that they are packed into.
use Rattle.std.proofs.Common.{◌≡◌, ℕ, zero, suc, ◌+◌, ◌*◌, ◌/◌, ◌%◌, ◌^◌, ◌<◌, ◌≤◌, List, [], ◌∷◌, ◌++◌, length, get_or, take, sym, refl, ap, ◌∙◌, subst, append-nil, add-zero, add_assoc, mod-eq_of_lt, mul_assoc, add-mul, zero-add, mul-one, arith, lit<}
use Rattle.std.proofs.lemmas.Nat.{mod_below, mod-pow-add, shr-shr, shr_high, mod_low, pow_pos, pow-add, shl_below, mul-add-lt, field_of}
use Rattle.std.proofs.lemmas.Slice.{drop-append-drop}
use Rattle.register_log.specs.Fields.{field, bytes_for, gap, Field, span, number, big_endian, packed, written}
use Rattle.register_log.specs.BitWriter.{Wrote}
use Rattle.register_log.specs.declared.bit_writer.BitWriter.{BitWriter}
use Rattle.register_log.proofs.Fields.{field-zero, field-add, field_split, field-drop, field_byte, field_below}

-- Numbers in bytes

pub length-big_endian : (count n : ℕ) → length (big_endian count n) ≡ count
unfolding big_endian
length-big_endian zero n = refl
length-big_endian (suc count) n = ap suc (length-big_endian count n)

-- the lowest bytes of a number decide
pub big_endian_same : (count m n : ℕ) → m % 2 ^ (8 * count) ≡ n % 2 ^ (8 * count) → big_endian count m ≡ big_endian count n
unfolding big_endian
big_endian_same zero m n e = refl
big_endian_same (suc count) m n e =
    let k = 8 * count in
    let more : 8 * suc count ≡ 8 + k = omega arith in
    let same : m % 2 ^ (8 + k) ≡ n % 2 ^ (8 + k) = subst (λ x. m % 2 ^ x ≡ n % 2 ^ x) more e in
    let head : m / 2 ^ k % 256 ≡ n / 2 ^ k % 256 = sym (field_of m 8 k) ∙ ap (λ x. x / 2 ^ k) same ∙ field_of n 8 k in
    let low : (v : ℕ) → v % 2 ^ (8 + k) % 2 ^ k ≡ v % 2 ^ k =
    λ v. ap (λ x. x % 2 ^ k) (mod-pow-add v 8 k) ∙ mod_low (v / 2 ^ k % 2 ^ 8) k (v % 2 ^ k) (mod_below v (2 ^ k) (pow_pos k)) in
    let rest = big_endian_same count m n (sym (low m) ∙ ap (λ x. x % 2 ^ k) same ∙ low n) in
    cc (head, rest)

-- the first bytes, and the others
pub big_endian-add : (c d n : ℕ) → big_endian (c + d) n ≡ big_endian c (n / 2 ^ (8 * d)) ++ big_endian d n
unfolding big_endian
big_endian-add zero d n = ap (λ x. big_endian x n) (zero-add d)
big_endian-add (suc c) d n =
    let more : suc c + d ≡ suc (c + d) = omega arith in
    let shift : 8 * (c + d) ≡ 8 * d + 8 * c = omega arith in
    let head : n / 2 ^ (8 * (c + d)) % 256 ≡ n / 2 ^ (8 * d) / 2 ^ (8 * c) % 256 =
    ap (λ x. n / 2 ^ x % 256) shift ∙ ap (λ x. x % 256) (sym (shr-shr n (8 * d) (8 * c))) in
    ap (λ x. big_endian x n) more ∙ cc (head, big_endian-add c d n)

-- the number in the bytes of a number
pub field-big_endian : (count n : ℕ) (rest : List ℕ) → field (big_endian count n ++ rest) 0 (8 * count) ≡ n % 2 ^ (8 * count)
unfolding big_endian
field-big_endian zero n rest = field-zero rest 0 ∙ omega arith
field-big_endian (suc count) n rest =
    let k = 8 * count in
    let more : 8 * suc count ≡ 8 + k = omega arith in
    let bytes = big_endian (suc count) n ++ rest in
    let first : field bytes 0 8 ≡ n / 2 ^ k % 256 = field_byte bytes 0 (mod_below (n / 2 ^ k) 256 (lit< tt)) in
    let others : field bytes 8 k ≡ n % 2 ^ k = sym (field-drop bytes 1 0 k) ∙ field-big_endian count n rest in
    ap (field bytes 0) more ∙ field-add bytes 0 8 k ∙ cc (first, others) ∙ sym (mod-pow-add n 8 k) ∙ ap (λ x. n % 2 ^ x) (sym more)

-- bytes are the bytes of the number in them
pub bytes-big_endian : (count : ℕ) (bytes : List ℕ) → ((k : ℕ) → k < count → get_or bytes k 0 < 256) → count ≤ length bytes → take count bytes ≡ big_endian count (field bytes 0 (8 * count))
unfolding big_endian
bytes-big_endian zero bytes small l = refl
bytes-big_endian (suc count) [] small l = absurd (omega arith)
bytes-big_endian (suc count) (b ∷ bytes) small l =
    let k = 8 * count in
    let more : 8 * suc count ≡ 8 + k = omega arith in
    let first : b < 256 = small 0 (omega arith) in
    let rest = field bytes 0 k in
    let below : rest < 2 ^ k = field_below bytes 0 k in
    let all : field (b ∷ bytes) 0 (8 * suc count) ≡ b * 2 ^ k + rest =
    ap (field (b ∷ bytes) 0) more ∙ field-add (b ∷ bytes) 0 8 k ∙ cc (field_byte (b ∷ bytes) 0 first, sym (field-drop (b ∷ bytes) 1 0 k)) in
    let head : field (b ∷ bytes) 0 (8 * suc count) / 2 ^ k % 256 ≡ b =
    ap (λ x. x / 2 ^ k % 256) all ∙ ap (λ x. x % 256) (shr_high b k rest below) ∙ mod-eq_of_lt first in
    let tail : big_endian count (field (b ∷ bytes) 0 (8 * suc count)) ≡ big_endian count rest =
    big_endian_same count (field (b ∷ bytes) 0 (8 * suc count)) rest (ap (λ x. x % 2 ^ k) all ∙ mod_low b k rest below ∙ sym (mod-eq_of_lt below)) in
    let fits : count ≤ length bytes = omega arith in
    cc (head, tail, bytes-big_endian count bytes (λ i h. small (suc i) (omega arith)) fits)

-- Fields in a row

-- each number fits its width
abbrev pub Fit : List Field → Type 0
Fit [] = Unit {0}
Fit (f ∷ rest) = (f.1 < 2 ^ f.0) × Fit rest

pub fit_append : (fs gs : List Field) → Fit fs → Fit gs → Fit (fs ++ gs)
fit_append [] gs a b = b
fit_append (f ∷ fs) gs a b = (a.0, fit_append fs gs a.1 b)

pub span-append : (fs gs : List Field) → span (fs ++ gs) ≡ span fs + span gs
span-append [] gs = omega arith
span-append (f ∷ fs) gs = ap (λ x. f.0 + x) (span-append fs gs) ∙ sym (add_assoc f.0 (span fs) (span gs))

pub number_append : (fs gs : List Field) → number (fs ++ gs) ≡ number fs * 2 ^ span gs + number gs
number_append [] gs = omega arith
number_append (f ∷ fs) gs =
    let width : 2 ^ span (fs ++ gs) ≡ 2 ^ span fs * 2 ^ span gs = ap (λ x. 2 ^ x) (span-append fs gs) ∙ pow-add 2 (span fs) (span gs) in
    let high : f.1 * 2 ^ span (fs ++ gs) ≡ f.1 * 2 ^ span fs * 2 ^ span gs = ap (λ x. f.1 * x) width ∙ sym (mul_assoc f.1 (2 ^ span fs) (2 ^ span gs)) in
    omega (arith, high, number_append fs gs, add-mul (f.1 * 2 ^ span fs) (number fs) (2 ^ span gs))

pub number_below : (fs : List Field) → Fit fs → number fs < 2 ^ span fs
number_below [] a = lit< tt
number_below (f ∷ fs) a =
    omega (arith, mul-add-lt f.1 (2 ^ span fs) (number fs) (2 ^ f.0) a.0 (number_below fs a.1), pow-add 2 f.0 (span fs))

-- Packed fields

pub length-packed : (fs : List Field) → length (packed fs) ≡ bytes_for (span fs)
unfolding packed
length-packed fs = grind (arith, length-big_endian)

pub packed_same : (fs gs : List Field) → span fs ≡ span gs → number fs ≡ number gs → packed fs ≡ packed gs
unfolding packed
packed_same fs gs s n = cc

-- the fields stand in front, and zeros after them
pub packed_front :
    (fs : List Field) (rest : List ℕ) → Fit fs →
    (field (packed fs ++ rest) 0 (span fs) ≡ number fs) × (field (packed fs ++ rest) (span fs) (gap (span fs)) ≡ 0)
unfolding packed
packed_front fs rest fit =
    let count = bytes_for (span fs) in
    let g = gap (span fs) in
    let all : 8 * count ≡ span fs + g = omega arith in
    let n = number fs * 2 ^ g in
    let below : n < 2 ^ (8 * count) = subst (λ x. n < 2 ^ x) (sym all) (shl_below (number fs) (span fs) g (number_below fs fit)) in
    let whole : field (packed fs ++ rest) 0 (span fs + g) ≡ number fs * 2 ^ g + 0 =
    ap (field (packed fs ++ rest) 0) (sym all) ∙ field-big_endian count n rest ∙ mod-eq_of_lt below ∙ sym (add-zero n) in
    let parts = field_split (packed fs ++ rest) 0 (span fs) g (number fs) 0 whole (pow_pos g) in
    (parts.0, subst (λ q. field (packed fs ++ rest) q g ≡ 0) (zero-add (span fs)) parts.1)

-- Written fields

pub kept : List ℕ → ℕ → Field
kept buffer place = (place, field buffer 0 place)

pub written_front : (buffer : List ℕ) (place : ℕ) (fs : List Field) → Fit fs → field (written buffer place fs) 0 (place + span fs) ≡ number (kept buffer place ∷ fs)
unfolding written kept
written_front buffer place fs fit = (packed_front (kept buffer place ∷ fs) _ (field_below buffer 0 place, fit)).0

-- fields written over later ones
pub written_over :
    (buffer : List ℕ) (place : ℕ) (fs hs gs : List Field) → Fit fs → Fit hs → span hs ≤ span gs →
    written (written buffer place (fs ++ hs)) (place + span fs) gs ≡ written buffer place (fs ++ gs)
unfolding written kept
written_over buffer place fs hs gs a b l =
    let old = written buffer place (fs ++ hs) in
    let k = kept buffer place in
    let sh = span-append fs hs in
    let sg = span-append fs gs in
    let width : place + span (fs ++ hs) ≡ place + span fs + span hs = omega arith in
    let nh : number (k ∷ fs ++ hs) ≡ number (k ∷ fs) * 2 ^ span hs + number hs = number_append (k ∷ fs) hs in
    let front : field old 0 (place + span fs + span hs) ≡ number (k ∷ fs) * 2 ^ span hs + number hs =
    ap (field old 0) (sym width) ∙ written_front buffer place (fs ++ hs) (fit_append fs hs a b) ∙ nh in
    let same : field old 0 (place + span fs) ≡ number (k ∷ fs) = (field_split old 0 (place + span fs) (span hs) (number (k ∷ fs)) (number hs) front (number_below hs b)).0 in
    let total : place + span fs + span gs ≡ place + span (fs ++ gs) = omega arith in
    let n : field old 0 (place + span fs) * 2 ^ span gs + number gs ≡ number (k ∷ fs ++ gs) =
    ap (λ x. x * 2 ^ span gs + number gs) same ∙ sym (number_append (k ∷ fs) gs) in
    let bytes = packed_same (kept old (place + span fs) ∷ gs) (k ∷ fs ++ gs) total n in
    let shorter : bytes_for (place + span (fs ++ hs)) ≤ bytes_for (place + span fs + span gs) = omega arith in
    let rest = drop-append-drop (bytes_for (place + span (fs ++ hs))) buffer (packed (k ∷ fs ++ hs)) (bytes_for (place + span fs + span gs)) shorter (length-packed (k ∷ fs ++ hs)) in
    cc (bytes, rest, total)

-- one field after another
pub written_more :
    (buffer : List ℕ) (place : ℕ) (fs gs : List Field) → Fit fs →
    written (written buffer place fs) (place + span fs) gs ≡ written buffer place (fs ++ gs)
written_more buffer place fs gs a =
    subst (λ x. written (written buffer place x) (place + span fs) gs ≡ written buffer place (fs ++ gs)) (append-nil fs)
    (written_over buffer place fs [] gs a tt (omega arith))

-- zeros up to the byte boundary are there already
pub written_padded :
    (buffer : List ℕ) (place : ℕ) (fs : List Field) → written buffer place (fs ++ (gap (place + span fs), 0) ∷ []) ≡ written buffer place fs
unfolding written packed
written_padded buffer place fs =
    let g = gap (place + span fs) in
    let k : Field = (place, field buffer 0 place) in
    let s : span (k ∷ fs ++ (g, 0) ∷ []) ≡ place + span fs + g = omega (arith, span-append fs ((g, 0) ∷ [])) in
    let n : number (k ∷ fs ++ (g, 0) ∷ []) ≡ number (k ∷ fs) * 2 ^ g = number_append (k ∷ fs) ((g, 0) ∷ []) ∙ ap (λ x. number (k ∷ fs) * 2 ^ x + 0) (add-zero g) ∙ add-zero _ in
    let count : bytes_for (span (k ∷ fs ++ (g, 0) ∷ [])) ≡ bytes_for (place + span fs) = omega arith in
    let none : gap (span (k ∷ fs ++ (g, 0) ∷ [])) ≡ 0 = omega arith in
    let all : number (k ∷ fs ++ (g, 0) ∷ []) * 2 ^ gap (span (k ∷ fs ++ (g, 0) ∷ [])) ≡ number (k ∷ fs) * 2 ^ g =
    ap (λ x. number (k ∷ fs ++ (g, 0) ∷ []) * 2 ^ x) none ∙ mul-one _ ∙ n in
    cc (count, all)

-- Fields that are written one after another

pub wrote_then : {a b c : BitWriter} {fs gs : List Field} → Fit fs → Wrote a b fs → Wrote b c gs → Wrote a c (fs ++ gs)
wrote_then {a} {b} {c} {fs} {gs} fit first second = grind (arith, written_more, span-append)
