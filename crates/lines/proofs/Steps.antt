-- What the writes of a number and of a line come to.
use Rattle.std.proofs.Common.{◌≡◌, ℕ, suc, ◌+◌, ◌-◌, ◌/◌, ◌%◌, ◌^◌, ◌<◌, ◌≤◌, List, [], ◌∷◌, ◌++◌, length, set, ℤ, pos, negsuc, ◌∙◌, ap, arith, length-append, length-set, sym, refl}
use Rattle.std.specs.Prelude.{◌<ℤ◌, unsigned_abs}
use Rattle.std.specs.Fmt.{decimal, signed_decimal}
use Rattle.std.proofs.lemmas.Fmt.{decimal_digit, decimal_step}
use Rattle.std.proofs.lemmas.Bool.{cond-true, le-leb}
use Rattle.lines.specs.Placed.{placed, paired}
use Rattle.lines.specs.Line.{tick_line, roomy, put}
use Rattle.lines.proofs.Writes.{length-placed, placed_byte, placed_last, placed_more}
use Rattle.lines.proofs.Digits.{one_digit, two_digits, more_digits, digits_some, digits_most}

-- one digit of a number that has more, from the last on
pub digit_written :
    (b : List ℕ) (p q n : ℕ) → 10 ≤ n → n < 2 ^ 32 → q + 1 ≡ p + length (decimal n) → q < length b →
    placed (set b q (48 + n % 10)) p (decimal (n / 10)) ≡ placed b p (decimal n)
digit_written b p q n h u e l =
    placed_last b p q (48 + n % 10) (decimal (n / 10)) (omega (arith, more_digits n h u)) l
    ∙ ap (λ t. placed b p t) (sym (decimal_step n h (omega arith)))

-- the last digit
pub digit_alone : (b : List ℕ) (p n : ℕ) → n < 10 → p < length b → set b p (48 + n) ≡ placed b p (decimal n)
digit_alone b p n h l = placed_byte b p (48 + n) l ∙ ap (λ t. placed b p t) (sym (decimal_digit n h))

-- two digits of a number that has more
pub pair_written :
    (b : List ℕ) (p q n : ℕ) → 100 ≤ n → n < 2 ^ 32 → q + 1 ≡ p + length (decimal n) → q < length b →
    placed (paired b q (n % 100)) p (decimal (n / 100)) ≡ placed b p (decimal n)
pair_written b p q n h u e l =
    let b' : List ℕ = set b q (48 + n % 10) in
    let first : n % 100 % 10 ≡ n % 10 = omega arith in
    let second : n % 100 / 10 ≡ n / 10 % 10 = omega arith in
    let rest : n / 100 ≡ n / 10 / 10 = omega arith in
    let more = more_digits n (omega arith) u in
    let some = digits_some (n / 10) (omega arith) in
    ap (λ d. placed (set (set b q (48 + d)) (q - 1) (48 + n % 100 / 10)) p (decimal (n / 100))) first
    ∙ ap (λ d. placed (set b' (q - 1) (48 + d)) p (decimal (n / 100))) second
    ∙ ap (λ m. placed (set b' (q - 1) (48 + n / 10 % 10)) p (decimal m)) rest
    ∙ digit_written b' p (q - 1) (n / 10) (omega arith) (omega arith) (omega arith) (omega (arith, length-set b q (48 + n % 10)))
    ∙ digit_written b p q n (omega arith) u e l

-- the last two
pub pair_alone : (b : List ℕ) (p n : ℕ) → 10 ≤ n → n < 100 → p + 1 < length b → paired b (p + 1) n ≡ placed b p (decimal n)
pair_alone b p n h u l =
    let b' : List ℕ = set b (p + 1) (48 + n % 10) in
    let back : p + 1 - 1 ≡ p = omega arith in
    ap (λ k. set b' k (48 + n / 10)) back
    ∙ digit_alone b' p (n / 10) (omega arith) (omega (arith, length-set b (p + 1) (48 + n % 10)))
    ∙ digit_written b p (p + 1) n h (omega arith) (omega (arith, two_digits n h u)) l

pub ruleset digits_step = (digit_alone, pair_alone, one_digit, two_digits, more_digits, digits_some, digits_most)

-- a byte behind a text
last_byte :
    (b : List ℕ) (p q d : ℕ) (t : List ℕ) → q ≡ p + length t → q < length b → set (placed b p t) q d ≡ placed b p (t ++ d ∷ [])
last_byte b p q d t e l =
    placed_byte (placed b p t) q d (omega (arith, length-placed b p t (omega arith)))
    ∙ placed_more b p q t (d ∷ []) e (omega arith)

-- a sign, and then the digits
pub sign_written :
    (b : List ℕ) (p : ℕ) (z : ℤ) → z <ℤ pos 0 → p < length b →
    placed (set b p 45) (p + 1) (decimal (unsigned_abs z)) ≡ placed b p (signed_decimal z)
sign_written b p (negsuc n) h l =
    ap (λ x. placed x (p + 1) (decimal (suc n))) (placed_byte b p 45 l)
    ∙ placed_more b p (p + 1) (45 ∷ []) (decimal (suc n)) refl (omega arith)
sign_written b p (pos n) h l = grind arith

pub number_length : (z : ℤ) → unsigned_abs z < 2 ^ 32 → length (signed_decimal z) ≤ 11
number_length (pos n) h = omega (arith, digits_most n h)
number_length (negsuc n) h = omega (arith, digits_most (suc n) h)

pub ruleset number_step = (sign_written, number_length, digits_most, length-placed)

-- both numbers of a line, with what follows each
pub line_written :
    (b : List ℕ) (p q r : ℕ) (x y : ℤ) → q ≡ p + length (signed_decimal x) → r ≡ q + 1 + length (signed_decimal y) → r < length b →
    set (placed (set (placed b p (signed_decimal x)) q 32) (q + 1) (signed_decimal y)) r 10 ≡ placed b p (tick_line x y)
line_written b p q r x y e f h =
    let first : set (placed b p (signed_decimal x)) q 32 ≡ placed b p (signed_decimal x ++ 32 ∷ []) =
    last_byte b p q 32 (signed_decimal x) e (omega arith) in
    let e2 : q + 1 ≡ p + length (signed_decimal x ++ 32 ∷ []) = omega (arith, length-append (signed_decimal x) (32 ∷ [])) in
    let second : placed (set (placed b p (signed_decimal x)) q 32) (q + 1) (signed_decimal y) ≡ placed b p (signed_decimal x ++ 32 ∷ [] ++ signed_decimal y) =
    ap (λ z. placed z (q + 1) (signed_decimal y)) first
    ∙ placed_more b p (q + 1) (signed_decimal x ++ 32 ∷ []) (signed_decimal y) e2 (omega arith) in
    let e3 : r ≡ p + length (signed_decimal x ++ 32 ∷ [] ++ signed_decimal y) =
    omega (arith, e2, length-append (signed_decimal x ++ 32 ∷ []) (signed_decimal y)) in
    ap (λ z. set z r 10) second
    ∙ last_byte b p r 10 (signed_decimal x ++ 32 ∷ [] ++ signed_decimal y) e3 h

-- a line where there is room
pub put_written :
    (b : List ℕ) (p q r : ℕ) (x y : ℤ) → q ≡ p + length (signed_decimal x) → r ≡ q + 1 + length (signed_decimal y) →
    24 ≤ length b - p → r < length b →
    set (placed (set (placed b p (signed_decimal x)) q 32) (q + 1) (signed_decimal y)) r 10 ≡ put b p (tick_line x y)
put_written b p q r x y e f h l =
    line_written b p q r x y e f l
    ∙ sym (cond-true (roomy b p) (placed b p (tick_line x y)) b (le-leb 24 (length b - p) h))
