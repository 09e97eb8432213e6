-- How many digits a number has.
use Rattle.std.proofs.Common.{◌≡◌, ℕ, ◌+◌, ◌/◌, ◌%◌, ◌^◌, ◌<◌, ◌≤◌, [], ◌∷◌, length, refl, ap, ◌∙◌, arith, length-append}
use Rattle.std.specs.Fmt.{decimal}
use Rattle.std.proofs.lemmas.Fmt.{decimal_digit, decimal_step, decimal_nonempty, length-decimal-le}

pub one_digit : (n : ℕ) → n < 10 → length (decimal n) ≡ 1
one_digit n h = ap length (decimal_digit n h)

pub more_digits : (n : ℕ) → 10 ≤ n → n < 2 ^ 32 → length (decimal n) ≡ length (decimal (n / 10)) + 1
more_digits n h u = ap length (decimal_step n h (omega arith)) ∙ length-append (decimal (n / 10)) ((48 + n % 10) ∷ [])

pub digits_some : (n : ℕ) → n < 2 ^ 32 → 1 ≤ length (decimal n)
digits_some n h = decimal_nonempty n (omega arith)

pub digits_most : (n : ℕ) → n < 2 ^ 32 → length (decimal n) ≤ 10
digits_most n h = length-decimal-le 10 n (omega arith) (omega arith) (omega arith)

-- two digits more than a hundredth has
pub hundredth : (n : ℕ) → 100 ≤ n → n < 2 ^ 32 → length (decimal n) ≡ length (decimal (n / 100)) + 2
hundredth n h u =
    let again : n / 10 / 10 ≡ n / 100 = omega arith in
    omega (arith, more_digits n (omega arith) u, more_digits (n / 10) (omega arith) (omega arith), ap (λ m. length (decimal m)) again)

-- one digit more than a tenth has
tenth : (n k l : ℕ) → 10 ≤ n → n < 2 ^ 32 → length (decimal (n / 10)) ≡ k → k + 1 ≡ l → length (decimal n) ≡ l
tenth n k l h u e f = omega (arith, more_digits n h u)

pub two_digits : (n : ℕ) → 10 ≤ n → n < 100 → length (decimal n) ≡ 2
two_digits n h u = tenth n 1 2 h (omega arith) (one_digit (n / 10) (omega arith)) refl

pub three_digits : (n : ℕ) → 100 ≤ n → n < 1000 → length (decimal n) ≡ 3
three_digits n h u = tenth n 2 3 (omega arith) (omega arith) (two_digits (n / 10) (omega arith) (omega arith)) refl

pub four_digits : (n : ℕ) → 1000 ≤ n → n < 10000 → length (decimal n) ≡ 4
four_digits n h u = tenth n 3 4 (omega arith) (omega arith) (three_digits (n / 10) (omega arith) (omega arith)) refl

pub five_digits : (n : ℕ) → 10000 ≤ n → n < 100000 → length (decimal n) ≡ 5
five_digits n h u = tenth n 4 5 (omega arith) (omega arith) (four_digits (n / 10) (omega arith) (omega arith)) refl

pub six_digits : (n : ℕ) → 100000 ≤ n → n < 1000000 → length (decimal n) ≡ 6
six_digits n h u = tenth n 5 6 (omega arith) (omega arith) (five_digits (n / 10) (omega arith) (omega arith)) refl

pub seven_digits : (n : ℕ) → 1000000 ≤ n → n < 10000000 → length (decimal n) ≡ 7
seven_digits n h u = tenth n 6 7 (omega arith) (omega arith) (six_digits (n / 10) (omega arith) (omega arith)) refl

pub eight_digits : (n : ℕ) → 10000000 ≤ n → n < 100000000 → length (decimal n) ≡ 8
eight_digits n h u = tenth n 7 8 (omega arith) (omega arith) (seven_digits (n / 10) (omega arith) (omega arith)) refl

pub nine_digits : (n : ℕ) → 100000000 ≤ n → n < 1000000000 → length (decimal n) ≡ 9
nine_digits n h u = tenth n 8 9 (omega arith) (omega arith) (eight_digits (n / 10) (omega arith) (omega arith)) refl

pub ten_digits : (n : ℕ) → 1000000000 ≤ n → n < 2 ^ 32 → length (decimal n) ≡ 10
ten_digits n h u = tenth n 9 10 (omega arith) (omega arith) (nine_digits (n / 10) (omega arith) (omega arith)) refl

pub ruleset digits_counted = (one_digit, two_digits, three_digits, four_digits, five_digits, six_digits, seven_digits, eight_digits, nine_digits, ten_digits)
