-- Bits of mute sets and channel registers.
use Rattle.std.proofs.Common.{◌≡◌, ℕ, suc, ◌<◌, ◌≤◌, false, not, ◌||◌, eqb, List, [], ◌∷◌, get_or, ap, arith, lit<}
use Rattle.std.specs.List.{AllByRecursion}
use Rattle.std.proofs.lemmas.Nat.{le_or_l, or_lt}
use Rattle.std.proofs.lemmas.Nat.Bits.{bit_at_above, bit_at_or, bit_at_xor, bit_at_ones, same_from_bits}
use lib.Bits.{bit_or, bit_xor}
use Rattle.chip.specs.Control.{bit}

pub bit-bit_or : (a b k : ℕ) → bit (bit_or a b) k ≡ bit a k || bit b k
bit-bit_or a b k = grind (arith, bit_at_or a b k)

pub bit_outside : (a k : ℕ) → k < 8 → bit (bit_xor a 255) k ≡ not (bit a k)
bit_outside a k h = grind (arith, bit_at_xor a 255 k, bit_at_ones 8 k h)

pub or_full : (m : ℕ) → m < 256 → bit_or 255 m ≡ 255
or_full m h = omega (arith, le_or_l 255 m, or_lt 8 255 m (lit< tt) h)

pub or_assoc : (a b c : ℕ) → bit_or (bit_or a b) c ≡ bit_or a (bit_or b c)
or_assoc a b c =
    same_from_bits _ _ (λ i. omega (arith, bit_at_or (bit_or a b) c i, bit_at_or a b i, bit_at_or a (bit_or b c) i, bit_at_or b c i))

pub bit_past : (a k : ℕ) → a < 256 → 8 ≤ k → bit a k ≡ false
bit_past a k h l = ap (λ b. eqb b 1) (bit_at_above a 8 k h l)

-- what a list of bytes that a slice holds promises of each
pub all_bytes : (groups : List ℕ) → ((i : ℕ) → get_or groups i 0 < 256) → AllByRecursion (λ g. g < 256) groups
all_bytes [] h = tt
all_bytes (g ∷ gs) h = (h 0, all_bytes gs (λ i. h (suc i)))
