-- Bits of a byte.
use Rattle.std.proofs.Common.{◌≡◌, ℕ, ◌<◌, ◌≤◌, false, eqb, ap}
use Rattle.std.proofs.lemmas.Nat.Bits.{bit_at_above}
use Rattle.chip.specs.Control.{bit}

-- a byte has eight bits
pub bit_past : (n k : ℕ) → n < 256 → 8 ≤ k → bit n k ≡ false
bit_past n k h l = ap (λ b. eqb b 1) (bit_at_above n 8 k h l)
