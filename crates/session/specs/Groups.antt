-- Groups: sets of the eight voices as bits, of which bit 0 is voice 1.
use Rattle.std.specs.Prelude.{◌≡◌, ℕ, ◌<◌, Bool, List, bit_xor, count_by}
use Rattle.std.specs.List.{AllByRecursion}
use Rattle.chip.specs.Control.{bit}

-- whether voice k, from 0, is in a group
abbrev pub holds : ℕ → ℕ → Bool
holds group k = bit group k

-- how many of the groups hold voice k
abbrev pub holders : List ℕ → ℕ → ℕ
holders groups k = count_by (λ group. holds group k) groups

-- the groups divide the eight voices: each voice is in exactly one
pub record Divides (groups : List ℕ) : Type 0 where
  pub bytes : AllByRecursion (λ group. group < 256) groups
  pub once : (k : ℕ) → k < 8 → holders groups k ≡ 1

-- the voices outside a group, which its chip mutes
abbrev pub outside : ℕ → ℕ
outside group = bit_xor group 255
