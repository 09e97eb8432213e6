-- The meaning of a store of any make, by the ghost members of its bound. The record that a bound has of both traits has no
-- name in a definition, so its members are passed one by one.
use Rattle.std.specs.Prelude.{ℕ, Bool, List}
use Rattle.wave.specs.Memory.{Memory, meaning}

abbrev pub means : {M : Type 0} → (M → List ℕ) → (M → ℕ → Bool) → M → Memory
means bytes takes m = meaning (bytes m) (takes m)
