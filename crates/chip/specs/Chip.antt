-- A chip over a store of any make, by its state. The members of the store's bound are passed one by one, as to `means`.
use Rattle.std.specs.Prelude.{ℕ, Bool, List}
use Rattle.wave.specs.Means.{means}
use Rattle.chip.specs.Port.{State}
use Rattle.chip.specs.declared.chip.Chip.{Chip}

abbrev pub state : {M : Type 0} → (M → List ℕ) → (M → ℕ → Bool) → Chip M → State
state bytes takes c = record { registers = c.registers; memory = means bytes takes c.memory }
