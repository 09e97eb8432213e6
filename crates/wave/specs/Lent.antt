-- Bytes that a memory is made over.
use Rattle.std.specs.Prelude.{ℕ, ◌≤◌, true, false, List, length, take, drop, Some}
use Rattle.std.specs.Borrow.{MutBor}
use Rattle.std.proofs.Common.{arith}
use Rattle.std.proofs.lemmas.List.{length-take}
use Rattle.wave.specs.Memory.{Memory, Loan, most, meaning}

-- those that it uses
unfoldable pub used : List ℕ → List ℕ
used lent = take most lent

pub used_within : (lent : List ℕ) → length (used lent) ≤ most
unfolding used
used_within lent = omega (arith, length-take most lent)

-- those beyond, which it never reaches
unfoldable pub beyond : List ℕ → List ℕ
beyond lent = drop most lent

-- what RAM holds of its lender
abbrev pub loan : MutBor (List ℕ) → Loan
loan lent = record { name = Some lent.ghost_name; beyond = beyond lent.now }

-- RAM takes writes everywhere
abbrev pub ram : List ℕ → Memory
ram lent = meaning (used lent) (λ _. true)

-- mask ROM takes none
abbrev pub rom : List ℕ → Memory
rom lent = meaning (used lent) (λ _. false)
