-- What a wave memory means: its bytes, as many as its size, and the places that take writes.
use Rattle.std.specs.Prelude.{◌≡◌, ℕ, ◌<◌, Bool, cond, ◌&&◌, List, length, Ok, Err, Option, Result, nat_lt, slice_index, slice_set}
use Rattle.outcome.specs.Outcome.{kept}
use Rattle.wave.specs.declared.memory.Refusal.{Refusal}
use Rattle.wave.specs.declared.memory.Refusal.TheVariants.{ReadOnly, PastEnd}

-- the number of each refusal
abbrev pub number : Refusal → ℕ
number ReadOnly = 5
number PastEnd = 6

-- the most places that a memory uses
abbrev pub most : ℕ
most = 131072

pub record Memory : Type 0 where
  pub bytes : List ℕ
  pub takes : ℕ → Bool

abbrev pub size : Memory → ℕ
size m = length m.bytes

-- The meaning of bytes that take writes where `takes` says: of `takes` only the places below the size count. So memories
-- with the same bytes that take writes at the same places have one meaning, whatever their make.
abbrev pub meaning : List ℕ → (ℕ → Bool) → Memory
meaning bytes takes = record { bytes = bytes; takes = λ place. nat_lt place (length bytes) && takes place }

-- memories that hold the same bytes and take writes at the same places
pub record Alike (m n : Memory) : Type 0 where
  pub bytes : m.bytes ≡ n.bytes
  pub takes : (place : ℕ) → place < size m → m.takes place ≡ n.takes place

-- what a memory holds of its lenders: the name of a borrow, if it is one, and bytes beyond its places, which it never reaches
pub record Loan : Type 0 where
  pub name : Option ℕ
  pub beyond : List ℕ

-- a read: the byte, or past the end
abbrev pub fetch : List ℕ → ℕ → Result ℕ Refusal
fetch bytes place = cond (nat_lt place (length bytes)) (Ok (slice_index bytes place)) (Err PastEnd)

-- a write: the memory with that one byte replaced, or past the end, or read-only
unfoldable pub store : Memory → ℕ → ℕ → Result Memory Refusal
store m place byte =
    cond (nat_lt place (size m))
    (cond (m.takes place) (Ok (record { bytes = slice_set m.bytes place byte; takes = m.takes })) (Err ReadOnly))
    (Err PastEnd)

-- the memory after a write was tried
abbrev pub written : Memory → ℕ → ℕ → Memory
written m place byte = kept m (store m place byte)
