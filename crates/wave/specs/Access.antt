-- Reads and writes in a list: what a memory answers to them, and what it means afterwards.
use Rattle.std.specs.Prelude.{◌≡◌, ◌↔◌, ℕ, Bool, List, [], ◌∷◌, Some, None, Ok, Err, Option, Result, IsTrue}
use Rattle.wave.specs.Memory.{Memory, fetch, store, written}
use Rattle.wave.specs.declared.memory.Refusal.{Refusal}
use Rattle.wave.specs.declared.access.Access.{Access}
use Rattle.wave.specs.declared.access.Access.TheVariants.{Read, Write}

-- the byte of a read, nothing more for a write, or the refusal
abbrev pub Answer : Type 0
Answer = Result (Option ℕ) Refusal

abbrev pub read_answer : Result ℕ Refusal → Answer
read_answer (Ok byte) = Ok (Some byte)
read_answer (Err e) = Err e

abbrev pub write_answer : Result Memory Refusal → Answer
write_answer (Ok n) = Ok None
write_answer (Err e) = Err e

abbrev pub answer : Memory → Access → Answer
answer m (Read place) = read_answer (fetch m.bytes place)
answer m (Write place byte) = write_answer (store m place byte)

abbrev pub after : Memory → Access → Memory
after m (Read place) = m
after m (Write place byte) = written m place byte

abbrev pub answers : Memory → List Access → List Answer
answers m [] = []
answers m (a ∷ rest) = answer m a ∷ answers (after m a) rest

abbrev pub after_all : Memory → List Access → Memory
after_all m [] = m
after_all m (a ∷ rest) = after_all (after m a) rest

-- The accesses were performed on memories that meant m and n and now mean m' and n', and `same` says whether all the
-- answers were the same.
pub record Compared (m n : Memory) (accesses : List Access) (same : Bool) (m' n' : Memory) : Type 0 where
  pub answers : IsTrue same ↔ (answers m accesses ≡ answers n accesses)
  pub first : m' ≡ after_all m accesses
  pub second : n' ≡ after_all n accesses
