-- Two memories in a row, the first one's places first.
use Rattle.std.specs.Prelude.{ℕ, ◌-◌, ◌≤◌, Bool, cond, ◌&&◌, List, ◌++◌, length, drop, [], ◌∷◌, None, nat_le, nat_lt}
use Rattle.wave.specs.Memory.{Memory, Loan, most, size, written, meaning}
use Rattle.wave.specs.Lent.{used, used_within}

-- their bytes, as far as a memory goes
unfoldable pub joined : List ℕ → List ℕ → List ℕ
joined first second = used (first ++ second)

pub joined_within : (first second : List ℕ) → length (joined first second) ≤ most
unfolding joined
joined_within first second = used_within (first ++ second)

-- those of the second beyond the board, which it never reaches
unfoldable pub cut_off : List ℕ → List ℕ → List ℕ
cut_off first second = drop (most - length first) second

-- what a board holds of its lenders: what its parts hold, and what it cuts off
abbrev pub loans : List ℕ → List Loan → List ℕ → List Loan → List Loan
loans first of_first second of_second = of_first ++ of_second ++ record { name = None; beyond = cut_off first second } ∷ []

-- the places of either that take writes
abbrev pub either : Memory → Memory → ℕ → Bool
either first second place = cond (nat_lt place (size first)) (first.takes place) (second.takes (place - size first))

abbrev pub board : Memory → Memory → Memory
board first second = meaning (joined first.bytes second.bytes) (either first second)

-- A write reaches the part that holds its place, and nothing past the board's end. So the first part is as if the write
-- had been tried on it alone, and the second too where the place lies beyond the first and within the board.
abbrev pub second_written : Memory → Memory → ℕ → ℕ → Memory
second_written first second place byte =
    cond (nat_le (size first) place && nat_lt place most) (written second (place - size first) byte) second
