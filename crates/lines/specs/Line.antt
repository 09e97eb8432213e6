-- The line of a tick: its totals, left before right.
use Rattle.std.specs.Prelude.{ℕ, ◌+◌, ◌-◌, Bool, cond, List, ◌++◌, length, ℤ, codes, nat_le}
use Rattle.std.specs.Fmt.{signed_decimal}
use Rattle.lines.specs.Placed.{placed}

abbrev pub tick_line : ℤ → ℤ → List ℕ
tick_line left right = signed_decimal left ++ codes " " ++ signed_decimal right ++ codes "\n"

-- the most bytes of a line
abbrev pub longest : ℕ
longest = 24

-- whether a buffer has room for a longest line from a place on
abbrev pub roomy : List ℕ → ℕ → Bool
roomy buffer place = nat_le longest (length buffer - place)

-- a buffer once a line is written from a place on, and the place behind it: nothing is written without room
abbrev pub put : List ℕ → ℕ → List ℕ → List ℕ
put buffer place line = cond (roomy buffer place) (placed buffer place line) buffer

abbrev pub behind : List ℕ → ℕ → List ℕ → ℕ
behind buffer place line = cond (roomy buffer place) (place + length line) place
