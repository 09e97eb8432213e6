-- Text in a buffer.
use Rattle.std.specs.Prelude.{ℕ, ◌+◌, ◌-◌, ◌/◌, ◌%◌, List, ◌++◌, length, take, drop, slice_set}

-- a buffer once a text is written from a place on
unfoldable pub placed : List ℕ → ℕ → List ℕ → List ℕ
placed buffer place text = take place buffer ++ text ++ drop (place + length text) buffer

-- a buffer once both digits of a number are written, the second to the last place
abbrev pub paired : List ℕ → ℕ → ℕ → List ℕ
paired buffer last number = slice_set (slice_set buffer last (48 + number % 10)) (last - 1) (48 + number / 10)
