-- The stop search.
use Rattle.std.specs.Prelude.{◌≡◌, ℕ, ◌<◌, ◌≤◌, List, length, drop, Some, None, Option, ◌≢◌, ◌==◌, slice_index}
use Rattle.std.specs.List.{position_from}

-- the stop byte, FFH
abbrev pub stop : ℕ
stop = 255

-- the first place from one on that holds the stop byte, or none
unfoldable pub first_stop : List ℕ → ℕ → Option ℕ
first_stop bytes from = position_from (λ byte. byte == stop) from (drop from bytes)

-- no place from one up to another, without that one, holds the stop byte
abbrev pub Clear : List ℕ → ℕ → ℕ → Type 0
Clear bytes from to = (place : ℕ) → from ≤ place → place < to → slice_index bytes place ≢ stop

-- The law of the search: what is found holds the stop byte, and no place before it does; if none is found, no place does.
abbrev pub FirstStop : List ℕ → ℕ → Option ℕ → Type 0
FirstStop bytes from (Some place) = (from ≤ place) × (place < length bytes) × (slice_index bytes place ≡ stop) × Clear bytes from place
FirstStop bytes from None = Clear bytes from (length bytes)
