-- Fields, packed into bytes without gaps, most significant bit first.
use Rattle.std.specs.Prelude.{ℕ, zero, suc, ◌+◌, ◌-◌, ◌*◌, ◌/◌, ◌%◌, ◌^◌, List, [], ◌∷◌, ◌++◌, drop, slice_index}

-- Reading

-- the bit at a place
abbrev pub bit_at : List ℕ → ℕ → ℕ
bit_at bytes place = slice_index bytes (place / 8) / 2 ^ (7 - place % 8) % 2

-- the number in the bits from a place on, so many as the width
unfoldable pub field : List ℕ → ℕ → ℕ → ℕ
field bytes place zero = 0
field bytes place (suc width) = 2 * field bytes place width + bit_at bytes (place + width)

-- how many bytes so many bits take
abbrev pub bytes_for : ℕ → ℕ
bytes_for bits = (bits + 7) / 8

-- how many bits lie between a place and the next byte boundary
abbrev pub gap : ℕ → ℕ
gap place = (8 - place % 8) % 8

-- Writing

-- a field by its width and its number
abbrev pub Field : Type 0
Field = ℕ × ℕ

-- how many bits the fields take
abbrev pub span : List Field → ℕ
span [] = 0
span (f ∷ rest) = f.0 + span rest

-- the fields, one after another, as one number
abbrev pub number : List Field → ℕ
number [] = 0
number (f ∷ rest) = f.1 * 2 ^ span rest + number rest

-- a number in so many bytes, the most significant first
unfoldable pub big_endian : ℕ → ℕ → List ℕ
big_endian zero n = []
big_endian (suc count) n = n / 2 ^ (8 * count) % 256 ∷ big_endian count n

-- the fields in bytes, with zeros up to the end of the last byte
unfoldable pub packed : List Field → List ℕ
packed fields = big_endian (bytes_for (span fields)) (number fields * 2 ^ gap (span fields))

-- a buffer with fields written from a place on: the bits before the place stay, and so do the bytes after the fields'
unfoldable pub written : List ℕ → ℕ → List Field → List ℕ
written buffer place fields = packed ((place, field buffer 0 place) ∷ fields) ++ drop (bytes_for (place + span fields)) buffer
