-- Records: their values, their ranges and their fields.
use Rattle.std.specs.Prelude.{ℕ, ◌+◌, ◌-◌, Bool, true, ◌&&◌, List, [], ◌∷◌, ◌++◌, map, length, nat_le}
use Rattle.register_log.specs.Fields.{Field, gap}
use Rattle.register_log.specs.declared.record.Record.{Record}
use Rattle.register_log.specs.declared.record.Record.TheVariants as code

-- a record by its values
pub data Entry : Type 0 where
  register : (address byte : ℕ) → Entry
  window : (offset byte : ℕ) → Entry
  wait : (ticks : ℕ) → Entry
  block : (offset : ℕ) → (payload : List ℕ) → Entry

abbrev pub values : Record → Entry
values (code.Register address byte) = register address byte
values (code.Window offset byte) = window offset byte
values (code.Wait ticks) = wait ticks
values (code.Block offset payload) = block offset payload.now

-- Ranges

abbrev pub address_fits : ℕ → Bool
address_fits address = nat_le address 8

-- offsets reach to the end of the window, 4,096 bytes
abbrev pub block_fits : ℕ → ℕ → Bool
block_fits offset length = nat_le 1 length && nat_le (offset + length) 4096

abbrev pub ticks_fit : ℕ → Bool
ticks_fit ticks = nat_le 1 ticks && nat_le ticks 65535

abbrev pub byte_fits : ℕ → Bool
byte_fits byte = nat_le byte 255

unfoldable pub bytes_fit : List ℕ → Bool
bytes_fit [] = true
bytes_fit (byte ∷ rest) = byte_fits byte && bytes_fit rest

-- the records that a log can hold
abbrev pub fits : Entry → Bool
fits (register address byte) = address_fits address && byte_fits byte
fits (window offset byte) = block_fits offset 1 && byte_fits byte
fits (wait ticks) = ticks_fit ticks
fits (block offset payload) = block_fits offset (length payload) && bytes_fit payload

-- the bytes for the window that a record has lie within it
abbrev pub in_window : Entry → Bool
in_window (register address byte) = true
in_window (window offset byte) = block_fits offset 1
in_window (wait ticks) = true
in_window (block offset payload) = block_fits offset (length payload)

-- Fields

-- the tag that a record begins with, or the end
abbrev pub end_tag : ℕ
end_tag = 0

abbrev pub register_tag : ℕ
register_tag = 1

abbrev pub window_tag : ℕ
window_tag = 2

abbrev pub wait_tag : ℕ
wait_tag = 3

abbrev pub block_tag : ℕ
block_tag = 4

-- a byte as a field
abbrev pub octet : ℕ → Field
octet byte = (8, byte)

-- what stands before a block's bytes, which begin at a byte boundary
abbrev pub block_head : ℕ → ℕ → ℕ → List Field
block_head place offset length = (3, block_tag) ∷ (12, offset) ∷ (12, length - 1) ∷ (gap (place + 27), 0) ∷ []

-- the fields of a record at a place
abbrev pub fields : ℕ → Entry → List Field
fields place (register address byte) = (3, register_tag) ∷ (4, address) ∷ (8, byte) ∷ []
fields place (window offset byte) = (3, window_tag) ∷ (12, offset) ∷ (8, byte) ∷ []
fields place (wait ticks) = (3, wait_tag) ∷ (16, ticks) ∷ []
fields place (block offset payload) = block_head place offset (length payload) ++ map octet payload
