-- What a recording does with the buffer that it is lent.
use Rattle.std.specs.Prelude.{ℕ, ◌+◌, Bool, cond, ◌&&◌, List, [], ◌∷◌, ◌++◌, length, Ok, Err, Result, nat_le}
use Rattle.register_log.specs.Fault.{number as fault-number}
use Rattle.register_log.specs.Fields.{Field, span, bytes_for, written}
use Rattle.register_log.specs.Header.{most, records_start, header_fits, header_fields}
use Rattle.register_log.specs.Record.{Entry, fits, fields, end_tag}
use Rattle.register_log.specs.declared.fault.Fault.TheVariants.{Header as WrongField, Range}
use Rattle.register_log.specs.declared.header.Header.{Header}
use Rattle.register_log.specs.declared.refusal.Refusal.{Refusal}
use Rattle.register_log.specs.declared.refusal.Refusal.TheVariants.{Log, NoRoom}

abbrev pub number : Refusal → ℕ
number (Log fault) = fault-number fault
number NoRoom = 13

-- the place after a record
abbrev pub after : ℕ → Entry → ℕ
after place entry = place + span (fields place entry)

-- the end: a tag, and zeros up to the end of its byte
abbrev pub end_fields : List Field
end_fields = (3, end_tag) ∷ []

-- how many bytes a log has whose records end at a place
abbrev pub log_length : ℕ → ℕ
log_length place = bytes_for (place + 3)

-- such a log fits a buffer, and is none too long
abbrev pub roomy : ℕ → ℕ → Bool
roomy capacity place = nat_le (log_length place) capacity && nat_le (log_length place) most

-- where a recording stands, and the buffer that it is lent
pub record State : Type 0 where
  pub place : ℕ
  pub buffer : List ℕ

abbrev pub state : ℕ → List ℕ → State
state place buffer = record { place = place; buffer = buffer }

-- a place, if a log whose records end there has room
abbrev pub reached : ℕ → ℕ → Result ℕ Refusal
reached capacity place = cond (roomy capacity place) (Ok place) (Err NoRoom)

-- where the records end after a header, and after one more record, in a buffer of so many bytes
abbrev pub header_placed : ℕ → Header → Result ℕ Refusal
header_placed capacity header = cond (header_fits header) (reached capacity records_start) (Err (Log WrongField))

abbrev pub record_placed : ℕ → ℕ → Entry → Result ℕ Refusal
record_placed capacity place entry = cond (fits entry) (reached capacity (after place entry)) (Err (Log Range))

-- fields and the end, written from a place on, if the records have a place where they end then
abbrev pub stored : List ℕ → ℕ → List Field → Result ℕ Refusal → Result State Refusal
stored buffer place fields (Ok end) = Ok (state end (written buffer place (fields ++ end_fields)))
stored buffer place fields (Err refusal) = Err refusal

abbrev pub begun : List ℕ → Header → Result State Refusal
begun buffer header = stored buffer 0 (header_fields header) (header_placed (length buffer) header)

abbrev pub added : State → Entry → Result State Refusal
added s entry = stored s.buffer s.place (fields s.place entry) (record_placed (length s.buffer) s.place entry)
