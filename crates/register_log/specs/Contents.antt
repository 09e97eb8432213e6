-- Whole logs: what they hold, and the log of a header and its records.
use Rattle.std.specs.Prelude.{◌≡◌, ℕ, zero, suc, ◌+◌, ◌*◌, true, List, [], ◌∷◌, ◌++◌, length, take, Some, None, Ok, Err, Option, Result}
use Rattle.register_log.specs.Fields.{Field, span, packed}
use Rattle.register_log.specs.Header.{header, header_fields, records_start}
use Rattle.register_log.specs.Reading.{Found, end, found, decode}
use Rattle.register_log.specs.Record.{Entry, fits, fields}
use Rattle.register_log.specs.Recording.{State, after, end_fields, log_length}
use Rattle.register_log.specs.declared.fault.Fault.{Fault}
use Rattle.register_log.specs.declared.fault.Fault.TheVariants.{Cut}
use Rattle.register_log.specs.declared.header.Header.{Header}

-- Reading

-- the records that a reader comes to, and the fault that stops it, or none at the end
pub record Contents : Type 0 where
  pub entries : List Entry
  pub fault : Option Fault

abbrev pub one_more : Entry → Contents → Contents
one_more entry rest = record { entries = entry ∷ rest.entries; fault = rest.fault }

-- the contents from a place on, by what stands there
abbrev pub onward : (ℕ → Contents) → Result Found Fault → Contents
onward rest (Ok end) = record { entries = []; fault = None }
onward rest (Ok (found entry next)) = one_more entry (rest next)
onward rest (Err fault) = record { entries = []; fault = Some fault }

-- the contents from a place on, if there are fewer records than the limit
unfoldable pub reading : ℕ → List ℕ → ℕ → Contents
reading zero log place = record { entries = []; fault = Some Cut }
reading (suc limit) log place = onward (reading limit log) (decode log place)

-- a log has fewer records than bits
abbrev pub contents : List ℕ → Contents
contents log = reading (8 * length log) log records_start

-- Writing

-- the fields of records, one after another
abbrev pub all_fields : ℕ → List Entry → List Field
all_fields place [] = []
all_fields place (entry ∷ rest) = fields place entry ++ all_fields (after place entry) rest

-- the log of a header and records
abbrev pub log_of : Header → List Entry → List ℕ
log_of header entries = packed (header_fields header ++ all_fields records_start entries ++ end_fields)

-- the place at which the records of a log end
abbrev pub end_of : List Entry → ℕ
end_of entries = records_start + span (all_fields records_start entries)

-- Both

-- a log can hold each of these records
abbrev pub AllFit : List Entry → Type 0
AllFit [] = Unit {0}
AllFit (entry ∷ rest) = (fits entry ≡ true) × AllFit rest

-- a reader accepts the log, and finds this header and these records in it
abbrev pub Reads : List ℕ → Header → List Entry → Type 0
Reads log h entries = (header log ≡ Ok h) × (contents log ≡ record { entries = entries; fault = None })

-- the first bytes of a recording's buffer are the log of this header and these records, and read back as them
pub record Whole (s : State) (h : Header) (entries : List Entry) : Type 0 where
  pub place : s.place ≡ end_of entries
  pub bytes : take (log_length s.place) s.buffer ≡ log_of h entries
  pub reads : Reads (log_of h entries) h entries
