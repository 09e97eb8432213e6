-- The header of a log: version, kind of chip, spare bits, clock.
use Rattle.std.specs.Prelude.{ℕ, Bool, cond, ◌&&◌, List, [], ◌∷◌, length, Ok, Err, Result, ◌==◌, nat_le}
use Rattle.kind.specs.Clocks.{clock_fits}
use Rattle.kind.specs.Kinds.{kind_of, bit_of}
use Rattle.kind.specs.declared.Kind.{Kind}
use Rattle.register_log.specs.Fields.{field, Field}
use Rattle.register_log.specs.declared.fault.Fault.{Fault}
use Rattle.register_log.specs.declared.fault.Fault.TheVariants.{Length, Header as WrongField}
use Rattle.register_log.specs.declared.header.Header.{Header}

-- how many bytes a log may have at most
abbrev pub most : ℕ
most = 16777216

-- how many bytes a log may have
abbrev pub length_fits : List ℕ → Bool
length_fits log = nat_le 4 (length log) && nat_le (length log) most

-- the place of the first record
abbrev pub records_start : ℕ
records_start = 32

-- Reading

abbrev pub kind_at : List ℕ → Kind
kind_at log = kind_of (field log 4 1 == 1)

abbrev pub fields_fit : List ℕ → Bool
fields_fit log = field log 0 4 == 1 && field log 5 3 == 0 && clock_fits (kind_at log) (field log 8 24)

abbrev pub accepted : List ℕ → Result Header Fault
accepted log = cond (fields_fit log) (Ok (record { kind = kind_at log; clock = field log 8 24 })) (Err WrongField)

abbrev pub header : List ℕ → Result Header Fault
header log = cond (length_fits log) (accepted log) (Err Length)

-- Writing

abbrev pub header_fits : Header → Bool
header_fits h = clock_fits h.kind h.clock

abbrev pub kind_number : Kind → ℕ
kind_number kind = cond (bit_of kind) 1 0

-- the fields of a header: the version is 1, the spare bits are 0
abbrev pub header_fields : Header → List Field
header_fields h = (4, 1) ∷ (1, kind_number h.kind) ∷ (3, 0) ∷ (24, h.clock) ∷ []
