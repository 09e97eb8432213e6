-- Logs by numbers: which kind, header and records the numbers stand for, and what is answered.
use Rattle.std.specs.Prelude.{ℕ, ◌+◌, cond, List, [], length, take, drop, Ok, Err, Result, ◌==◌, min, nat_le}
use Rattle.kind.specs.declared.Kind.{Kind}
use Rattle.kind.specs.declared.Kind.TheVariants.{Rf5c68a, Rf5c164}
use Rattle.register_log.specs.Fault.{number as fault-number}
use Rattle.register_log.specs.Header.{kind_number}
use Rattle.register_log.specs.Record.{Entry, register, window, wait, block, register_tag, window_tag, wait_tag, block_tag}
use Rattle.register_log.specs.Recording.{number}
use Rattle.register_log.specs.declared.fault.Fault.{Fault}
use Rattle.register_log.specs.declared.header.Header.{Header}
use Rattle.register_log.specs.declared.refusal.Refusal.{Refusal}
use Rattle.exported.specs.Numbers.{no_refusal}
use Rattle.exported.specs.declared.logs.FlatRecord.{FlatRecord}
use Rattle.exported.specs.declared.logs.HeaderAnswer.{HeaderAnswer}
use Rattle.exported.specs.declared.logs.Recorded.{Recorded}

-- an RF5C68A by its number, and an RF5C164 by any other
abbrev pub kind_of : ℕ → Kind
kind_of n = cond (n == kind_number Rf5c68a) Rf5c68a Rf5c164

abbrev pub header_of : ℕ → ℕ → Header
header_of kind clock = record { kind = kind_of kind; clock = clock }

abbrev pub header_answer : Result Header Fault → HeaderAnswer
header_answer (Ok h) = record { refusal = no_refusal; kind = kind_number h.kind; clock = h.clock }
header_answer (Err fault) = record { refusal = fault-number fault; kind = 0; clock = 0 }

-- Records

-- so many bytes from a place on, none where they are not all there
abbrev pub part : List ℕ → ℕ → ℕ → List ℕ
part bytes start count = cond (nat_le (start + count) (length bytes)) (take count (drop start bytes)) []

-- Numbers that stand for no record give one that no log can hold: a register's address is cut to a byte that names no
-- register, a block whose bytes are not lent has none, and another tag is a wait of no ticks.
abbrev pub entry_of : List ℕ → FlatRecord → Entry
entry_of bytes r =
    cond (r.tag == register_tag) (register (min r.value 255) r.byte)
    (cond (r.tag == window_tag) (window r.value r.byte)
    (cond (r.tag == wait_tag) (wait r.value)
    (cond (r.tag == block_tag) (block r.value (part bytes r.start r.count)) (wait 0))))

abbrev pub recorded_answer : Result ℕ Refusal → Recorded
recorded_answer (Ok n) = record { refusal = no_refusal; length = n }
recorded_answer (Err refusal) = record { refusal = number refusal; length = 0 }
