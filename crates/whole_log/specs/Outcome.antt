-- What comes of recording a list of records, or of copying a log.
use Rattle.std.specs.Prelude.{ℕ, cond, is_ok, List, [], ◌∷◌, Some, None, Ok, Err, Option, Result}
use Rattle.register_log.specs.Contents.{contents}
use Rattle.register_log.specs.Header.{header as header_of}
use Rattle.register_log.specs.Record.{Entry}
use Rattle.register_log.specs.Recording.{State, begun, added, log_length}
use Rattle.register_log.specs.declared.fault.Fault.{Fault}
use Rattle.register_log.specs.declared.header.Header.{Header}
use Rattle.register_log.specs.declared.refusal.Refusal.{Refusal}
use Rattle.register_log.specs.declared.refusal.Refusal.TheVariants.{Log}

-- the answer, a log's length or a refusal, and the buffer afterwards
pub record Outcome : Type 0 where
  pub answer : Result ℕ Refusal
  pub buffer : List ℕ

abbrev pub outcome : Result ℕ Refusal → List ℕ → Outcome
outcome answer buffer = record { answer = answer; buffer = buffer }

-- the next step if the last was granted
abbrev pub onward : (State → Outcome) → List ℕ → Result State Refusal → Outcome
onward next buffer (Ok s) = next s
onward next buffer (Err refusal) = outcome (Err refusal) buffer

-- after the last record: the end, or the fault that came in its place
abbrev pub closed : Option Fault → State → Outcome
closed None s = outcome (Ok (log_length s.place)) s.buffer
closed (Some fault) s = outcome (Err (Log fault)) s.buffer

-- records, added one after another up to the first that is refused
abbrev pub recorded : List Entry → Option Fault → State → Outcome
recorded [] fault s = closed fault s
recorded (entry ∷ rest) fault s = onward (recorded rest fault) s.buffer (added s entry)

-- what comes of it, once all were added or one was refused
abbrev pub finished : Result (Unit {0}) Refusal → State → Outcome
finished (Ok u) s = closed None s
finished (Err refusal) s = outcome (Err refusal) s.buffer

-- the single calls of a recording: a header, and records after it
abbrev pub one_by_one : List ℕ → Header → List Entry → Option Fault → Outcome
one_by_one buffer h entries fault = onward (recorded entries fault) buffer (begun buffer h)

-- many calls as one: where one is refused, the buffer is as it was before all
abbrev pub all_or_none : List ℕ → Outcome → Outcome
all_or_none before o = outcome o.answer (cond (is_ok o.answer) o.buffer before)

-- a header and records
abbrev pub recording : List ℕ → Header → List Entry → Option Fault → Outcome
recording buffer h entries fault = all_or_none buffer (one_by_one buffer h entries fault)

-- a log, by its header
abbrev pub copied_under : List ℕ → List ℕ → Result Header Fault → Outcome
copied_under log buffer (Ok h) = recording buffer h (contents log).entries (contents log).fault
copied_under log buffer (Err fault) = outcome (Err (Log fault)) buffer

abbrev pub copied : List ℕ → List ℕ → Outcome
copied log buffer = copied_under log buffer (header_of log)
