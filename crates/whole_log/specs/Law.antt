-- Every accepted log is the recording of exactly one header and list of records.
use Rattle.std.specs.Prelude.{◌≡◌, ℕ, ◌≤◌, true, false, ◌⊎◌, List, [], ◌∷◌, ◌++◌, length, drop, Some, None, Ok, Err, Option}
use Rattle.register_log.specs.Contents.{contents, log_of, end_of, AllFit, Reads}
use Rattle.register_log.specs.Header.{header as header_of, header_fits, records_start}
use Rattle.register_log.specs.Record.{Entry, fits}
use Rattle.register_log.specs.Recording.{roomy}
use Rattle.register_log.specs.declared.fault.Fault.{Fault}
use Rattle.register_log.specs.declared.fault.Fault.TheVariants.{Header as WrongField, Range}
use Rattle.register_log.specs.declared.header.Header.{Header}
use Rattle.register_log.specs.declared.refusal.Refusal.{Refusal}
use Rattle.register_log.specs.declared.refusal.Refusal.TheVariants.{Log, NoRoom}
use Rattle.whole_log.specs.Outcome.{Outcome}

-- a buffer that begins with a log, which reads back as its header and records, and is as it was beyond that log
abbrev pub Begins : List ℕ → List ℕ → Header → List Entry → Type 0
Begins before after h entries = (after ≡ log_of h entries ++ drop (length (log_of h entries)) before) × Reads (log_of h entries) h entries

-- a header and records that a log can hold, and a buffer of so many bytes as well
abbrev pub Recordable : ℕ → Header → List Entry → Type 0
Recordable capacity h entries = (header_fits h ≡ true) × AllFit entries × (roomy capacity (end_of entries) ≡ true)

-- why a header is refused
abbrev pub HeaderRefused : ℕ → Header → Refusal → Type 0
HeaderRefused capacity h refusal =
    ((header_fits h ≡ false) × (refusal ≡ Log WrongField))
    ⊎ ((header_fits h ≡ true) × (roomy capacity records_start ≡ false) × (refusal ≡ NoRoom))

-- why a record is refused after others
abbrev pub RecordRefused : ℕ → List Entry → Entry → Refusal → Type 0
RecordRefused capacity done entry refusal =
    ((fits entry ≡ false) × (refusal ≡ Log Range))
    ⊎ ((fits entry ≡ true) × (roomy capacity (end_of (done ++ entry ∷ [])) ≡ false) × (refusal ≡ NoRoom))

-- the first cause of a refusal: the header, a record after others that are recordable, or a fault after all of them
abbrev pub Cause : ℕ → Header → List Entry → Option Fault → Refusal → Type 0
Cause capacity h entries fault refusal =
    HeaderRefused capacity h refusal
    ⊎ (((done : List Entry) × (entry : Entry) × (rest : List Entry)
    × (entries ≡ done ++ entry ∷ rest) × Recordable capacity h done × RecordRefused capacity done entry refusal)
    ⊎ (Recordable capacity h entries × ((f : Fault) × (fault ≡ Some f) × (refusal ≡ Log f))))

-- What a recording of a header and records leaves, where the records end or a fault stands in the place of the end.
pub record Recorded (before : List ℕ) (h : Header) (entries : List Entry) (fault : Option Fault) (o : Outcome) : Type 0 where
  -- what a log can hold, and has room, is recorded
  pub granted : Recordable (length before) h entries → fault ≡ None → o.answer ≡ Ok (length (log_of h entries))
  -- a granted recording is the whole log
  pub whole :
      (n : ℕ) → o.answer ≡ Ok n →
      (fault ≡ None) × Recordable (length before) h entries × (n ≡ length (log_of h entries)) × Begins before o.buffer h entries
  -- a refusal has one of these causes, and leaves the buffer
  pub refused : (refusal : Refusal) → o.answer ≡ Err refusal → Cause (length before) h entries fault refusal × (o.buffer ≡ before)

-- What copying a log leaves.
pub record Copied (log before : List ℕ) (o : Outcome) : Type 0 where
  -- an accepted log is copied byte by byte
  pub same :
      (h : Header) (entries : List Entry) → Reads log h entries → length log ≤ length before →
      (o.answer ≡ Ok (length log)) × (o.buffer ≡ log ++ drop (length log) before)
  -- it is the recording of its header and records, and of no others
  pub one :
      (h : Header) (entries : List Entry) → Reads log h entries →
      (header_fits h ≡ true) × AllFit entries × (log ≡ log_of h entries)
      × ((k : Header) (others : List Entry) → header_fits k ≡ true → AllFit others → log ≡ log_of k others → (k ≡ h) × (others ≡ entries))
  -- a refusal leaves the buffer
  pub refused : (refusal : Refusal) → o.answer ≡ Err refusal → o.buffer ≡ before
  -- a wrong header is refused with its fault
  pub header : (fault : Fault) → header_of log ≡ Err fault → o.answer ≡ Err (Log fault)
  -- any other log is recorded, with the fault at which reading stops
  pub recorded : (h : Header) → header_of log ≡ Ok h → Recorded before h (contents log).entries (contents log).fault o
