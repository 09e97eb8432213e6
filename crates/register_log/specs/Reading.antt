-- What stands at a place of a log.
use Rattle.std.specs.Prelude.{ℕ, ◌+◌, ◌*◌, Bool, cond, ◌&&◌, List, length, take, drop, Some, None, Ok, Err, Option, Result, ◌==◌, nat_le}
use Rattle.register_log.specs.Fields.{field, gap, bytes_for}
use Rattle.register_log.specs.Header.{length_fits}
use Rattle.register_log.specs.Record as tag
use Rattle.register_log.specs.Record.{Entry, register, window, wait, block, values, address_fits, ticks_fit, block_fits}
use Rattle.register_log.specs.declared.fault.Fault.{Fault}
use Rattle.register_log.specs.declared.fault.Fault.TheVariants.{Length, Cut, Tag, Range, Padding}
use Rattle.register_log.specs.declared.record.Record.{Record}

-- the end, or a record and the place after it
pub data Found : Type 0 where
  end : Found
  found : Entry → (next : ℕ) → Found

-- the log has that many bits
abbrev pub whole : {A : Type 0} → List ℕ → ℕ → Result A Fault → Result A Fault
whole log bits outcome = cond (nat_le bits (8 * length log)) outcome (Err Cut)

-- the bits up to the next byte boundary are 0
abbrev pub padded : List ℕ → ℕ → Bool
padded log place = field log place (gap place) == 0

-- the bits up to the next byte boundary are 0, and no byte follows
abbrev pub ends : List ℕ → ℕ → Bool
ends log place = padded log place && bytes_for place == length log

-- what follows each tag
abbrev pub end_at : List ℕ → ℕ → Result Found Fault
end_at log place = cond (ends log place) (Ok end) (Err Padding)

abbrev pub register_at : List ℕ → ℕ → Result Found Fault
register_at log place =
    whole log (place + 12)
    (cond (address_fits (field log place 4)) (Ok (found (register (field log place 4) (field log (place + 4) 8)) (place + 12))) (Err Range))

abbrev pub window_at : List ℕ → ℕ → Result Found Fault
window_at log place = whole log (place + 20) (Ok (found (window (field log place 12) (field log (place + 12) 8)) (place + 20)))

abbrev pub wait_at : List ℕ → ℕ → Result Found Fault
wait_at log place = whole log (place + 16) (cond (ticks_fit (field log place 16)) (Ok (found (wait (field log place 16)) (place + 16))) (Err Range))

-- the bytes of a block, once its offset and its length are known
abbrev pub payload_at : List ℕ → ℕ → ℕ → ℕ → Result Found Fault
payload_at log place offset n =
    let first : ℕ = bytes_for place in
    cond (block_fits offset n)
    (cond (padded log place) (whole log (8 * (first + n)) (Ok (found (block offset (take n (drop first log))) (8 * (first + n))))) (Err Padding))
    (Err Range)

abbrev pub block_at : List ℕ → ℕ → Result Found Fault
block_at log place = whole log (place + 24) (payload_at log (place + 24) (field log place 12) (field log (place + 12) 12 + 1))

abbrev pub tagged : List ℕ → ℕ → ℕ → Result Found Fault
tagged log place t =
    cond (t == tag.end_tag) (end_at log place)
    (cond (t == tag.register_tag) (register_at log place)
    (cond (t == tag.window_tag) (window_at log place)
    (cond (t == tag.wait_tag) (wait_at log place) (cond (t == tag.block_tag) (block_at log place) (Err Tag)))))

-- what a log has at a place
abbrev pub decode : List ℕ → ℕ → Result Found Fault
decode log place = cond (length_fits log) (whole log (place + 3) (tagged log (place + 3) (field log place 3))) (Err Length)

-- where a reader stands afterwards: only a record moves it
abbrev pub place_after : ℕ → Result Found Fault → ℕ
place_after place (Ok end) = place
place_after place (Ok (found entry next)) = next
place_after place (Err fault) = place

-- what a reader's answer says it found, with the place at which it stands then
abbrev pub answered : Result (Option Record) Fault → ℕ → Result Found Fault
answered (Ok (Some r)) place = Ok (found (values r) place)
answered (Ok None) place = Ok end
answered (Err fault) place = Err fault

-- of what was found, if anything was
abbrev pub WhenFound : {A : Type 0} → (A → Type 0) → Result (Option A) Fault → Type 0
WhenFound P (Ok (Some x)) = P x
WhenFound P (Ok None) = Unit {0}
WhenFound P (Err fault) = Unit {0}
