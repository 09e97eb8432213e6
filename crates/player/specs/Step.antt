-- A player's step.
use Rattle.std.specs.Prelude.{ℕ, ◌+◌, ◌-◌, Bool, true, false, cond, List, [], ◌∷◌, Some, None, Ok, Err, Result, nat_le, nat_lt}
use Rattle.voice.specs.Frame.{frame as frame-of, Frame}
use Rattle.kind.specs.declared.Kind.{Kind}
use Rattle.kind.specs.declared.Kind.TheVariants.{Rf5c68a, Rf5c164}
use Rattle.chip.specs.Port.{State as ChipState, with_registers, write, tick, window_start}
use Rattle.chip.specs.declared.refusal.Refusal.{Refusal}
use Rattle.chip.specs.declared.registers.Registers.{Registers}
use Rattle.register_log.specs.Header.{header, records_start}
use Rattle.register_log.specs.Reading.{Found, end, found, decode}
use Rattle.register_log.specs.Record.{Entry, register, window, wait, block}
use Rattle.register_log.specs.declared.fault.Fault.{Fault as LogFault}
use Rattle.register_log.specs.declared.fault.Fault.TheVariants.{Header as WrongField}
use Rattle.register_log.specs.declared.header.Header.{Header}
use Rattle.player.specs.declared.fault.Fault.{Fault}
use Rattle.player.specs.declared.fault.Fault.TheVariants.{Log, Chip}
use Rattle.player.specs.declared.player.Player.{Player}
use Rattle.player.specs.declared.player.Progress.{Progress}
use Rattle.player.specs.declared.player.Progress.TheVariants.{Taken, Ticked, Ended as AtEnd}
use Rattle.player.specs.declared.player.State.{State}
use Rattle.player.specs.declared.player.State.TheVariants.{Between, Waiting, Ended, Faulted}

-- where a player stands in its log, and its state; the log itself, which no step changes, is left out, as every definition
-- of a step would have to carry it
pub record Stand : Type 0 where
  pub place : ℕ
  pub state : State

abbrev pub standing : ℕ → State → Stand
standing place state = record { place = place; state = state }

abbrev pub stand : Player → Stand
stand p = standing p.reader.place p.state

-- a player that has taken no step stands before the header
abbrev pub new : Stand
new = standing 0 Between

-- what a step leaves, and its answer
pub record Stepped : Type 0 where
  pub chip : ChipState
  pub player : Stand
  pub answer : Result Progress Fault

abbrev pub stepped : ChipState → Stand → Result Progress Fault → Stepped
stepped c p answer = record { chip = c; player = p; answer = answer }

abbrev pub went_on : ChipState → ℕ → Stepped
went_on c place = stepped c (standing place Between) (Ok Taken)

abbrev pub ended : ChipState → ℕ → ℕ → Stepped
ended c place bit = stepped c (standing place (Ended bit)) (Ok (AtEnd bit))

abbrev pub failed : ChipState → ℕ → Fault → Stepped
failed c place fault = stepped c (standing place (Faulted fault)) (Err fault)

-- what a step comes to, from its answer: a fault leaves the player faulted where it stands
abbrev pub settled : ChipState → Stand → Result Progress Fault → Stepped
settled c p (Ok progress) = stepped c p (Ok progress)
settled c p (Err fault) = failed c p.place fault

-- The header

abbrev pub same_kind : Kind → Kind → Bool
same_kind Rf5c68a Rf5c68a = true
same_kind Rf5c68a Rf5c164 = false
same_kind Rf5c164 Rf5c68a = false
same_kind Rf5c164 Rf5c164 = true

-- the header is right, and for such a chip
abbrev pub for_kind : Kind → Result Header LogFault → Result (Unit {0}) LogFault
for_kind kind (Ok h) = cond (same_kind h.kind kind) (Ok tt) (Err WrongField)
for_kind kind (Err fault) = Err fault

abbrev pub opened : ChipState → ℕ → Result (Unit {0}) LogFault → Stepped
opened c place (Ok u) = went_on c records_start
opened c place (Err fault) = failed c place (Log fault 0)

-- Records

-- after a write for the record at a bit: what follows, or the fault
abbrev pub unless_refused : (ChipState → Stepped) → ChipState → ℕ → ℕ → ℕ → Result ChipState Refusal → Stepped
unless_refused next c place bit address (Ok d) = next d
unless_refused next c place bit address (Err refusal) = failed c place (Chip refusal bit (Some address))

-- bytes to the host port from an address upward, up to the first refusal; the record is at a bit and ends at a place
unfoldable pub put : List ℕ → ℕ → ℕ → ℕ → ChipState → Stepped
put [] address bit place c = went_on c place
put (byte ∷ rest) address bit place c =
    unless_refused (put rest (address + 1) bit place) c place bit address (write c address byte)

-- what the writes came to, from their answer: all were granted, or one was refused
abbrev pub put_down : Result (Unit {0}) Fault → ℕ → ChipState → Stepped
put_down (Ok u) place c = went_on c place
put_down (Err fault) place c = failed c place fault

abbrev pub obeyed : ChipState → ℕ → ℕ → Entry → Stepped
obeyed c bit place (register address byte) = put (byte ∷ []) address bit place c
obeyed c bit place (window offset byte) = put (byte ∷ []) (window_start + offset) bit place c
obeyed c bit place (wait ticks) = stepped c (standing place (Waiting bit ticks)) (Ok Taken)
obeyed c bit place (block offset payload) = put payload (window_start + offset) bit place c

abbrev pub taken : ChipState → ℕ → Result Found LogFault → Stepped
taken c place (Ok end) = ended c place place
taken c place (Ok (found entry next)) = obeyed c place next entry
taken c place (Err fault) = failed c place (Log fault place)

-- Ticks

-- the state once a tick of a wait is done, of so many that were left
abbrev pub less_one : ℕ → ℕ → State
less_one bit left = cond (nat_le left 1) Between (Waiting bit (left - 1))

abbrev pub waited : ChipState → ℕ → ℕ → ℕ → Result Registers Refusal → Stepped
waited c place bit left (Ok r) = stepped (with_registers c r) (standing place (less_one bit left)) (Ok Ticked)
waited c place bit left (Err refusal) = failed c place (Chip refusal bit None)

-- Steps

abbrev pub between : List ℕ → ChipState → ℕ → Stepped
between log c place = cond (nat_lt place records_start) (opened c place (for_kind c.registers.setup.kind (header log))) (taken c place (decode log place))

abbrev pub by_state : List ℕ → ChipState → ℕ → State → Stepped
by_state log c place Between = between log c place
by_state log c place (Waiting bit left) = waited c place bit left (tick c.memory.bytes c.registers)
by_state log c place (Ended bit) = ended c place bit
by_state log c place (Faulted fault) = failed c place fault

abbrev pub step : List ℕ → ChipState → Stand → Stepped
step log c p = by_state log c p.place p.state

-- the frame after a step: only a tick fills it
abbrev pub framed : Frame → Stepped → Result Progress Fault → Frame
framed before s (Ok Taken) = before
framed before s (Ok Ticked) = frame-of s.chip.registers.setup.converter s.chip.registers.voices
framed before s (Ok (AtEnd bit)) = before
framed before s (Err fault) = before
