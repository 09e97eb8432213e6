-- The calls of a chip over numbers: over which memory, and what is answered.
use Rattle.std.specs.Prelude.{ℕ, List, length, take, Ok, Err, Result}
use Rattle.wave.specs.Lent.{used, ram, rom}
use Rattle.wave.specs.Board.{joined, board}
use Rattle.voice.specs.Frame.{frame}
use Rattle.chip.specs.Port.{State}
use Rattle.chip.specs.Refusal.{number}
use Rattle.chip.specs.declared.refusal.Refusal.{Refusal}
use Rattle.chip.specs.declared.registers.Registers.{Registers}
use Rattle.exported.specs.Numbers.{no_refusal}
use Rattle.exported.specs.States.{registers_of}
use Rattle.exported.specs.Frames.{frame_of}
use Rattle.exported.specs.declared.states.ChipState.{ChipState}
use Rattle.exported.specs.declared.frames.Frame.{Frame}
use Rattle.exported.specs.declared.ports.ReadAnswer.{ReadAnswer}

-- the bytes of lent RAM and then lent ROM
abbrev pub bytes_of : List ℕ → List ℕ → List ℕ
bytes_of first second = joined (used first) (used second)

abbrev pub chip_over : ChipState → List ℕ → List ℕ → State
chip_over chip first second = record { registers = registers_of chip; memory = board (ram first) (rom second) }

-- the part of a memory that is RAM of a length
abbrev pub ram_of : List ℕ → State → List ℕ
ram_of lent s = take (length (used lent)) s.memory.bytes

abbrev pub refusal_number : Result (Unit {0}) Refusal → ℕ
refusal_number (Ok u) = no_refusal
refusal_number (Err refusal) = number refusal

abbrev pub read_answer : Result ℕ Refusal → ReadAnswer
read_answer (Ok byte) = record { refusal = no_refusal; byte = byte }
read_answer (Err refusal) = record { refusal = number refusal; byte = 0 }

-- a frame after a tick: filled where it was granted
abbrev pub filled : Frame → Result Registers Refusal → Frame
filled before (Ok r) = frame_of (frame r.setup.converter r.voices)
filled before (Err e) = before
