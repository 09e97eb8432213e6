-- The calls of a chip: what each answers, and what it leaves. An outcome that is a refusal leaves everything.
use Rattle.std.specs.Prelude.{ℕ, zero, suc, ◌+◌, ◌-◌, Bool, false, cond, ◌&&◌, List, [], ◌∷◌, length, Ok, Err, Result, ◌==◌, nat_le, nat_lt, slice_index}
use Rattle.wave.specs.Memory.{Memory, fetch, store}
use Rattle.wave.specs.declared.memory.Refusal.{Refusal as MemoryRefusal}
use Rattle.voice.specs.Frame.{frame as frame-of, Frame}
use Rattle.kind.specs.declared.Kind.{Kind}
use Rattle.kind.specs.declared.Kind.TheVariants.{Rf5c68a, Rf5c164}
use Rattle.chip.specs.Control.{window_size, place_behind}
use Rattle.chip.specs.Registers.{registered, position_byte, ticked}
use Rattle.chip.specs.declared.port.Target.{Target}
use Rattle.chip.specs.declared.port.Target.TheVariants.{Register, Position, Window}
use Rattle.chip.specs.declared.refusal.Refusal.{Refusal}
use Rattle.chip.specs.declared.refusal.Refusal.TheVariants.{MemorySize, BeyondPort, NothingThere, Sounding, PastWindow, Memory as InMemory}
use Rattle.chip.specs.declared.registers.Registers.{Registers}

-- how many bytes the memory under a chip has
abbrev pub memory_size : ℕ
memory_size = 65536

-- the host addresses: where the window starts, and the last
abbrev pub window_start : ℕ
window_start = 0x1000

abbrev pub last_address : ℕ
last_address = 0x1fff

-- the last register that can be written
abbrev pub last_register : ℕ
last_register = 8

-- the position registers: the first, and the first address past them
abbrev pub positions_start : ℕ
positions_start = 0x10

abbrev pub positions_end : ℕ
positions_end = 0x20

-- a chip by its registers and the meaning of its memory
pub record State : Type 0 where
  pub registers : Registers
  pub memory : Memory

-- a chip of either kind wants a memory of that size, and asks for it first
abbrev pub sized : {A : Type 0} → List ℕ → Result A Refusal → Result A Refusal
sized bytes outcome = cond (length bytes == memory_size) outcome (Err MemorySize)

-- the host's addresses: those of the window, those below it, and then no more
abbrev pub port : {A : Type 0} → ℕ → Result A Refusal → Result A Refusal → Result A Refusal
port address below window = cond (nat_lt last_address address) (Err BeyondPort) (cond (nat_lt address window_start) below window)

-- only an RF5C164 has position registers
abbrev pub has_positions : Kind → ℕ → Bool
has_positions Rf5c68a address = false
has_positions Rf5c164 address = nat_le positions_start address && nat_lt address positions_end

-- where an address leads: a register, a byte of the position registers, or an offset in the window
abbrev pub target : ℕ → Result Target Refusal
target address =
    port address
    (cond (nat_le address last_register) (Ok (Register address))
    (cond (has_positions Rf5c164 address) (Ok (Position (address - positions_start))) (Err NothingThere)))
    (Ok (Window (address - window_start)))

-- a memory's refusal within a chip's
abbrev pub in_memory : {A : Type 0} → Result A MemoryRefusal → Result A Refusal
in_memory (Ok x) = Ok x
in_memory (Err e) = Err (InMemory e)

-- Writes

abbrev pub with_registers : State → Registers → State
with_registers s r = record { registers = r; memory = s.memory }

abbrev pub with_memory : State → Result Memory Refusal → Result State Refusal
with_memory s (Ok m) = Ok (record { registers = s.registers; memory = m })
with_memory s (Err e) = Err e

abbrev pub write : State → ℕ → ℕ → Result State Refusal
write s address byte =
    sized s.memory.bytes
    (port address
    (cond (nat_le address last_register) (Ok (with_registers s (registered s.registers address byte))) (Err NothingThere))
    (with_memory s (in_memory (store s.memory (place_behind s.registers.control (address - window_start)) byte))))

-- Reads, which change nothing

abbrev pub read : List ℕ → Registers → ℕ → Result ℕ Refusal
read bytes r address =
    sized bytes
    (port address
    (cond (has_positions r.setup.kind address) (Ok (position_byte r.voices (address - positions_start))) (Err NothingThere))
    (cond r.control.on (Err Sounding) (in_memory (fetch bytes (place_behind r.control (address - window_start))))))

-- Inspections, which change nothing either

-- so many bytes from a place on, 0 past the end
abbrev pub shown : List ℕ → ℕ → ℕ → List ℕ
shown bytes place zero = []
shown bytes place (suc n) = slice_index bytes place ∷ shown bytes (place + 1) n

abbrev pub inspect : List ℕ → Registers → ℕ → ℕ → Result (List ℕ) Refusal
inspect bytes r offset n =
    sized bytes (cond (nat_lt window_size (offset + n)) (Err PastWindow) (Ok (shown bytes (place_behind r.control offset) n)))

-- The tick

abbrev pub tick : List ℕ → Registers → Result Registers Refusal
tick bytes r = sized bytes (Ok (ticked bytes r))

-- a frame after a tick: filled where it was granted
abbrev pub filled : Frame → Result Registers Refusal → Frame
filled before (Ok r) = frame-of r.setup.converter r.voices
filled before (Err e) = before
