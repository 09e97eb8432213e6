-- What holds of a voice in every list of calls on a new chip.
use Rattle.std.specs.Prelude.{◌≡◌, ℕ, ◌+◌, ◌%◌, ◌<◌, Bool, true, false, List, [], ◌∷◌, ◌++◌, length, ◌==◌, slice_index_or}
use Rattle.wave.specs.Memory.{Memory}
use Rattle.voice.specs.Voice.{fresh, silence, positions, step, start, landing, landed}
use Rattle.voice.specs.declared.voice.Voice.{Voice}
use Rattle.chip.specs.declared.registers.Setup.{Setup}
use Rattle.chip.specs.Control.{bit}
use Rattle.chip.specs.Registers.{made, stands, sounds}
use Rattle.chip.specs.Port.{State, memory_size}
use Rattle.calls.specs.Calls.{after, after_all}
use Rattle.calls.specs.declared.Call.{Call}
use Rattle.calls.specs.declared.Call.TheVariants.{Reset, Write, Read, Inspect, Tick, Tell}

-- a new chip
abbrev pub new : Memory → Setup → State
new memory setup = record { registers = made setup; memory = memory }

-- voice k, from 0
abbrev pub voice_of : State → ℕ → Voice
voice_of s k = slice_index_or s.registers.voices k fresh

-- whether a tick finds voice k switched on
abbrev pub found_on : State → ℕ → Bool
found_on s k = sounds s.registers.control.on s.registers.channel k

-- whether a tick is granted
abbrev pub granted : State → Bool
granted s = length s.memory.bytes == memory_size

-- whether a call is a granted tick, or a reset
abbrev pub ticks : Call → State → Bool
ticks Reset s = false
ticks (Write address byte) s = false
ticks (Read address) s = false
ticks (Inspect offset) s = false
ticks Tick s = granted s
ticks Tell s = false

abbrev pub resets : Call → Bool
resets Reset = true
resets (Write address byte) = false
resets (Read address) = false
resets (Inspect offset) = false
resets Tick = false
resets Tell = false

-- no call of the list is a granted tick
abbrev pub NoTick : List Call → State → Type 0
NoTick [] s = Unit {0}
NoTick (c ∷ rest) s = (ticks c s ≡ false) × NoTick rest (after c s)

-- no call of the list is a reset
abbrev pub NoReset : List Call → Type 0
NoReset [] = Unit {0}
NoReset (c ∷ rest) = (resets c ≡ false) × NoReset rest

-- a tick has voice k read first at a position
abbrev pub ReadsFrom : State → ℕ → ℕ → Type 0
ReadsFrom s k p =
    let bytes : List ℕ = s.memory.bytes in
    let v : Voice = voice_of s k in
    voice_of (after Tick s) k ≡ landed bytes v.settings (landing bytes v.settings p)

-- The calls are any, and so is where the ticks stand among them.
pub record Law (s : State) (calls : List Call) : Type 0 where
  -- no tick finds a muted voice on
  pub muted :
      (before rest : List Call) → calls ≡ before ++ rest → (k : ℕ) → k < 8 →
      bit s.registers.setup.mutes k ≡ true → found_on (after_all before s) k ≡ false
  -- a voice that a granted tick finds off contributes 0 in it
  pub silent :
      (before rest : List Call) → calls ≡ before ++ Tick ∷ rest → (k : ℕ) → k < 8 →
      granted (after_all before s) ≡ true → found_on (after_all before s) k ≡ false →
      (voice_of (after Tick (after_all before s)) k).latest ≡ silence
  -- and reads from its start in the next granted tick that finds it on
  pub restarts :
      (before between rest : List Call) → calls ≡ before ++ Tick ∷ between ++ Tick ∷ rest → (k : ℕ) → k < 8 →
      let first : State = after_all before s in
      let second : State = after_all between (after Tick first) in
      granted first ≡ true → found_on first k ≡ false → NoTick between (after Tick first) →
      granted second ≡ true → found_on second k ≡ true → ReadsFrom second k (start (voice_of second k).settings)
  -- a voice that two granted ticks find on goes on by its step, whatever was switched between them
  pub continues :
      (before between rest : List Call) → calls ≡ before ++ Tick ∷ between ++ Tick ∷ rest → (k : ℕ) → k < 8 →
      let first : State = after_all before s in
      let second : State = after_all between (after Tick first) in
      granted first ≡ true → found_on first k ≡ true → NoTick between (after Tick first) → NoReset between →
      granted second ≡ true → found_on second k ≡ true →
      ReadsFrom second k ((stands (voice_of (after Tick first) k) + step (voice_of second k).settings) % positions)
