-- All that a chip holds beside its memory: how it is made, what a register write and a tick do to it.
use Rattle.std.specs.Prelude.{ℕ, suc, ◌/◌, ◌%◌, ◌^◌, Bool, false, cond, not, ◌&&◌, List, [], ◌∷◌, replicate, ◌==◌, bit_or, nat_lt, slice_index_or}
use Rattle.voice.specs.Voice.{fresh, position, place, tick, latest as latest-of, Contribution}
use Rattle.voice.specs.declared.voice.Settings.{Settings}
use Rattle.voice.specs.declared.voice.Voice.{Voice}
use Rattle.chip.specs.Control.{bit, controlled}
use Rattle.chip.specs.declared.control.Control.{Control}
use Rattle.chip.specs.declared.registers.Registers.{Registers}
use Rattle.chip.specs.declared.registers.Setup.{Setup}

-- a new chip
abbrev pub made : Setup → Registers
made setup =
    record {
      setup = setup;
      control = record { on = false; bank = 0; selected = 0 };
      channel = 255;
      voices = replicate 8 fresh;
    }

abbrev pub reset : Registers → Registers
reset r = made r.setup

abbrev pub with_control : Registers → Control → Registers
with_control r c =
    record { setup = r.setup; control = c; channel = r.channel; voices = r.voices }

abbrev pub with_channel : Registers → ℕ → Registers
with_channel r byte =
    record { setup = r.setup; control = r.control; channel = byte; voices = r.voices }

abbrev pub with_voices : Registers → List Voice → Registers
with_voices r voices =
    record { setup = r.setup; control = r.control; channel = r.channel; voices = voices }

-- each voice changed by a rule that knows its number, from k on
abbrev pub each : (ℕ → Voice → Voice) → ℕ → List Voice → List Voice
each rule k [] = []
each rule k (v ∷ vs) = rule k v ∷ each rule (suc k) vs

-- Register writes

-- the settings of a voice after a byte to one of the addresses 0 to 6
abbrev pub with_byte : ℕ → ℕ → Settings → Settings
with_byte address byte s =
    record {
      env = cond (address == 0) byte s.env;
      pan = cond (address == 1) byte s.pan;
      fdl = cond (address == 2) byte s.fdl;
      fdh = cond (address == 3) byte s.fdh;
      lsl = cond (address == 4) byte s.lsl;
      lsh = cond (address == 5) byte s.lsh;
      st = cond (address == 6) byte s.st;
    }

abbrev pub edited : ℕ → ℕ → Voice → Voice
edited address byte v = record { settings = with_byte address byte v.settings; phase = v.phase; latest = v.latest }

-- one voice changed by a rule
abbrev pub chosen : ℕ → (Voice → Voice) → List Voice → List Voice
chosen n rule voices = each (λ k v. cond (k == n) (rule v) v) 0 voices

-- a byte to one of the addresses 0 to 6 reaches the selected voice, one to 7 is a control byte, and one to 8 is the
-- channel register, in which the mute set's bits stay set
abbrev pub registered : Registers → ℕ → ℕ → Registers
registered r address byte =
    cond (nat_lt address 7) (with_voices r (chosen r.control.selected (edited address byte) r.voices))
    (cond (address == 7) (with_control r (controlled r.control byte))
    (cond (address == 8) (with_channel r (bit_or byte r.setup.mutes)) r))

-- Positions

-- where a voice stands
abbrev pub stands : Voice → ℕ
stands v = position v.settings v.phase

-- byte i of a number, the low one first
abbrev pub byte_of : ℕ → ℕ → ℕ
byte_of n i = n / 256 ^ i % 256

-- byte i of the position registers: two to a voice, the low one first
abbrev pub position_byte : List Voice → ℕ → ℕ
position_byte voices i = byte_of (place (stands (slice_index_or voices (i / 2) fresh))) (i % 2)

-- The tick

-- whether voice k, from 0, is switched on
abbrev pub sounds : Bool → ℕ → ℕ → Bool
sounds on channel k = on && not (bit channel k)

-- voice k over one tick
abbrev pub voice_ticked : List ℕ → ℕ → Registers → Registers
voice_ticked bytes k r = with_voices r (chosen k (tick bytes (sounds r.control.on r.channel k)) r.voices)

abbrev pub voices_after : List ℕ → Bool → ℕ → List Voice → List Voice
voices_after bytes on channel voices = each (λ k v. tick bytes (sounds on channel k) v) 0 voices

abbrev pub ticked : List ℕ → Registers → Registers
ticked bytes r = with_voices r (voices_after bytes r.control.on r.channel r.voices)

-- the latest contributions
abbrev pub latest : Registers → List Contribution
latest r = latest-of r.voices
