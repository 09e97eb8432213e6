-- The states that a caller's numbers stand for, and the numbers that a state is saved as.
use Rattle.std.specs.Prelude.{ℕ, false, cond, List, [], ◌∷◌, find, map, Some, None, Option, is_some, unwrap_or, ◌==◌}
use Rattle.wave.specs.declared.memory.Refusal.TheVariants.{ReadOnly, PastEnd}
use Rattle.voice.specs.declared.voice.Voice.{Voice}
use Rattle.voice.specs.declared.frame.Converter.{Converter}
use Rattle.voice.specs.declared.frame.Converter.TheVariants.{Bits16, Bits10, Bits8}
use Rattle.chip.specs.Refusal.{number as chip-number}
use Rattle.chip.specs.declared.refusal.Refusal.{Refusal}
use Rattle.chip.specs.declared.refusal.Refusal.TheVariants.{MemorySize, BeyondPort, NothingThere, Sounding, PastWindow, Memory}
use Rattle.chip.specs.declared.registers.Registers.{Registers}
use Rattle.chip.specs.declared.registers.Setup.{Setup}
use Rattle.register_log.specs.Fault.{number as log-number}
use Rattle.register_log.specs.Header.{kind_number}
use Rattle.register_log.specs.declared.fault.Fault.{Fault as LogFault}
use Rattle.register_log.specs.declared.fault.Fault.TheVariants.{Length, Header, Cut, Tag, Range, Padding}
use Rattle.player.specs.Fault.{number, bit, address}
use Rattle.player.specs.Step.{Stand, standing}
use Rattle.player.specs.declared.fault.Fault.{Fault}
use Rattle.player.specs.declared.fault.Fault.TheVariants.{Log, Chip}
use Rattle.player.specs.declared.player.State.{State}
use Rattle.player.specs.declared.player.State.TheVariants.{Between, Waiting, Ended, Faulted}
use Rattle.exported.specs.Numbers.{no_refusal, flag, is_set, present}
use Rattle.exported.specs.Logs.{kind_of}
use Rattle.exported.specs.declared.states.VoiceState.{VoiceState}
use Rattle.exported.specs.declared.states.ChipState.{ChipState}
use Rattle.exported.specs.declared.states.PlayerState.{PlayerState}

-- Chips

-- the bits of a word, which are a converter's number
abbrev pub converter_bits : Converter → ℕ
converter_bits Bits16 = 16
converter_bits Bits10 = 10
converter_bits Bits8 = 8

abbrev pub converters : List Converter
converters = Bits16 ∷ Bits10 ∷ Bits8 ∷ []

-- the converter of so many bits, and that of 16 where none has so many
abbrev pub converter_of : ℕ → Converter
converter_of bits = unwrap_or (find (λ converter. converter_bits converter == bits) converters) Bits16

abbrev pub voice_of : VoiceState → Voice
voice_of v =
    record {
      settings = record { env = v.env; pan = v.pan; fdl = v.fdl; fdh = v.fdh; lsl = v.lsl; lsh = v.lsh; st = v.st };
      phase = present v.sounding v.phase;
      latest = record { left = v.left; right = v.right };
    }

abbrev pub saved_voice : Voice → VoiceState
saved_voice v =
    record {
      phase = unwrap_or v.phase 0;
      left = v.latest.left;
      right = v.latest.right;
      sounding = flag (is_some v.phase);
      env = v.settings.env;
      pan = v.settings.pan;
      fdl = v.settings.fdl;
      fdh = v.settings.fdh;
      lsl = v.settings.lsl;
      lsh = v.settings.lsh;
      st = v.settings.st;
    }

abbrev pub setup_of : ℕ → ℕ → ℕ → Setup
setup_of kind converter mutes = record { kind = kind_of kind; converter = converter_of converter; mutes = mutes }

abbrev pub registers_of : ChipState → Registers
registers_of c =
    record {
      setup = setup_of c.kind c.converter c.mutes;
      control = record { on = is_set c.on; bank = c.bank; selected = c.selected };
      channel = c.channel;
      voices = map voice_of c.voices;
    }

abbrev pub saved_chip : Registers → ChipState
saved_chip r =
    record {
      voices = map saved_voice r.voices;
      kind = kind_number r.setup.kind;
      converter = converter_bits r.setup.converter;
      mutes = r.setup.mutes;
      on = flag r.control.on;
      bank = r.control.bank;
      selected = r.control.selected;
      channel = r.channel;
    }

-- Players

abbrev pub log_faults : List LogFault
log_faults = Length ∷ Header ∷ Cut ∷ Tag ∷ Range ∷ Padding ∷ []

-- the fault of a log that has this number, if one has it
abbrev pub log_fault_of : ℕ → Option LogFault
log_fault_of n = find (λ fault. log-number fault == n) log_faults

abbrev pub chip_refusals : List Refusal
chip_refusals = MemorySize ∷ BeyondPort ∷ NothingThere ∷ Sounding ∷ PastWindow ∷ Memory ReadOnly ∷ Memory PastEnd ∷ []

-- the refusal of a chip that has this number, if one has it
abbrev pub chip_refusal_of : ℕ → Option Refusal
chip_refusal_of n = find (λ refusal. chip-number refusal == n) chip_refusals

-- a log's fault where one has the number, and else a chip's refusal; where no case has the number, `PastWindow` stands
abbrev pub by_layer : Option LogFault → PlayerState → Fault
by_layer (Some fault) p = Log fault p.bit
by_layer None p = Chip (unwrap_or (chip_refusal_of p.number) PastWindow) p.bit (present p.has_address p.address)

abbrev pub fault_of : PlayerState → Fault
fault_of p = by_layer (log_fault_of p.number) p

-- the number of each state
abbrev pub state_number : State → ℕ
state_number Between = 0
state_number (Waiting b left) = 1
state_number (Ended b) = 2
state_number (Faulted fault) = 3

-- the state that has the number, and a fault's where no other has it
abbrev pub state_of : PlayerState → State
state_of p =
    cond (state_number Between == p.state) Between
    (cond (state_number (Waiting p.bit p.ticks) == p.state) (Waiting p.bit p.ticks)
    (cond (state_number (Ended p.bit) == p.state) (Ended p.bit) (Faulted (fault_of p))))

abbrev pub stand_of : PlayerState → Stand
stand_of p = standing p.place (state_of p)

-- the host address of a fault, if it has one
abbrev pub address_of : Fault → Option ℕ
address_of (Log fault place) = None
address_of (Chip refusal place at) = at

-- a player that has no fault, by its place, state, bit and ticks
abbrev pub saved_faultless : ℕ → State → ℕ → ℕ → PlayerState
saved_faultless place s b left =
    record { place = place; bit = b; ticks = left; address = 0; state = state_number s; number = no_refusal; has_address = flag false }

abbrev pub saved_player : ℕ → State → PlayerState
saved_player place Between = saved_faultless place Between 0 0
saved_player place (Waiting b left) = saved_faultless place (Waiting b left) b left
saved_player place (Ended b) = saved_faultless place (Ended b) b 0
saved_player place (Faulted f) =
    record {
      place = place;
      bit = bit f;
      ticks = 0;
      address = address f;
      state = state_number (Faulted f);
      number = number f;
      has_address = flag (is_some (address_of f));
    }

-- what is saved of a player
abbrev pub saved_stand : Stand → PlayerState
saved_stand p = saved_player p.place p.state
