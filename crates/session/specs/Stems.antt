-- What makes stations a mix and its stems.
use Rattle.std.specs.Prelude.{◌≡◌, ℕ, cond, List, length, bit_or}
use Rattle.std.specs.List.{AllByRecursion, AllZip}
use Rattle.voice.specs.Voice.{silent}
use Rattle.voice.specs.declared.frame.Converter.{Converter}
use Rattle.kind.specs.declared.Kind.{Kind}
use Rattle.chip.specs.Control.{bit}
use Rattle.chip.specs.Registers.{each, made}
use Rattle.chip.specs.declared.registers.Registers.{Registers}
use Rattle.player.specs.Step.{new}
use Rattle.session.specs.Groups.{outside}
use Rattle.session.specs.Station.{Model}

-- a relation between each group and the station in its place of a list
abbrev pub Each : (ℕ → Model → Type 0) → List ℕ → List Model → Type 0
Each R groups stations = AllZip R groups stations

-- New stations

-- a new chip of a kind that mutes these voices, with a player of a log that has taken no step
pub record New (kind : Kind) (mutes : ℕ) (log : List ℕ) (s : Model) : Type 0 where
  pub plays : s.log ≡ log
  pub player : s.player ≡ new
  pub registers : s.chip.registers ≡ made (record { kind = kind; converter = s.chip.registers.setup.converter; mutes = mutes })

-- New stations for a mix and for the groups: of one kind, each with a player of one log, over memories of one meaning,
-- which hold the same bytes and take writes at the same places, and with buffers of one length. Converters may differ.
pub record Begun (kind : Kind) (groups : List ℕ) (mix : Model) (stems : List Model) : Type 0 where
  pub new_mix : New kind 0 mix.log mix
  pub new_stems : Each (λ group s. New kind (outside group) mix.log s) groups stems
  pub memories : AllByRecursion (λ s. s.chip.memory ≡ mix.chip.memory) stems
  pub buffers : AllByRecursion (λ s. length s.buffer ≡ length mix.buffer) stems

-- Stations on their way

-- registers of a chip that also mutes these voices: their channel bits are set, and they are silent
abbrev pub muting : ℕ → Converter → Registers → Registers
muting mutes converter r =
    record {
      setup = record { kind = r.setup.kind; converter = converter; mutes = bit_or r.setup.mutes mutes };
      control = r.control;
      channel = bit_or r.channel mutes;
      voices = each (λ k v. cond (bit mutes k) (silent v) v) 0 r.voices;
    }

-- a station is the stem of a group: its chip is the mix's, but that it mutes the voices outside the group
pub record StemOf (mix : Model) (group : ℕ) (s : Model) : Type 0 where
  pub log : s.log ≡ mix.log
  pub player : s.player ≡ mix.player
  pub memory : s.chip.memory ≡ mix.chip.memory
  pub registers : s.chip.registers ≡ muting (outside group) s.chip.registers.setup.converter mix.chip.registers
  pub buffer : length s.buffer ≡ length mix.buffer

-- a mix of eight voices, and the stems of the groups
pub record MixAndStems (groups : List ℕ) (mix : Model) (stems : List Model) : Type 0 where
  pub eight : length mix.chip.registers.voices ≡ 8
  pub each_stem : Each (StemOf mix) groups stems
