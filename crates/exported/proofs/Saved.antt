-- What is saved is loaded again.
use Rattle.std.proofs.Common.{◌≡◌, ℕ, Bool, true, false, List, [], ◌∷◌, map, Some, None, Option, is_some, unwrap_or, refl, ap, arith}
use Rattle.kind.specs.declared.Kind.{Kind}
use Rattle.kind.specs.declared.Kind.TheVariants.{Rf5c68a, Rf5c164}
use Rattle.wave.specs.declared.memory.Refusal.TheVariants.{ReadOnly, PastEnd}
use Rattle.voice.specs.declared.voice.Voice.{Voice}
use Rattle.voice.specs.declared.frame.Converter.{Converter}
use Rattle.voice.specs.declared.frame.Converter.TheVariants.{Bits16, Bits10, Bits8}
use Rattle.chip.specs.declared.refusal.Refusal.TheVariants.{MemorySize, BeyondPort, NothingThere, Sounding, PastWindow, Memory}
use Rattle.chip.specs.declared.registers.Registers.{Registers}
use Rattle.register_log.specs.Header.{kind_number}
use Rattle.register_log.specs.declared.fault.Fault.TheVariants.{Length, Header, Cut, Tag, Range, Padding}
use Rattle.player.specs.Step.{Stand}
use Rattle.player.specs.declared.fault.Fault.{Fault}
use Rattle.player.specs.declared.fault.Fault.TheVariants.{Log, Chip}
use Rattle.player.specs.declared.player.State.{State}
use Rattle.player.specs.declared.player.State.TheVariants.{Between, Waiting, Ended, Faulted}
use Rattle.exported.specs.Logs.{kind_of}
use Rattle.exported.specs.Numbers.{flag, is_set, present}
use Rattle.exported.specs.States.{converter_of, converter_bits, voice_of, saved_voice, registers_of, saved_chip, fault_of, stand_of, saved_player}

kind_back : (k : Kind) → kind_of (kind_number k) ≡ k
kind_back Rf5c68a = refl
kind_back Rf5c164 = refl

converter_back : (k : Converter) → converter_of (converter_bits k) ≡ k
converter_back Bits16 = refl
converter_back Bits10 = refl
converter_back Bits8 = refl

phase_back : (p : Option ℕ) → present (flag (is_some p)) (unwrap_or p 0) ≡ p
phase_back None = refl
phase_back (Some n) = refl

voice_back : (v : Voice) → voice_of (saved_voice v) ≡ v
voice_back v = ap (λ p. record v { phase = p }) (phase_back v.phase)

voices_back : (vs : List Voice) → map voice_of (map saved_voice vs) ≡ vs
voices_back [] = refl
voices_back (v ∷ vs) = grind (arith, voice_back v, voices_back vs)

on_back : (b : Bool) → is_set (flag b) ≡ b
on_back true = refl
on_back false = refl

pub chip_loaded : (r : Registers) → registers_of (saved_chip r) ≡ r
chip_loaded r = grind (arith, kind_back, converter_back, voices_back, on_back)

abbrev stand : (place : ℕ) (s : State) → Stand
stand place s = record { place = place; state = s }

fault_back : (place : ℕ) (f : Fault) → fault_of (saved_player place (Faulted f)) ≡ f
fault_back place (Log Length b) = refl
fault_back place (Log Header b) = refl
fault_back place (Log Cut b) = refl
fault_back place (Log Tag b) = refl
fault_back place (Log Range b) = refl
fault_back place (Log Padding b) = refl
fault_back place (Chip MemorySize b None) = refl
fault_back place (Chip BeyondPort b None) = refl
fault_back place (Chip NothingThere b None) = refl
fault_back place (Chip Sounding b None) = refl
fault_back place (Chip PastWindow b None) = refl
fault_back place (Chip (Memory ReadOnly) b None) = refl
fault_back place (Chip (Memory PastEnd) b None) = refl
fault_back place (Chip MemorySize b (Some at)) = refl
fault_back place (Chip BeyondPort b (Some at)) = refl
fault_back place (Chip NothingThere b (Some at)) = refl
fault_back place (Chip Sounding b (Some at)) = refl
fault_back place (Chip PastWindow b (Some at)) = refl
fault_back place (Chip (Memory ReadOnly) b (Some at)) = refl
fault_back place (Chip (Memory PastEnd) b (Some at)) = refl

pub player_loaded : (place : ℕ) (s : State) → stand_of (saved_player place s) ≡ stand place s
player_loaded place Between = refl
player_loaded place (Waiting b left) = refl
player_loaded place (Ended b) = refl
player_loaded place (Faulted f) = ap (λ x. stand place (Faulted x)) (fault_back place f)
