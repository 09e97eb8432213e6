-- What calls keep of a chip's registers.
use Rattle.std.proofs.Common.{◌≡◌, None, Option, ℕ, ◌+◌, ◌-◌, ◌<◌, Bool, true, false, cond, eqb, ltb, leb, List, [], ◌∷◌, length, get_or, Ok, Err, Result, refl, ap, ◌∙◌, arith, max}
use Rattle.std.proofs.lemmas.Bool.{eqb-true, eq-eqb, both_ways, agree_below_at}
use Rattle.std.proofs.lemmas.List.{get_or-replicate}
use Rattle.std.proofs.lemmas.Nat.Bits.{bit_at_or, bit_at-lt}
use Rattle.std.specs.Int.{bit_at}
use Rattle.std.specs.Int.RustNames.{bit_or}
use Rattle.wave.specs.Memory.{Memory, store}
use Rattle.outcome.specs.Outcome.{kept}
use Rattle.wave.specs.declared.memory.Refusal.{Refusal as MemoryRefusal}
use Rattle.voice.specs.Voice.{fresh}
use Rattle.voice.specs.declared.voice.Voice.{Voice}
use Rattle.chip.specs.Control.{bit, controlled, place_behind}
use Rattle.chip.specs.Registers.{chosen, edited, registered, with_voices, with_control, with_channel, reset, ticked}
use Rattle.chip.specs.Port.{State, memory_size, window_start, last_address, last_register, with_memory, in_memory, write}
use Rattle.chip.proofs.Each.{each_length, each_at}
use Rattle.calls.specs.Calls.{after, after_all}
use Rattle.calls.specs.Law.{granted, ticks, resets, NoTick, NoReset}
use Rattle.calls.specs.declared.Call.{Call}
use Rattle.calls.specs.declared.Call.TheVariants.{Reset, Write, Read, Inspect, Tick, Tell}
use Rattle.chip.specs.declared.refusal.Refusal.{Refusal}
use Rattle.chip.specs.declared.registers.Registers.{Registers}

both : {A : Type 0} (P : A → Type 0) (t : Bool) {x y : A} → P x → P y → P (cond t x y)
both P true p q = p
both P false p q = q

-- Calls

module _ (P : Registers → Type 0) where
  -- of the registers that are kept where a call is refused
  abbrev Left : State → Result State Refusal → Type 0
  Left s r = P (kept s r).registers

  stored : (s : State) (r : Result Memory MemoryRefusal) → P s.registers → Left s (with_memory s (in_memory r))
  stored s (Ok m) p = p
  stored s (Err e) p = p

  pub write_keeps :
      ((r : Registers) (address byte : ℕ) → P r → P (registered r address byte)) →
      (s : State) (address byte : ℕ) → P s.registers → P (kept s (write s address byte)).registers
  write_keeps edits s address byte p =
      both (Left s) (eqb (length s.memory.bytes) memory_size)
      (both (Left s) (ltb last_address address) p
      (both (Left s) (ltb address window_start)
      (both (Left s) (leb address last_register) (edits s.registers address byte p) p)
      (stored s (store s.memory (place_behind s.registers.control (address - window_start)) byte) p)))
      p

  -- a tick, be it granted or refused
  pub tick_keeps : (s : State) → P s.registers → P (ticked s.memory.bytes s.registers) → P (after Tick s).registers
  tick_keeps s p q = both (λ (r : Result Registers Refusal). P (kept s.registers r)) (granted s) q p

  -- a call that is no granted tick
  pub quiet_keeps :
      ((r : Registers) (address byte : ℕ) → P r → P (registered r address byte)) →
      (c : Call) (s : State) → ticks c s ≡ false → (resets c ≡ true → P (reset s.registers)) →
      P s.registers → P (after c s).registers
  quiet_keeps edits Reset s t r p = r refl
  quiet_keeps edits (Write address byte) s t r p = write_keeps edits s address byte p
  quiet_keeps edits (Read address) s t r p = p
  quiet_keeps edits (Inspect offset) s t r p = p
  quiet_keeps edits Tick s t r p = rw t p
  quiet_keeps edits Tell s t r p = p

  -- a list of calls
  pub calls_keep :
      ((r : Registers) (address byte : ℕ) → P r → P (registered r address byte)) → ((r : Registers) → P r → P (reset r)) →
      ((bytes : List ℕ) (r : Registers) → P r → P (ticked bytes r)) →
      (cs : List Call) (s : State) → P s.registers → P (after_all cs s).registers
  calls_keep edits resets ticks [] s p = p
  calls_keep edits resets ticks (Reset ∷ cs) s p = calls_keep edits resets ticks cs (after Reset s) (resets s.registers p)
  calls_keep edits resets ticks (Write address byte ∷ cs) s p =
      calls_keep edits resets ticks cs (after (Write address byte) s) (write_keeps edits s address byte p)
  calls_keep edits resets ticks (Read address ∷ cs) s p = calls_keep edits resets ticks cs s p
  calls_keep edits resets ticks (Inspect offset ∷ cs) s p = calls_keep edits resets ticks cs s p
  calls_keep edits resets ticks (Tick ∷ cs) s p =
      calls_keep edits resets ticks cs (after Tick s) (tick_keeps s p (ticks s.memory.bytes s.registers p))
  calls_keep edits resets ticks (Tell ∷ cs) s p = calls_keep edits resets ticks cs s p

  pub registered_keeps :
      (r : Registers) (address byte : ℕ) → P r →
      P (with_voices r (chosen r.control.selected (edited address byte) r.voices)) →
      P (with_control r (controlled r.control byte)) →
      P (with_channel r (bit_or byte r.setup.mutes)) → P (registered r address byte)
  registered_keeps r address byte p v c n = both P (ltb address 7) v (both P (eqb address 7) c (both P (eqb address 8) n p))

-- Eight voices, and the phase of one of them

abbrev pub Eight : Registers → Type 0
Eight r = length r.voices ≡ 8

pub eight_kept : (cs : List Call) (s : State) → Eight s.registers → Eight (after_all cs s).registers
eight_kept =
    calls_keep Eight
    (λ r address byte h. registered_keeps Eight r address byte h (each_length _ 0 r.voices ∙ h) h h)
    (λ r h. refl)
    (λ bytes r h. each_length _ 0 r.voices ∙ h)

-- there are eight voices, and number k has a phase
abbrev pub InPhase : ℕ → Option ℕ → Registers → Type 0
InPhase k phase r = Eight r × ((get_or r.voices k fresh).phase ≡ phase)

module _ (k : ℕ) (small : k < 8) (phase : Option ℕ) where
  phase_registered : (r : Registers) (address byte : ℕ) → InPhase k phase r → InPhase k phase (registered r address byte)
  phase_registered r address byte h =
      let rule : ℕ → Voice → Voice = λ j v. cond (eqb j r.control.selected) (edited address byte v) v in
      let v : Voice = get_or r.voices k fresh in
      registered_keeps (InPhase k phase) r address byte h (
        each_length rule 0 r.voices ∙ h.0,
        ap (λ v. v.phase) (each_at rule 0 k r.voices (omega arith))
            ∙ both (λ (u : Voice). u.phase ≡ v.phase) (eqb (0 + k) r.control.selected) refl refl
            ∙ h.1,
      )
      h h

  -- no call is a granted tick or a reset
  pub phase_kept :
      (cs : List Call) (s : State) → NoTick cs s → NoReset cs → InPhase k phase s.registers → InPhase k phase (after_all cs s).registers
  phase_kept [] s t r h = h
  phase_kept (c ∷ cs) s t r h =
      phase_kept cs (after c s) t.1 r.1
      (quiet_keeps (InPhase k phase) phase_registered c s t.0 (λ e. absurd (both_ways (resets c) r.0 e)) h)

-- rest lasts over a reset too
pub rest_kept :
    (k : ℕ) → k < 8 → (cs : List Call) (s : State) → NoTick cs s → InPhase k None s.registers → InPhase k None (after_all cs s).registers
rest_kept k small [] s t h = h
rest_kept k small (c ∷ cs) s t h =
    rest_kept k small cs (after c s) t.1
    (quiet_keeps (InPhase k None) (phase_registered k small None) c s t.0
    (λ _. (refl, ap (λ (v : Voice). v.phase) (get_or-replicate 8 k fresh fresh small)))
    h)

-- The mute set

-- the mute set is m, and if voice k is in it, its channel bit is set
abbrev pub Muted : ℕ → ℕ → Registers → Type 0
Muted m k r = (r.setup.mutes ≡ m) × (bit m k ≡ true → bit r.channel k ≡ true)

bit-bit_or : (a b k : ℕ) → bit b k ≡ true → bit (bit_or a b) k ≡ true
bit-bit_or a b k h =
    let one : bit_at b k ≡ 1 = eqb-true (bit_at b k) 1 h in
    let low = bit_at-lt a k in
    let e : max (bit_at a k) (bit_at b k) ≡ 1 = omega arith in
    eq-eqb (bit_at (bit_or a b) k) 1 (bit_at_or a b k ∙ e)

pub all_bits : (k : ℕ) → k < 8 → bit 255 k ≡ true
all_bits k h = agree_below_at (bit 255) (λ _. true) 8 k refl h

pub muted_kept : (m k : ℕ) → k < 8 → (cs : List Call) (s : State) → Muted m k s.registers → Muted m k (after_all cs s).registers
muted_kept m k small =
    calls_keep (Muted m k)
    (λ r address byte h. registered_keeps (Muted m k) r address byte h h h (h.0, λ b. bit-bit_or byte r.setup.mutes k (ap (λ n. bit n k) h.0 ∙ b)))
    (λ r h. (h.0, λ _. all_bits k small))
    (λ bytes r h. h)
