-- The law about switching voices off and on.
use Rattle.std.proofs.Common.{◌≡◌, Some, None, Option, ℕ, ◌+◌, ◌%◌, ◌<◌, true, false, not, List, [], ◌∷◌, length, sym, refl, ap, ◌∙◌, subst, arith}
use Rattle.std.proofs.lemmas.Bool.{and_right}
use Rattle.wave.specs.Memory.{Memory}
use Rattle.voice.specs.Voice.{positions, step, position, onward, landing, sounded, silent, tick}
use Rattle.voice.specs.declared.voice.Voice.{Voice}
use Rattle.chip.specs.Control.{bit}
use Rattle.chip.specs.Port.{State, with_registers}
use Rattle.chip.specs.Registers.{stands, ticked}
use Rattle.chip.specs.declared.registers.Setup.{Setup}
use Rattle.calls.specs.Calls.{after, after_all}
use Rattle.calls.specs.Law.{new, voice_of, found_on, granted, ReadsFrom, Law}
use Rattle.calls.specs.declared.Call.{Call}
use Rattle.calls.specs.declared.Call.TheVariants.{Tick}
use Rattle.chip.proofs.Each.{each_at}
use Rattle.calls.proofs.Keeps.{Eight, eight_kept, InPhase, phase_kept, rest_kept, Muted, muted_kept, all_bits}

-- A tick

-- a granted one
tick_granted : (s : State) → granted s ≡ true → after Tick s ≡ with_registers s (ticked s.memory.bytes s.registers)
tick_granted s h = rw h refl

-- a refused one
tick_refused : (s : State) → granted s ≡ false → after Tick s ≡ s
tick_refused s h = rw h refl

-- A voice over a granted tick

module _ (s : State) (k : ℕ) (small : k < 8) (eight : Eight s.registers) (g : granted s ≡ true) where
  tick_voice : voice_of (after Tick s) k ≡ tick s.memory.bytes (found_on s k) (voice_of s k)
  tick_voice =
      let rule : ℕ → Voice → Voice = λ j v. tick s.memory.bytes (found_on s j) v in
      let there : k < length s.registers.voices = omega arith in
      let e : 0 + k ≡ k = omega arith in
      rw g (each_at rule 0 k s.registers.voices there ∙ ap (λ j. rule j (voice_of s k)) e)

  tick_off : found_on s k ≡ false → voice_of (after Tick s) k ≡ silent (voice_of s k)
  tick_off h = rw h at tick_voice

  tick_on : found_on s k ≡ true → voice_of (after Tick s) k ≡ sounded s.memory.bytes (voice_of s k)
  tick_on h = rw h at tick_voice

  -- where it reads first, by its phase
  reads_from : (phase : Option ℕ) → (voice_of s k).phase ≡ phase → found_on s k ≡ true → ReadsFrom s k (onward (voice_of s k).settings phase)
  unfolding sounded
  reads_from phase p h = rw (← p) (tick_on h)

  -- where it stands then
  on_phase :
      found_on s k ≡ true →
      (voice_of (after Tick s) k).phase
      ≡ Some (landing s.memory.bytes (voice_of s k).settings (onward (voice_of s k).settings (voice_of s k).phase))
  unfolding sounded
  on_phase h = ap (λ (v : Voice). v.phase) (tick_on h)

stands_on : (v : Voice) (p : ℕ) → v.phase ≡ Some p → (n : ℕ) → (stands v + n) % positions ≡ (p + n) % positions
stands_on v p h n = ap (λ (q : Option ℕ). (position v.settings q + n) % positions) h ∙ omega arith

muted_off : (m k : ℕ) (s : State) → Muted m k s.registers → bit m k ≡ true → found_on s k ≡ false
muted_off m k s h b = and_right s.registers.control.on (not (bit s.registers.channel k)) (ap not (h.1 b))

-- The whole

module _ (memory : Memory) (setup : Setup) (calls : List Call) where
  pub law : Law (new memory setup) calls
  law =
      let s : State = new memory setup in
      record {
        muted = λ before rest e k small b.
            muted_off setup.mutes k (after_all before s) (muted_kept setup.mutes k small before s (refl, λ _. all_bits k small)) b;
        silent = λ before rest e k small g off.
            ap (λ (v : Voice). v.latest) (tick_off (after_all before s) k small (eight_kept before s refl) g off);
        restarts = λ before between rest e k small g off quiet g₂ on.
            let first : State = after_all before s in
            let eight : Eight first.registers = eight_kept before s refl in
            let rests : InPhase k None (after Tick first).registers =
            (eight_kept (Tick ∷ []) first eight, ap (λ (v : Voice). v.phase) (tick_off first k small eight g off)) in
            let later = rest_kept k small between (after Tick first) quiet rests in
            reads_from (after_all between (after Tick first)) k small later.0 g₂ None later.1 on;
        continues = λ before between rest e k small g on quiet unreset g₂ on₂.
            let first : State = after_all before s in
            let second : State = after_all between (after Tick first) in
            let eight : Eight first.registers = eight_kept before s refl in
            let v : Voice = voice_of first k in
            let p : ℕ = landing first.memory.bytes v.settings (onward v.settings v.phase) in
            let stays : InPhase k (Some p) (after Tick first).registers = (eight_kept (Tick ∷ []) first eight, on_phase first k small eight g on) in
            let later = phase_kept k small (Some p) between (after Tick first) quiet unreset stays in
            subst (λ q. ReadsFrom second k q)
            (sym (stands_on (voice_of (after Tick first) k) p stays.1 (step (voice_of second k).settings)))
            (reads_from second k small later.0 g₂ (Some p) later.1 on₂);
      }
