-- What a call does to a chip it does to one that mutes more voices.
use Rattle.std.proofs.Common.{◌≡◌, ℕ, zero, suc, ◌+◌, ◌<◌, Bool, true, false, cond, not, ◌&&◌, ◌||◌, eqb, ltb, List, [], ◌∷◌, replicate, Ok, Err, Result, sym, refl, ap, arith, ◌∙◌, ap₂}
use lib.Bits.{bit_or}
use Rattle.outcome.specs.Outcome.{kept}
use Rattle.voice.specs.Voice.{fresh, silent, sounded}
use Rattle.voice.specs.Voice as one
use Rattle.voice.specs.declared.frame.Converter.{Converter}
use Rattle.voice.specs.declared.voice.Voice.{Voice}
use Rattle.chip.specs.Control.{bit}
use Rattle.chip.specs.Registers.{each, edited, registered, reset, sounds, ticked, with_voices, with_channel}
use Rattle.chip.specs.Port.{State as ChipState, with_registers, write, tick}
use Rattle.chip.specs.declared.refusal.Refusal.{Refusal}
use Rattle.chip.specs.declared.registers.Registers.{Registers}
use Rattle.chip.proofs.Each.{each-each, each_alike}
use Rattle.calls.specs.Calls.{after}
use Rattle.calls.specs.declared.Call.{Call}
use Rattle.calls.specs.declared.Call.TheVariants.{Reset, Write, Read, Inspect, Tick, Tell}
use Rattle.register_log.specs.Reading.{Found}
use Rattle.register_log.specs.Record.{Entry}
use Rattle.register_log.specs.declared.fault.Fault.{Fault as LogFault}
use Rattle.player.specs.Step.{Stepped, unless_refused, put, obeyed, taken, opened, by_state}
use Rattle.player.specs.declared.player.State.{State}
use Rattle.player.specs.declared.player.State.TheVariants.{Between, Waiting, Ended, Faulted}
use Rattle.session.specs.Stems.{muting}
use Rattle.session.proofs.Bits.{bit-bit_or, or_full, or_assoc}

-- rules that commute at each voice do so over all
each_swap :
    (f g f' g' : ℕ → Voice → Voice) → ((k : ℕ) (v : Voice) → f k (g k v) ≡ g' k (f' k v)) → (vs : List Voice) →
    each f 0 (each g 0 vs) ≡ each g' 0 (each f' 0 vs)
each_swap f g f' g' e vs =
    each-each f g 0 vs ∙ each_alike (λ k v. f k (g k v)) (λ k v. g' k (f' k v)) e 0 vs ∙ sym (each-each g' f' 0 vs)

-- a function taken through a test
through : {A B : Type 0} (f : A → B) (t : Bool) {x y : B} {x' y' : A} → x ≡ f x' → y ≡ f y' → cond t x y ≡ f (cond t x' y')
through f true p q = p
through f false p q = q

abbrev pub mapped : {A B : Type 0} → (A → B) → Result A Refusal → Result B Refusal
mapped f (Ok x) = Ok (f x)
mapped f (Err r) = Err r

module _ (m : ℕ) (d : Converter) where
  abbrev pub veil : ℕ → Voice → Voice
  veil k v = cond (bit m k) (silent v) v

  abbrev pub muting_chip : ChipState → ChipState
  muting_chip c = record { registers = muting m d c.registers; memory = c.memory }

  abbrev pub muting_stepped : Stepped → Stepped
  muting_stepped s = record { chip = muting_chip s.chip; player = s.player; answer = s.answer }

  -- a tick at one voice: ON and its channel bit, then its mute bit
  tick_swap :
      (e : List ℕ) (v : Voice) (on b t : Bool) →
      one.tick e (on && not (b || t)) (cond t (silent v) v) ≡ cond t (silent (one.tick e (on && not b) v)) (one.tick e (on && not b) v)
  unfolding sounded
  tick_swap e v true true true = refl
  tick_swap e v true true false = refl
  tick_swap e v true false true = refl
  tick_swap e v true false false = refl
  tick_swap e v false b true = refl
  tick_swap e v false b false = refl

  pub ticked-muting : (e : List ℕ) (r : Registers) → ticked e (muting m d r) ≡ muting m d (ticked e r)
  ticked-muting e r =
      ap (with_voices (muting m d r))
      (each_swap (λ k v. one.tick e (sounds r.control.on (bit_or r.channel m) k) v) veil (λ k v. one.tick e (sounds r.control.on r.channel k) v) veil
      (λ k v. ap (λ b. one.tick e (r.control.on && not b) (veil k v)) (bit-bit_or r.channel m k)
      ∙ tick_swap e v r.control.on (bit r.channel k) (bit m k))
      r.voices)

  edit_swap :
      (a b : ℕ) (v : Voice) (here t : Bool) →
      cond here (edited a b (cond t (silent v) v)) (cond t (silent v) v) ≡ cond t (silent (cond here (edited a b v) v)) (cond here (edited a b v) v)
  edit_swap a b v here t = grind arith

  pub registered-muting : (r : Registers) (a b : ℕ) → registered (muting m d r) a b ≡ muting m d (registered r a b)
  registered-muting r a b =
      through (muting m d) (ltb a 7)
      (ap (with_voices (muting m d r))
      (each_swap (λ k v. cond (eqb k r.control.selected) (edited a b v) v) veil (λ k v. cond (eqb k r.control.selected) (edited a b v) v) veil
      (λ k v. edit_swap a b v (eqb k r.control.selected) (bit m k))
      r.voices))
      (through (muting m d) (eqb a 7) refl
      (through (muting m d) (eqb a 8) (ap (with_channel (muting m d r)) (sym (or_assoc b r.setup.mutes m))) refl))

  pub write-muting : (c : ChipState) (a b : ℕ) → write (muting_chip c) a b ≡ mapped muting_chip (write c a b)
  write-muting c a b = grind (arith, registered-muting c.registers a b)

  pub tick-muting : (e : List ℕ) (r : Registers) → tick e (muting m d r) ≡ mapped (muting m d) (tick e r)
  tick-muting e r = grind (arith, ticked-muting e r)

  -- The player

  refused-muting :
      (next : ChipState → Stepped) → ((e : ChipState) → next (muting_chip e) ≡ muting_stepped (next e)) → (c : ChipState) (place bit address : ℕ) (r : Result ChipState Refusal) →
      unless_refused next (muting_chip c) place bit address (mapped muting_chip r) ≡ muting_stepped (unless_refused next c place bit address r)
  refused-muting next ih c place bit address r = grind (arith, ih)

  put-muting : (bytes : List ℕ) (address bit place : ℕ) (c : ChipState) → put bytes address bit place (muting_chip c) ≡ muting_stepped (put bytes address bit place c)
  unfolding put
  put-muting [] address bit place c = refl
  put-muting (b ∷ bytes) address bit place c =
      ap (unless_refused (put bytes (address + 1) bit place) (muting_chip c) place bit address) (write-muting c address b)
      ∙ refused-muting (put bytes (address + 1) bit place) (put-muting bytes (address + 1) bit place) c place bit address (write c address b)

  obeyed-muting : (c : ChipState) (bit place : ℕ) (entry : Entry) → obeyed (muting_chip c) bit place entry ≡ muting_stepped (obeyed c bit place entry)
  obeyed-muting c bit place entry = grind (arith, put-muting)

  taken-muting : (c : ChipState) (place : ℕ) (r : Result Found LogFault) → taken (muting_chip c) place r ≡ muting_stepped (taken c place r)
  taken-muting c place r = grind (arith, obeyed-muting)

  opened-muting : (c : ChipState) (place : ℕ) (r : Result (Unit {0}) LogFault) → opened (muting_chip c) place r ≡ muting_stepped (opened c place r)
  opened-muting c place r = grind arith

  pub step-muting : (log : List ℕ) (c : ChipState) (place : ℕ) (s : State) → by_state log (muting_chip c) place s ≡ muting_stepped (by_state log c place s)
  step-muting log c place Between = grind (arith, opened-muting, taken-muting)
  step-muting log c place (Waiting bit left) = grind (arith, tick-muting c.memory.bytes c.registers)
  step-muting log c place (Ended bit) = refl
  step-muting log c place (Faulted fault) = refl

  -- Resets

  fresh-muting : (n k : ℕ) → each veil k (replicate n fresh) ≡ replicate n fresh
  fresh-muting zero k = refl
  fresh-muting (suc n) k = grind (arith, fresh-muting n (suc k))

  pub reset-muting : m < 256 → (r : Registers) → reset (muting m d r) ≡ muting m d (reset r)
  reset-muting eight r =
      ap₂ (λ h vs. with_voices (with_channel (reset (muting m d r)) h) vs) (sym (or_full m eight)) (sym (fresh-muting 8 0))

  pub kept-muting : (c : ChipState) (r : Result ChipState Refusal) → kept (muting_chip c) (mapped muting_chip r) ≡ muting_chip (kept c r)
  kept-muting c r = grind arith

  pub kept_registers : (k : Registers) (r : Result Registers Refusal) → kept (muting m d k) (mapped (muting m d) r) ≡ muting m d (kept k r)
  kept_registers k r = grind arith

  -- Calls of the chip

  pub after-muting : m < 256 → (call : Call) (c : ChipState) → after call (muting_chip c) ≡ muting_chip (after call c)
  after-muting eight Reset c = ap (with_registers c) (reset-muting eight c.registers)
  after-muting eight (Write a b) c = grind (arith, write-muting c a b)
  after-muting eight (Read a) c = refl
  after-muting eight (Inspect o) c = refl
  after-muting eight Tick c = grind (arith, tick-muting c.memory.bytes c.registers)
  after-muting eight Tell c = refl
