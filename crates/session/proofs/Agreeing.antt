-- A stem answers as its mix does, but for the voices outside its group.
use Rattle.std.proofs.Common.{◌≡◌, ℕ, ◌+◌, ◌-◌, ◌/◌, ◌%◌, ◌<◌, ◌≤◌, Bool, true, false, cond, not, eqb, ltb, List, length, get_or, Option, Some, Ok, Result, sym, refl, ap, ◌∙◌, subst, zero-add, arith}
use lib.ListN.{get_or-map}
use Rattle.std.proofs.lemmas.List.{length-map}
use Rattle.std.proofs.lemmas.Bool.{and_parts, leb-true, ltb-true}
use Rattle.voice.specs.Voice.{fresh, silent, place}
use Rattle.voice.specs.declared.frame.Converter.{Converter}
use Rattle.voice.specs.declared.voice.Voice.{Voice}
use Rattle.kind.specs.declared.Kind.{Kind}
use Rattle.chip.specs.Control.{bit}
use Rattle.chip.specs.Registers.{each, stands, byte_of, position_byte}
use Rattle.chip.specs.Port.{State as ChipState, memory_size, window_start, last_address, positions_start, positions_end, has_positions, read}
use Rattle.chip.specs.declared.refusal.Refusal.{Refusal}
use Rattle.chip.proofs.Each.{each_at, each_length}
use Rattle.calls.specs.Calls.{read_answer, answer}
use Rattle.calls.specs.declared.Call.{Call as ChipCall}
use Rattle.calls.specs.declared.Call.TheVariants.{Reset, Write, Read, Inspect, Tick, Tell}
use Rattle.session.specs.Station.{Model, tried}
use Rattle.session.specs.Groups.{holds, outside}
use Rattle.session.specs.Stems.{muting, StemOf}
use Rattle.session.specs.Law.{voice, SameVoices, Agrees, same, other_position, own_contributions}
use Rattle.session.specs.declared.call.Answer.{Answer}
use Rattle.session.specs.declared.call.Answer.TheVariants as answered
use Rattle.session.specs.declared.call.Call.{Call}
use Rattle.session.specs.declared.call.Call.TheVariants.{Chip, Step}
use Rattle.session.proofs.Bits.{bit_outside}
use Rattle.session.proofs.Keeping.{own, chip_of, step_of}
use Rattle.session.proofs.Muting.{veil, muting_chip, write-muting, tick-muting}

agrees_by : {g : ℕ} {call : Call} {x y : Option Answer} → x ≡ y → Agrees g call x y
agrees_by {g} {call} {x} {y} e = subst (λ z. Agrees g call x z) e same

module _ (g : ℕ) (d : Converter) where
  -- a voice of the group, and none is hidden from it
  shown_voice : (vs : List Voice) (k : ℕ) → length vs ≡ 8 → k < 8 → holds g k ≡ true → get_or (each (veil (outside g) d) 0 vs) k fresh ≡ get_or vs k fresh
  shown_voice vs k eight l h =
      let within : k < length vs = omega arith in
      let clear : bit (outside g) (0 + k) ≡ false = ap (bit (outside g)) (zero-add k) ∙ bit_outside g k l ∙ ap not h in
      each_at (veil (outside g) d) 0 k vs within ∙ ap (λ t. cond t (silent (get_or vs k fresh)) (get_or vs k fresh)) clear

  -- Reads

  data Both (a : ℕ) : Result ℕ Refusal → Result ℕ Refusal → Type 0 where
    equal : {x : Result ℕ Refusal} → Both a x x
    elsewhere : {b c : ℕ} → positions_start ≤ a → a < positions_end → holds g ((a - positions_start) / 2) ≡ false → Both a (Ok b) (Ok c)

  both : (a : ℕ) (t : Bool) {x y x' y' : Result ℕ Refusal} → (t ≡ true → Both a x x') → (t ≡ false → Both a y y') → Both a (cond t x y) (cond t x' y')
  both a true p q = p refl
  both a false p q = q refl

  told : (a : ℕ) (x y : Result ℕ Refusal) → Both a x y → Agrees g (Chip (Read a)) (Some (answered.Chip (read_answer x))) (Some (answered.Chip (read_answer y)))
  told a x y equal = same
  told a x y (elsewhere l u h) = other_position l u h

  at_positions : (kind : Kind) (a : ℕ) → has_positions kind a ≡ true → (positions_start ≤ a) × (a < positions_end)
  at_positions kind a h = grind (arith, and_parts, leb-true, ltb-true)

  position_agrees :
      (a : ℕ) (vs : List Voice) → length vs ≡ 8 → positions_start ≤ a → a < positions_end → (t : Bool) → holds g ((a - positions_start) / 2) ≡ t →
      Both a (Ok (position_byte (each (veil (outside g) d) 0 vs) (a - positions_start))) (Ok (position_byte vs (a - positions_start)))
  position_agrees a vs eight l u true e =
      subst (λ v. Both a (Ok (position_byte (each (veil (outside g) d) 0 vs) (a - positions_start))) (Ok (byte_of (place (stands v)) ((a - positions_start) % 2))))
      (shown_voice vs ((a - positions_start) / 2) eight (omega arith) e) equal
  position_agrees a vs eight l u false e = elsewhere l u e

  read_agrees : (c : ChipState) (a : ℕ) → length c.registers.voices ≡ 8 → Both a (read c.memory.bytes (muting (outside g) d c.registers) a) (read c.memory.bytes c.registers a)
  read_agrees c a eight =
      both a (eqb (length c.memory.bytes) memory_size)
      (λ _. both a (ltb last_address a) (λ _. equal)
      (λ _. both a (ltb a window_start)
      (λ _. both a (has_positions c.registers.setup.kind a)
      (λ e. let p = at_positions c.registers.setup.kind a e in position_agrees a c.registers.voices eight p.0 p.1 (holds g ((a - positions_start) / 2)) refl)
      (λ _. equal))
      (λ _. equal)))
      (λ _. equal)

  -- Calls of a chip

  pub call_agrees :
      (call : ChipCall) (n : ℕ) (c : ChipState) → length c.registers.voices ≡ 8 →
      Agrees g (Chip call) (Some (answered.Chip (answer call n (muting_chip (outside g) d c)))) (Some (answered.Chip (answer call n c)))
  call_agrees Reset n c eight = same
  call_agrees (Write a b) n c eight = agrees_by (grind (arith, write-muting (outside g) d c a b))
  call_agrees (Read a) n c eight = told a _ _ (read_agrees c a eight)
  call_agrees (Inspect o) n c eight = same
  call_agrees Tick n c eight = agrees_by (grind (arith, tick-muting (outside g) d c.memory.bytes c.registers))
  call_agrees Tell n c eight =
      let vs = c.registers.voices in
      let ws = each (veil (outside g) d) 0 vs in
      own_contributions (length-map ws (λ v. v.latest) ∙ each_length (veil (outside g) d) 0 vs ∙ eight) (length-map vs (λ v. v.latest) ∙ eight)
      (λ k l h. get_or-map (λ v. v.latest) ws k fresh ∙ ap (λ v. v.latest) (shown_voice vs k eight l h) ∙ sym (get_or-map (λ v. v.latest) vs k fresh))

-- A stem and its mix

module _ (mix : Model) (g : ℕ) (s : Model) (eight : length mix.chip.registers.voices ≡ 8) (w : StemOf mix g s) where
  pub same_voices : SameVoices mix g s
  same_voices k l h =
      let e : voice s k ≡ voice mix k = ap (λ r. get_or r.voices k fresh) w.registers ∙ shown_voice g (own s) mix.chip.registers.voices k eight l h in
      (ap stands e, ap (λ v. v.latest) e)

  pub answers_agree : (call : Call) → Agrees g call (tried call s).answer (tried call mix).answer
  answers_agree (Chip call) =
      let e : answer call (length s.buffer) s.chip ≡ answer call (length mix.buffer) (muting_chip (outside g) (own s) mix.chip) =
      ap (λ n. answer call n s.chip) w.buffer ∙ ap (answer call (length mix.buffer)) (chip_of mix g s w) in
      subst (λ x. Agrees g (Chip call) (Some (answered.Chip x)) (tried (Chip call) mix).answer) (sym e) (call_agrees g (own s) call (length mix.buffer) mix.chip eight)
  answers_agree Step = agrees_by (ap (λ t. Some (answered.Step t.answer)) (step_of mix g s w))
