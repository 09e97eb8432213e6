-- Eight voices ticked one after the other.
use Rattle.std.proofs.Common.{◌≡◌, ℕ, List, [], ◌∷◌, length, get_or, refl, ap, arith}
use Rattle.voice.specs.Voice.{fresh, tick, latest as latest-of, Contribution}
use Rattle.voice.specs.declared.voice.Voice.{Voice}
use Rattle.chip.specs.Registers.{each, chosen, sounds, voice_ticked, ticked, latest, with_voices}
use Rattle.chip.specs.declared.registers.Registers.{Registers}

-- Lists of eight voices, changed by a rule that knows their numbers, and what each contributes once it has been changed

abbrev told : ℕ → List Voice → Contribution
told k vs = (get_or vs k fresh).latest

each_turn :
    (rule : ℕ → Voice → Voice) (vs v0 v1 v2 v3 v4 v5 v6 v7 : List Voice) → length vs ≡ 8 →
    v0 ≡ chosen 0 (rule 0) vs →
    v1 ≡ chosen 1 (rule 1) v0 →
    v2 ≡ chosen 2 (rule 2) v1 →
    v3 ≡ chosen 3 (rule 3) v2 →
    v4 ≡ chosen 4 (rule 4) v3 →
    v5 ≡ chosen 5 (rule 5) v4 →
    v6 ≡ chosen 6 (rule 6) v5 →
    v7 ≡ chosen 7 (rule 7) v6 →
    (v7 ≡ each rule 0 vs) × (told 0 v0 ∷ told 1 v1 ∷ told 2 v2 ∷ told 3 v3 ∷ told 4 v4 ∷ told 5 v5 ∷ told 6 v6 ∷ told 7 v7 ∷ [] ≡ latest-of v7)
each_turn rule (a ∷ b ∷ c ∷ d ∷ e ∷ f ∷ g ∷ h ∷ []) v0 v1 v2 v3 v4 v5 v6 v7 l e0 e1 e2 e3 e4 e5 e6 e7 =
    (rw (e7, e6, e5, e4, e3, e2, e1, e0) refl, rw (e7, e6, e5, e4, e3, e2, e1, e0) refl)
each_turn rule [] v0 v1 v2 v3 v4 v5 v6 v7 l e0 e1 e2 e3 e4 e5 e6 e7 = absurd (omega arith)
each_turn rule (a ∷ []) v0 v1 v2 v3 v4 v5 v6 v7 l e0 e1 e2 e3 e4 e5 e6 e7 = absurd (omega arith)
each_turn rule (a ∷ b ∷ []) v0 v1 v2 v3 v4 v5 v6 v7 l e0 e1 e2 e3 e4 e5 e6 e7 = absurd (omega arith)
each_turn rule (a ∷ b ∷ c ∷ []) v0 v1 v2 v3 v4 v5 v6 v7 l e0 e1 e2 e3 e4 e5 e6 e7 = absurd (omega arith)
each_turn rule (a ∷ b ∷ c ∷ d ∷ []) v0 v1 v2 v3 v4 v5 v6 v7 l e0 e1 e2 e3 e4 e5 e6 e7 = absurd (omega arith)
each_turn rule (a ∷ b ∷ c ∷ d ∷ e ∷ []) v0 v1 v2 v3 v4 v5 v6 v7 l e0 e1 e2 e3 e4 e5 e6 e7 = absurd (omega arith)
each_turn rule (a ∷ b ∷ c ∷ d ∷ e ∷ f ∷ []) v0 v1 v2 v3 v4 v5 v6 v7 l e0 e1 e2 e3 e4 e5 e6 e7 = absurd (omega arith)
each_turn rule (a ∷ b ∷ c ∷ d ∷ e ∷ f ∷ g ∷ []) v0 v1 v2 v3 v4 v5 v6 v7 l e0 e1 e2 e3 e4 e5 e6 e7 = absurd (omega arith)
each_turn rule (a ∷ b ∷ c ∷ d ∷ e ∷ f ∷ g ∷ h ∷ i ∷ vs) v0 v1 v2 v3 v4 v5 v6 v7 l e0 e1 e2 e3 e4 e5 e6 e7 = absurd (omega arith)

-- The registers after each of eight turns
module _ (bytes : List ℕ) (r r0 r1 r2 r3 r4 r5 r6 r7 : Registers) (l : length r.voices ≡ 8)
    (e0 : r0 ≡ voice_ticked bytes 0 r)
    (e1 : r1 ≡ voice_ticked bytes 1 r0)
    (e2 : r2 ≡ voice_ticked bytes 2 r1)
    (e3 : r3 ≡ voice_ticked bytes 3 r2)
    (e4 : r4 ≡ voice_ticked bytes 4 r3)
    (e5 : r5 ≡ voice_ticked bytes 5 r4)
    (e6 : r6 ≡ voice_ticked bytes 6 r5)
    (e7 : r7 ≡ voice_ticked bytes 7 r6) where
  pub all_ticked : r7 ≡ ticked bytes r
  all_ticked =
      let rule : ℕ → Voice → Voice = λ k v. tick bytes (sounds r.control.on r.channel k) v in
      rw (e7, e6, e5, e4, e3, e2, e1, e0) (ap (with_voices r) (each_turn rule r.voices _ _ _ _ _ _ _ _ l refl refl refl refl refl refl refl refl).0)

  pub all_told :
      (x0 x1 x2 x3 x4 x5 x6 x7 : Contribution) →
      x0 ≡ (get_or r0.voices 0 fresh).latest →
      x1 ≡ (get_or r1.voices 1 fresh).latest →
      x2 ≡ (get_or r2.voices 2 fresh).latest →
      x3 ≡ (get_or r3.voices 3 fresh).latest →
      x4 ≡ (get_or r4.voices 4 fresh).latest →
      x5 ≡ (get_or r5.voices 5 fresh).latest →
      x6 ≡ (get_or r6.voices 6 fresh).latest →
      x7 ≡ (get_or r7.voices 7 fresh).latest →
      x0 ∷ x1 ∷ x2 ∷ x3 ∷ x4 ∷ x5 ∷ x6 ∷ x7 ∷ [] ≡ latest r7
  all_told x0 x1 x2 x3 x4 x5 x6 x7 t0 t1 t2 t3 t4 t5 t6 t7 =
      let rule : ℕ → Voice → Voice = λ k v. tick bytes (sounds r.control.on r.channel k) v in
      rw (t0, t1, t2, t3, t4, t5, t6, t7)
      (rw (e7, e6, e5, e4, e3, e2, e1, e0) (each_turn rule r.voices _ _ _ _ _ _ _ _ l refl refl refl refl refl refl refl refl).1)
