-- The limit on the places that a memory uses, and what reads and writes answer under it.
use Rattle.std.proofs.Common.{◌≡◌, ℕ, ◌<◌, min, true, false, List, length, get_or, take, set, Ok, Err, sym, ap, ◌∙◌, ⊎_elim, arith}
use Rattle.std.proofs.Math.Seq.{take-set-lt}
use Rattle.std.proofs.lemmas.List.{length-take, get_or-take, take-set-le, drop-set-lt, set_past}
use Rattle.std.proofs.lemmas.Bool.{cases_lt}
use Rattle.wave.specs.Memory.{most, meaning, store}
use Rattle.wave.specs.Lent.{used, beyond, ram, rom}
use Rattle.wave.specs.declared.memory.Refusal.TheVariants.{ReadOnly}
use Rattle.wave.proofs.Writes.{store_inside}

pub used_length : (lent : List ℕ) → length (used lent) ≡ min most (length lent)
unfolding used
used_length lent = length-take most lent

pub used_at : (lent : List ℕ) (place : ℕ) → place < most → get_or (used lent) place 0 ≡ get_or lent place 0
unfolding used
used_at lent place h = get_or-take most lent place 0 h

pub used-set : (lent : List ℕ) (place byte : ℕ) → used (set lent place byte) ≡ set (used lent) place byte
unfolding used
used-set lent place byte =
    ⊎_elim
    (λ h. take-set-lt most lent place byte h)
    (λ h. take-set-le most lent place byte h ∙ sym (set_past (take most lent) place byte (omega (arith, length-take most lent))))
    (cases_lt place most)

pub beyond_set : (lent : List ℕ) (place byte : ℕ) → place < most → beyond (set lent place byte) ≡ beyond lent
unfolding beyond
beyond_set lent place byte h = drop-set-lt most lent place byte h

-- a write to RAM below its size
pub ram_written : (lent : List ℕ) (place byte : ℕ) → place < length (used lent) → store (ram lent) place byte ≡ Ok (ram (set lent place byte))
ram_written lent place byte h =
    store_inside (used lent) place (λ _. true) byte h
    ∙ ap (λ bytes. Ok (meaning bytes (λ _. true))) (sym (used-set lent place byte))

-- a write to ROM below its size
pub rom_refused : (lent : List ℕ) (place byte : ℕ) → place < length (used lent) → store (rom lent) place byte ≡ Err ReadOnly
rom_refused lent place byte h = store_inside (used lent) place (λ _. false) byte h
