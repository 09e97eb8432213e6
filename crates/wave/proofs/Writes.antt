-- What reads and writes of a memory answer, below its size and past it.
use Rattle.std.proofs.Common.{◌≡◌, ℕ, ◌<◌, ◌≤◌, Bool, true, false, cond, ◌&&◌, ltb, List, length, get_or, set, Ok, Err, sym, refl, ap, ◌∙◌, ⊎_elim}
use Rattle.std.proofs.lemmas.List.{length-set}
use Rattle.std.proofs.lemmas.Bool.{lt-ltb, le-ltb, cond-true, cond-false, cases_lt}
use Rattle.outcome.specs.Outcome.{kept}
use Rattle.wave.specs.Memory.{Memory, size, meaning, fetch, store, written}
use Rattle.wave.specs.declared.memory.Refusal.TheVariants.{ReadOnly, PastEnd}

module _ (bytes : List ℕ) (place : ℕ) where
  pub fetch_inside : place < length bytes → fetch bytes place ≡ Ok (get_or bytes place 0)
  fetch_inside h = cond-true (ltb place (length bytes)) _ _ (lt-ltb place (length bytes) h)

  pub fetch_past : length bytes ≤ place → fetch bytes place ≡ Err PastEnd
  fetch_past h = cond-false (ltb place (length bytes)) _ _ (le-ltb place (length bytes) h)

  module _ (takes : ℕ → Bool) (byte : ℕ) where
    pub store_inside : place < length bytes → store (meaning bytes takes) place byte ≡ cond (takes place) (Ok (meaning (set bytes place byte) takes)) (Err ReadOnly)
    unfolding store
    store_inside h =
        let same_size : List ℕ → ℕ → Memory = λ bs n. record { bytes = bs; takes = λ p. ltb p n && takes p } in
        rw (lt-ltb place (length bytes) h)
        (ap (λ n. cond (takes place) (Ok (same_size (set bytes place byte) n)) (Err ReadOnly)) (sym (length-set bytes place byte)))

pub store_at : (m : Memory) (place byte : ℕ) → place < size m → store m place byte ≡ cond (m.takes place) (Ok (record { bytes = set m.bytes place byte; takes = m.takes })) (Err ReadOnly)
unfolding store
store_at m place byte h = cond-true (ltb place (size m)) _ _ (lt-ltb place (size m) h)

pub store_past : (m : Memory) (place byte : ℕ) → size m ≤ place → store m place byte ≡ Err PastEnd
unfolding store
store_past m place byte h = cond-false (ltb place (size m)) _ _ (le-ltb place (size m) h)

pub written_past : (m : Memory) (place byte : ℕ) → size m ≤ place → written m place byte ≡ m
written_past m place byte h = ap (kept m) (store_past m place byte h)

-- what is the same with a byte replaced is the same after a write was tried
pub written_same :
    {A : Type 0} (f : List ℕ → A) (m : Memory) (place byte : ℕ) → f (set m.bytes place byte) ≡ f m.bytes →
    f (written m place byte).bytes ≡ f m.bytes
written_same f m place byte h =
    ⊎_elim
    (λ i. ap (λ r. f (kept m r).bytes) (store_at m place byte i) ∙ allowed (m.takes place))
    (λ p. ap (λ x. f x.bytes) (written_past m place byte p))
    (cases_lt place (size m))
  where
    allowed : (t : Bool) → f (kept m (cond t (Ok (record { bytes = set m.bytes place byte; takes = m.takes })) (Err ReadOnly))).bytes ≡ f m.bytes
    allowed true = h
    allowed false = refl
