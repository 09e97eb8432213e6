-- The bytes that an inspection shows, one by one.
use Rattle.std.proofs.Common.{◌≡◌, ℕ, zero, suc, ◌+◌, ◌<◌, List, length, get_or, sym, refl, ap, ◌∙◌, add-zero, arith}
use Rattle.std.proofs.lemmas.List.{ext_get_or}
use Rattle.chip.specs.Port.{shown}

shown_length : (bytes : List ℕ) (place n : ℕ) → length (shown bytes place n) ≡ n
shown_length bytes place zero = refl
shown_length bytes place (suc n) = ap suc (shown_length bytes (place + 1) n)

shown_at : (bytes : List ℕ) (place n k : ℕ) → k < n → get_or (shown bytes place n) k 0 ≡ get_or bytes (place + k) 0
shown_at bytes place zero k h = absurd (omega arith)
shown_at bytes place (suc n) zero h = ap (λ p. get_or bytes p 0) (sym (add-zero place))
shown_at bytes place (suc n) (suc k) h =
    let e : place + 1 + k ≡ place + suc k = omega arith in
    shown_at bytes (place + 1) n k (omega arith) ∙ ap (λ p. get_or bytes p 0) e

-- a buffer that has them all
pub shown_all :
    (bytes buffer : List ℕ) (place n : ℕ) → length buffer ≡ n → ((k : ℕ) → k < n → get_or buffer k 0 ≡ get_or bytes (place + k) 0) →
    buffer ≡ shown bytes place n
shown_all bytes buffer place n l h =
    ext_get_or 0 buffer (shown bytes place n) (l ∙ sym (shown_length bytes place n))
    (λ k b. h k (omega arith) ∙ sym (shown_at bytes place n k (omega arith)))
