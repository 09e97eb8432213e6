-- What the stop search finds meets its law, and nothing else does.
use Rattle.std.proofs.Common.{◌≡◌, ℕ, zero, suc, ◌+◌, ◌-◌, ◌<◌, ◌≤◌, Bool, true, false, cond, eqb, List, [], ◌∷◌, length, get_or, drop, Some, None, Option, refl, sym, ap, ◌∙◌, subst, ⊎_elim, arith}
use Rattle.std.specs.List.{position_from}
use Rattle.std.proofs.lemmas.Bool.{eqb-true, eqb-false, cases_lt}
use Rattle.std.proofs.lemmas.List.{length-drop, get_or-drop}
use Rattle.wave.specs.Search.{stop, first_stop, FirstStop}

-- a search through a list whose first item has a number
module _ (test : ℕ → Bool) where
  Found : List ℕ → ℕ → Option ℕ → Type 0
  Found xs first (Some n) =
      (first ≤ n) × (n < first + length xs) × (test (get_or xs (n - first) 0) ≡ true)
      × ((k : ℕ) → k < n - first → test (get_or xs k 0) ≡ false)
  Found xs first None = (k : ℕ) → k < length xs → test (get_or xs k 0) ≡ false

  later : (x : ℕ) (xs : List ℕ) (first : ℕ) → test x ≡ false → (r : Option ℕ) → Found xs (first + 1) r → Found (x ∷ xs) first r
  unfolding Found
  later x xs first e (Some n) h =
      let more : n - first ≡ suc (n - (first + 1)) = omega arith in (
        omega arith,
        omega arith,
        subst (λ j. test (get_or (x ∷ xs) j 0) ≡ true) (sym more) h.2,
        before,
      )
    where
      before : (k : ℕ) → k < n - first → test (get_or (x ∷ xs) k 0) ≡ false
      before zero l = e
      before (suc k) l = h.3 k (omega arith)
  later x xs first e None h = each
    where
      each : (k : ℕ) → k < length (x ∷ xs) → test (get_or (x ∷ xs) k 0) ≡ false
      each zero l = e
      each (suc k) l = h k (omega arith)

  found : (xs : List ℕ) (first : ℕ) → Found xs first (position_from test first xs)
  unfolding Found
  found [] first = λ k l. absurd (omega arith)
  found (x ∷ xs) first = by (test x) refl (found xs (first + 1))
    where
      by : (b : Bool) → test x ≡ b → Found xs (first + 1) (position_from test (first + 1) xs) → Found (x ∷ xs) first (cond b (Some first) (position_from test (first + 1) xs))
      by true e h =
          let here : first - first ≡ 0 = omega arith in
          (omega arith, omega arith, subst (λ j. test (get_or (x ∷ xs) j 0) ≡ true) (sym here) e, λ k l. absurd (omega arith))
      by false e h = later x xs first e (position_from test (first + 1) xs) h

behind : (bytes : List ℕ) (from place : ℕ) → from ≤ place → get_or (drop from bytes) (place - from) 0 ≡ get_or bytes place 0
behind bytes from place l =
    let sum : from + (place - from) ≡ place = omega arith in
    get_or-drop from bytes (place - from) 0 ∙ ap (λ p. get_or bytes p 0) sum

pub first_stop_law : (bytes : List ℕ) (from : ℕ) → FirstStop bytes from (first_stop bytes from)
unfolding first_stop Found
first_stop_law bytes from = told (position_from is_stop from (drop from bytes)) (found is_stop (drop from bytes) from)
  where
    is_stop : ℕ → Bool
    is_stop byte = eqb byte stop

    told : (r : Option ℕ) → Found is_stop (drop from bytes) from r → FirstStop bytes from r
    told (Some place) h =
        let long = length-drop from bytes in (
          h.0,
          omega arith,
          sym (behind bytes from place h.0) ∙ eqb-true (get_or (drop from bytes) (place - from) 0) stop h.2,
          λ p l m. λ e. eqb-false (get_or (drop from bytes) (p - from) 0) stop (h.3 (p - from) (omega arith)) (behind bytes from p l ∙ e),
        )
    told None h =
        let long = length-drop from bytes in
        λ p l m. λ e. eqb-false (get_or (drop from bytes) (p - from) 0) stop (h (p - from) (omega arith)) (behind bytes from p l ∙ e)

-- the law has one solution
one_stop : (bytes : List ℕ) (from : ℕ) (r s : Option ℕ) → FirstStop bytes from r → FirstStop bytes from s → r ≡ s
one_stop bytes from (Some p) (Some q) h k =
    ⊎_elim
    (λ (l : p < q). absurd (k.3 p h.0 l h.2))
    (λ (l : q ≤ p). ⊎_elim (λ (m : q < p). absurd (h.3 q k.0 m k.2)) (λ (m : p ≤ q). let same : p ≡ q = omega arith in ap Some same) (cases_lt q p))
    (cases_lt p q)
one_stop bytes from (Some p) None h k = absurd (k p h.0 h.1 h.2)
one_stop bytes from None (Some q) h k = absurd (h q k.0 k.1 k.2)
one_stop bytes from None None h k = refl

pub is_first_stop : (bytes : List ℕ) (from : ℕ) (r : Option ℕ) → FirstStop bytes from r → r ≡ first_stop bytes from
is_first_stop bytes from r h = one_stop bytes from r (first_stop bytes from) h (first_stop_law bytes from)
