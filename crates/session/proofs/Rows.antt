-- A list that is mapped element by element.
use Rattle.std.proofs.Common.{◌≡◌, ℕ, zero, suc, ◌+◌, ◌<◌, ◌≤◌, List, [], ◌∷◌, map, length, get_or, set, sym, refl, ap, ◌∙◌, ap₂, add-one, arith}
use Rattle.std.proofs.lemmas.List.{length-map, get_or-map, map-set}

-- so many elements of a list are mapped
pub mapped_to : {A : Type 0} → ℕ → (A → A) → List A → List A
mapped_to i f [] = []
mapped_to zero f (x ∷ xs) = x ∷ xs
mapped_to (suc i) f (x ∷ xs) = f x ∷ mapped_to i f xs

pub mapped_same : {A : Type 0} (i : ℕ) (xs : List A) → mapped_to i (λ x. x) xs ≡ xs
unfolding mapped_to
mapped_same i [] = refl
mapped_same zero (x ∷ xs) = refl
mapped_same (suc i) (x ∷ xs) = ap (λ l. x ∷ l) (mapped_same i xs)

module _ {A : Type 0} (f : A → A) where
  pub mapped_none : (xs : List A) → xs ≡ mapped_to 0 f xs
  unfolding mapped_to
  mapped_none [] = refl
  mapped_none (x ∷ xs) = refl

  mapped_all : (i : ℕ) (xs : List A) → length xs ≤ i → mapped_to i f xs ≡ map f xs
  unfolding mapped_to
  mapped_all i [] h = refl
  mapped_all zero (x ∷ xs) h = absurd (omega arith)
  mapped_all (suc i) (x ∷ xs) h = ap (λ l. f x ∷ l) (mapped_all i xs (omega arith))

  mapped_length : (i : ℕ) (xs : List A) → length (mapped_to i f xs) ≡ length xs
  unfolding mapped_to
  mapped_length i [] = refl
  mapped_length zero (x ∷ xs) = refl
  mapped_length (suc i) (x ∷ xs) = ap suc (mapped_length i xs)

  mapped_at : (i : ℕ) (xs : List A) (d : A) → get_or (mapped_to i f xs) i d ≡ get_or xs i d
  unfolding mapped_to
  mapped_at i [] d = refl
  mapped_at zero (x ∷ xs) d = refl
  mapped_at (suc i) (x ∷ xs) d = mapped_at i xs d

  mapped_next : (i : ℕ) (xs : List A) (d : A) → i < length xs → set (mapped_to i f xs) i (f (get_or xs i d)) ≡ mapped_to (suc i) f xs
  unfolding mapped_to
  mapped_next i [] d h = absurd (omega arith)
  mapped_next zero (x ∷ xs) d h = ap (λ l. f x ∷ l) (mapped_none xs)
  mapped_next (suc i) (x ∷ xs) d h = ap (λ l. f x ∷ l) (mapped_next i xs d (omega arith))

-- A list seen through a function, whose elements are replaced one by one
module _ {S A : Type 0} (h : S → A) (f : A → A) (first : List S) (i : ℕ) where
  pub mapped_more :
      (items : List S) (d y : S) → i < length first → h y ≡ f (h (get_or items i d)) →
      map h items ≡ mapped_to i f (map h first) → map h (set items i y) ≡ mapped_to (i + 1) f (map h first)
  mapped_more items d y inside e w =
      let xs = map h first in
      let wide : length xs ≡ length first = length-map first h in
      let same_length : length items ≡ length xs = sym (length-map items h) ∙ ap length w ∙ mapped_length f i xs in
      let here : h (get_or items i d) ≡ get_or xs i (h d) =
      sym (get_or-map h items i d (h d) (omega arith)) ∙ ap (λ l. get_or l i (h d)) w ∙ mapped_at f i xs (h d) in
      map-set h items i y
      ∙ ap₂ (λ l a. set l i a) w (e ∙ ap f here)
      ∙ mapped_next f i xs (h d) (omega arith)
      ∙ ap (λ n. mapped_to n f xs) (sym (add-one i))

  pub mapped_whole : length first ≤ i → mapped_to i f (map h first) ≡ map f (map h first)
  mapped_whole l = mapped_all f i (map h first) (omega (arith, length-map first h))

-- A list whose elements are replaced one by one by such that a function does not tell from them
pub mapped_kept :
    {S A : Type 0} (h : S → A) (first : List S) (i : ℕ) (items : List S) (d y : S) → i < length first → h y ≡ h (get_or items i d) →
    map h items ≡ map h first → map h (set items i y) ≡ map h first
mapped_kept h first i items d y inside e w =
    mapped_more h (λ x. x) first i items d y inside e (w ∙ sym (mapped_same i (map h first))) ∙ mapped_same (i + 1) (map h first)
