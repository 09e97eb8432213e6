-- What reads and writes of a board answer, by those of its parts.
use Rattle.std.proofs.Common.{◌≡◌, ℕ, zero, suc, ◌+◌, ◌-◌, ◌<◌, ◌≤◌, min, Bool, true, false, cond, ◌&&◌, ltb, leb, List, [], ◌∷◌, ◌++◌, length, take, drop, set, Ok, Err, Result, sym, refl, ap, ◌∙◌, ap₂, ⊎_elim, append-nil, arith}
use Rattle.std.proofs.lemmas.List.{length-append, length-take, take_all, length-set, drop-set-lt, get_or_append_left, get_or-append_right, set-append_left, set-append_right}
use Rattle.std.proofs.lemmas.Bool.{lt-ltb, le-ltb, le-leb, lt-leb, and_from, and_left, and_right, cond-true, cond-false, cases_lt}
use Rattle.outcome.specs.Outcome.{granted, kept}
use Rattle.wave.specs.Memory.{Memory, Alike, most, size, meaning, fetch, store, written}
use Rattle.wave.specs.Lent.{used, ram, rom}
use Rattle.wave.specs.Board.{joined, cut_off, either, board, second_written}
use Rattle.wave.specs.declared.memory.Refusal.{Refusal}
use Rattle.wave.specs.declared.memory.Refusal.TheVariants.{ReadOnly, PastEnd}
use Rattle.wave.proofs.Writes.{fetch_inside, fetch_past, store_inside, store_at, store_past, written_same}
use Rattle.std.specs.Result.{result_map_both}
use Rattle.wave.proofs.Runs.{one_meaning}
use Rattle.wave.proofs.Limits.{used_length, used_at, used-set}

-- Reads

module _ (a b : List ℕ) where
  pub joined_length : length (joined a b) ≡ min most (length a + length b)
  unfolding joined
  joined_length = used_length (a ++ b) ∙ ap (min most) (length-append a b)

  module _ (place : ℕ) where
    pub joined_past : most ≤ place → fetch (joined a b) place ≡ Err PastEnd
    joined_past h = let e = joined_length in fetch_past (joined a b) place (omega arith)

    pub joined_first : length a ≤ most → place < length a → fetch (joined a b) place ≡ fetch a place
    unfolding joined
    joined_first l h =
        let e = joined_length in
        fetch_inside (joined a b) place (omega arith)
        ∙ ap Ok (used_at (a ++ b) place (omega arith) ∙ get_or_append_left a b 0 place h)
        ∙ sym (fetch_inside a place h)

    pub joined_second : length a ≤ place → place < most → fetch (joined a b) place ≡ fetch b (place - length a)
    unfolding joined
    joined_second h l =
        let e = joined_length in
        ⊎_elim
        (λ i. fetch_inside (joined a b) place (omega arith)
        ∙ ap Ok (used_at (a ++ b) place l ∙ get_or-append_right a b (length a) place 0 refl h)
        ∙ sym (fetch_inside b (place - length a) i))
        (λ p. fetch_past (joined a b) place (omega arith) ∙ sym (fetch_past b (place - length a) p))
        (cases_lt (place - length a) (length b))

-- nothing is joined to bytes that a memory uses
pub joined_none : (lent : List ℕ) → joined (used lent) (used []) ≡ used lent
unfolding joined used
joined_none lent = ap (take most) (append-nil (take most lent)) ∙ take_all most (take most lent) (omega (arith, length-take most lent))

-- a RAM, and a board of it with an empty ROM
pub alike_with_none : (lent : List ℕ) → Alike (ram lent) (board (ram lent) (rom []))
alike_with_none lent =
    let same = joined_none lent in
    record {
      bytes = sym same;
      takes = λ place h.
          let there : ltb place (length (used lent)) ≡ true = lt-ltb place (length (used lent)) h in
          let joined_there : ltb place (length (joined (used lent) (used []))) ≡ true = ap (λ bs. ltb place (length bs)) same ∙ there in
          ap (λ t. t && true) there
          ∙ sym (ap₂ (λ s t. s && cond t (t && true) ((rom []).takes (place - length (used lent)))) joined_there there);
    }

-- a memory over bytes that take writes everywhere or nowhere, and a board of memories over their parts

cut_twice : (n m : ℕ) (a : List ℕ) → n ≤ m → take n (take m a) ≡ take n a
cut_twice zero m a h = refl
cut_twice (suc n) zero a h = absurd (omega arith)
cut_twice (suc n) (suc m) [] h = refl
cut_twice (suc n) (suc m) (x ∷ a) h = ap (λ l. x ∷ l) (cut_twice n m a (omega arith))

cut_apart : (n m : ℕ) (a b : List ℕ) → n ≤ m → take n (a ++ b) ≡ take n (take n a ++ take m b)
cut_apart zero m a b h = refl
cut_apart (suc n) zero a b h = absurd (omega arith)
cut_apart (suc n) (suc m) [] b h = sym (cut_twice (suc n) (suc m) b h)
cut_apart (suc n) (suc m) (x ∷ a) b h = ap (λ l. x ∷ l) (cut_apart n (suc m) a b (omega arith))

joined_parts : (a b : List ℕ) → joined (used a) (used b) ≡ used (a ++ b)
unfolding joined used
joined_parts a b = sym (cut_apart most most a b (omega arith))

pub one_of_parts : (t : Bool) (a b : List ℕ) → board (meaning (used a) (λ _. t)) (meaning (used b) (λ _. t)) ≡ meaning (used (a ++ b)) (λ _. t)
one_of_parts t a b = one_meaning (joined (used a) (used b)) (used (a ++ b)) _ (λ _. t) (record { bytes = joined_parts a b; takes = alike })
  where
    alike : (place : ℕ) → place < length (joined (used a) (used b)) →
        (ltb place (length (joined (used a) (used b))) && either (meaning (used a) (λ _. t)) (meaning (used b) (λ _. t)) place)
        ≡ (ltb place (length (used (a ++ b))) && t)
    alike place h =
        let e = joined_length (used a) (used b) in
        ap₂ ◌&&◌ (ap (λ bs. ltb place (length bs)) (joined_parts a b))
        (⊎_elim
        (λ i. ap (λ s. cond s (s && t) (ltb (place - length (used a)) (length (used b)) && t)) (lt-ltb place (length (used a)) i))
        (λ p. ap₂ (λ s r. cond s (s && t) (r && t)) (le-ltb place (length (used a)) p) (lt-ltb (place - length (used a)) (length (used b)) (omega arith)))
        (cases_lt place (length (used a))))

-- Writes

set_first : (a b : List ℕ) (place byte : ℕ) → place < length a → joined (set a place byte) b ≡ set (joined a b) place byte
unfolding joined
set_first a b place byte h = ap used (sym (set-append_left a b place byte h)) ∙ used-set (a ++ b) place byte

set_second : (a b : List ℕ) (place byte : ℕ) → length a ≤ place → joined a (set b (place - length a) byte) ≡ set (joined a b) place byte
unfolding joined
set_second a b place byte h = ap used (sym (set-append_right a b (length a) place byte refl h)) ∙ used-set (a ++ b) place byte

-- the board that a part's write leaves, by the part's own answer
module _ (with_part : Memory → Memory) where
  on_board : Result Memory Refusal → Result Memory Refusal
  on_board r = result_map_both with_part (λ e. e) r

  allowed_on_board : (t : Bool) (m : Memory) → cond t (Ok (with_part m)) (Err ReadOnly) ≡ on_board (cond t (Ok m) (Err ReadOnly))
  unfolding on_board
  allowed_on_board true m = refl
  allowed_on_board false m = refl

  granted_on_board : (r : Result Memory Refusal) → granted (on_board r) ≡ granted r
  unfolding on_board
  granted_on_board (Ok m) = refl
  granted_on_board (Err e) = refl

  kept_on_board : (m : Memory) (r : Result Memory Refusal) → kept (with_part m) (on_board r) ≡ with_part (kept m r)
  unfolding on_board
  kept_on_board m (Ok n) = refl
  kept_on_board m (Err e) = refl

module _ (m n : Memory) (place byte : ℕ) where
  store_there : place < length (joined m.bytes n.bytes) → store (board m n) place byte ≡ cond (either m n place) (Ok (meaning (set (joined m.bytes n.bytes) place byte) (either m n))) (Err ReadOnly)
  store_there h = store_inside (joined m.bytes n.bytes) place (either m n) byte h

  -- a place of the first part
  module _ (short : size m ≤ most) (here : place < size m) where
    store_first : store (board m n) place byte ≡ on_board (λ x. board x n) (store m place byte)
    store_first =
        let e = joined_length m.bytes n.bytes in
        let takes : ℕ → ℕ → Bool = λ l p. cond (ltb p l) (m.takes p) (n.takes (p - l)) in
        store_there (omega arith)
        ∙ ap₂ (λ t x. cond t (Ok x) (Err ReadOnly))
        (cond-true (ltb place (size m)) _ _ (lt-ltb place (size m) here))
        (ap₂ meaning (sym (set_first m.bytes n.bytes place byte here)) (ap takes (sym (length-set m.bytes place byte))))
        ∙ allowed_on_board (λ x. board x n) (m.takes place) (record { bytes = set m.bytes place byte; takes = m.takes })
        ∙ ap (on_board (λ x. board x n)) (sym (store_at m place byte here))

    pub granted_first : granted (store (board m n) place byte) ≡ granted (store m place byte)
    granted_first = ap granted store_first ∙ granted_on_board (λ x. board x n) (store m place byte)

    pub written_first : written (board m n) place byte ≡ board (written m place byte) n
    written_first = ap (kept (board m n)) store_first ∙ kept_on_board (λ x. board x n) m (store m place byte)

    pub second_left : second_written m n place byte ≡ n
    second_left = cond-false _ _ _ (and_left (leb (size m) place) (ltb place most) (lt-leb (size m) place here))

  -- a place beyond the first part, within the board
  module _ (there : size m ≤ place) (near : place < most) where
    past_both : size n ≤ place - size m → store (board m n) place byte ≡ on_board (λ x. board m x) (store n (place - size m) byte)
    unfolding on_board
    past_both p =
        let e = joined_length m.bytes n.bytes in
        store_past (board m n) place byte (omega arith)
        ∙ ap (on_board (λ x. board m x)) (sym (store_past n (place - size m) byte p))

    in_second : place - size m < size n → store (board m n) place byte ≡ on_board (λ x. board m x) (store n (place - size m) byte)
    in_second i =
        let e = joined_length m.bytes n.bytes in
        store_there (omega arith)
        ∙ ap₂ (λ t x. cond t (Ok x) (Err ReadOnly))
        (cond-false (ltb place (size m)) _ _ (le-ltb place (size m) there))
        (ap (λ bytes. meaning bytes (either m n)) (sym (set_second m.bytes n.bytes place byte there)))
        ∙ allowed_on_board (λ x. board m x) (n.takes (place - size m)) (record { bytes = set n.bytes (place - size m) byte; takes = n.takes })
        ∙ ap (on_board (λ x. board m x)) (sym (store_at n (place - size m) byte i))

    store_second : store (board m n) place byte ≡ on_board (λ x. board m x) (store n (place - size m) byte)
    store_second = ⊎_elim in_second past_both (cases_lt (place - size m) (size n))

    pub granted_second : granted (store (board m n) place byte) ≡ granted (store n (place - size m) byte)
    granted_second = ap granted store_second ∙ granted_on_board (λ x. board m x) (store n (place - size m) byte)

    pub written_second : written (board m n) place byte ≡ board m (written n (place - size m) byte)
    written_second = ap (kept (board m n)) store_second ∙ kept_on_board (λ x. board m x) n (store n (place - size m) byte)

    pub second_reached : second_written m n place byte ≡ written n (place - size m) byte
    second_reached = cond-true _ _ _ (and_from (leb (size m) place) (ltb place most) (le-leb (size m) place there) (lt-ltb place most near))

  -- a place past the board's end
  module _ (far : most ≤ place) where
    pub board_past : size (board m n) ≤ place
    board_past = let e = joined_length m.bytes n.bytes in omega arith

    pub second_far : second_written m n place byte ≡ n
    second_far = cond-false _ _ _ (and_right (leb (size m) place) (ltb place most) (le-ltb place most far))

-- What a write leaves beyond the board

pub cut_as_before : (a b c : List ℕ) → length b ≡ length a → cut_off b c ≡ cut_off a c
unfolding cut_off
cut_as_before a b c e = ap (λ n. drop (most - n) c) e

pub cut_first : (m : Memory) (second : List ℕ) (place byte : ℕ) → cut_off (written m place byte).bytes second ≡ cut_off m.bytes second
cut_first m second place byte = written_same (λ bytes. cut_off bytes second) m place byte (cut_as_before m.bytes _ second (length-set m.bytes place byte))

pub cut_second :
    (first : List ℕ) (n : Memory) (place byte : ℕ) → place < most - length first →
    cut_off first (written n place byte).bytes ≡ cut_off first n.bytes
unfolding cut_off
cut_second first n place byte h =
    written_same (λ bytes. cut_off first bytes) n place byte (drop-set-lt (most - length first) n.bytes place byte h)
