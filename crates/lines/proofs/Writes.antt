-- Texts written one after another.
use Rattle.std.proofs.Common.{◌≡◌, ℕ, ◌+◌, ◌<◌, ◌≤◌, List, [], ◌∷◌, ◌++◌, length, take, drop, set, arith, add-one, append_assoc, length-append, ap, ◌∙◌, subst}
use Rattle.std.proofs.lemmas.Grind.{common_steps}
use Rattle.std.proofs.lemmas.List.{take-set-le, drop-set, set_split, drop-drop}
use Rattle.std.proofs.Math.Seq.{take-append_seam, drop-append-add}
use Rattle.lines.specs.Placed.{placed}

pub length-placed : (b : List ℕ) (p : ℕ) (t : List ℕ) → p + length t ≤ length b → length (placed b p t) ≡ length b
unfolding placed
length-placed b p t h = grind (arith, common_steps)

-- one byte
pub placed_byte : (b : List ℕ) (p d : ℕ) → p < length b → set b p d ≡ placed b p (d ∷ [])
unfolding placed
placed_byte b p d h = rw (append_assoc, add-one) (set_split b p d h)

-- the last byte first
pub placed_last : (b : List ℕ) (p q d : ℕ) (t : List ℕ) → q ≡ p + length t → q < length b → placed (set b q d) p t ≡ placed b p (t ++ d ∷ [])
unfolding placed
placed_last b p q d t e h = grind (arith, common_steps, take-set-le, drop-set)

-- a text, and then another behind it
pub placed_more : (b : List ℕ) (p q : ℕ) (t u : List ℕ) → q ≡ p + length t → q ≤ length b → placed (placed b p t) q u ≡ placed b p (t ++ u)
unfolding placed
placed_more b p q t u e h =
    let pre : List ℕ = take p b ++ t in
    let rest : List ℕ = drop (p + length t) b in
    let l : length pre ≡ q = grind (arith, common_steps) in
    let first : take q (pre ++ rest) ≡ pre = subst (λ k. take k (pre ++ rest) ≡ pre) l (take-append_seam pre rest) in
    let last : drop (q + length u) (pre ++ rest) ≡ drop (p + length (t ++ u)) b =
    subst (λ k. drop (k + length u) (pre ++ rest) ≡ drop (length u) rest) l (drop-append-add pre rest (length u))
    ∙ drop-drop (length u) (p + length t) b
    ∙ ap (λ k. drop k b) (omega (arith, length-append t u)) in
    ap (λ x. x ++ u ++ drop (q + length u) (pre ++ rest)) first
    ∙ ap (λ x. pre ++ u ++ x) last
    ∙ ap (λ x. x ++ drop (p + length (t ++ u)) b) (append_assoc (take p b) t u)
