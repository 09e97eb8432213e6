-- A buffer up to the place behind a line, and from there on.
use Rattle.std.proofs.Common.{◌≡◌, ℕ, ◌+◌, ◌-◌, ◌≤◌, true, List, ◌++◌, length, take, drop, arith, sym, ap, ◌∙◌, subst}
use Rattle.std.proofs.lemmas.Bool.{cond-true, le-leb}
use Rattle.std.proofs.lemmas.Grind.{common_steps}
use Rattle.std.proofs.lemmas.List.{drop_at}
use Rattle.std.proofs.Math.Seq.{take-append_seam}
use Rattle.lines.specs.Placed.{placed}
use Rattle.lines.specs.Line.{roomy, put, behind}

placed_length : (b : List ℕ) (p : ℕ) (t : List ℕ) → p ≤ length b → length (take p b ++ t) ≡ p + length t
placed_length b p t h = grind (arith, common_steps)

placed_front : (b : List ℕ) (p : ℕ) (t : List ℕ) → p ≤ length b → take (p + length t) (placed b p t) ≡ take p b ++ t
unfolding placed
placed_front b p t h =
    subst (λ k. take k (take p b ++ t ++ drop (p + length t) b) ≡ take p b ++ t) (placed_length b p t h)
    (take-append_seam (take p b ++ t) (drop (p + length t) b))

placed_beyond : (b : List ℕ) (p : ℕ) (t : List ℕ) → p ≤ length b → drop (p + length t) (placed b p t) ≡ drop (p + length t) b
unfolding placed
placed_beyond b p t h = drop_at (take p b ++ t) (drop (p + length t) b) (p + length t) (placed_length b p t h)

pub put_onward : (b : List ℕ) (p : ℕ) (line : List ℕ) → p ≤ behind b p line
put_onward b p line = grind arith

module _ (b : List ℕ) (p : ℕ) (line : List ℕ) (room : 24 ≤ length b - p) where
  there : roomy b p ≡ true
  there = le-leb 24 (length b - p) room

  written : put b p line ≡ placed b p line
  written = cond-true (roomy b p) (placed b p line) b there

  ends_at : behind b p line ≡ p + length line
  ends_at = cond-true (roomy b p) (p + length line) p there

  pub put_front : take (behind b p line) (put b p line) ≡ take p b ++ line
  put_front = ap (λ k. take k (put b p line)) ends_at ∙ ap (take (p + length line)) written ∙ placed_front b p line (omega arith)

  pub put_beyond : drop (behind b p line) (put b p line) ≡ drop (behind b p line) b
  put_beyond =
      ap (λ k. drop k (put b p line)) ends_at
      ∙ ap (drop (p + length line)) written
      ∙ placed_beyond b p line (omega arith)
      ∙ sym (ap (λ k. drop k b) ends_at)
