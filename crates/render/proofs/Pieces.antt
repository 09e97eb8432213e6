-- A piece of text in a buffer, with one line more.
use Rattle.std.proofs.Common.{◌≡◌, ℕ, ◌+◌, ◌-◌, ◌≤◌, List, ◌++◌, length, take, drop, append_assoc, sym, ap, ◌∙◌, subst, arith}
use Rattle.std.proofs.lemmas.List.{drop-drop}
use Rattle.lines.specs.Line.{put, behind}
use Rattle.lines.proofs.Fronts.{put_front, put_beyond, put_onward}

module _ (old new : List ℕ) (place next : ℕ) (line : List ℕ) (room : 24 ≤ length old - place) (e : new ≡ put old place line) (f : next ≡ behind old place line) where
  pub front : take next new ≡ take place old ++ line
  front = ap (λ k. take k new) f ∙ ap (take (behind old place line)) e ∙ put_front old place line room

  pub piece_grown : (after : List ℕ) → take place old ++ (line ++ after) ≡ take next new ++ after
  piece_grown after =
      sym (append_assoc (take place old) line after) ∙ ap (λ t. t ++ after) (sym front)

  pub beyond_kept : (first : List ℕ) → drop place old ≡ drop place first → drop next new ≡ drop next first
  beyond_kept first h =
      ap (λ k. drop k new) f
      ∙ ap (drop (behind old place line)) e
      ∙ put_beyond old place line room
      ∙ sym (ap (λ k. drop k old) f)
      ∙ later next (omega (arith, put_onward old place line))
    where
      later : (k : ℕ) → place ≤ k → drop k old ≡ drop k first
      later k l =
          let more : place + (k - place) ≡ k = omega arith in
          subst (λ j. drop j old ≡ drop j first) more
          (sym (drop-drop (k - place) place old) ∙ ap (drop (k - place)) h ∙ drop-drop (k - place) place first)
