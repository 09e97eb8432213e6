-- Accesses performed one by one on two memories.
use Rattle.std.proofs.Common.{◌≡◌, ◌↔◌, IsTrue, ℕ, suc, ◌≤◌, Bool, true, ◌&&◌, ltb, List, [], ◌∷◌, ◌++◌, length, sym, refl, ap, ◌∙◌, subst, ap₂, ⊎_elim}
use mathlib.Core.Path.{fun_ext}
use Rattle.std.proofs.lemmas.List.{same_from_push}
use Rattle.std.proofs.lemmas.Bool.{le-ltb, cases_lt, and_parts, and_from}
use Rattle.wave.specs.Memory.{Memory, meaning, Alike}
use Rattle.wave.specs.Access.{answer, after, answers, after_all, Compared}
use Rattle.wave.specs.declared.access.Access.{Access}

-- memories that are alike have one meaning
pub one_meaning : (b c : List ℕ) (t u : ℕ → Bool) → Alike (meaning b t) (meaning c u) → meaning b t ≡ meaning c u
one_meaning b c t u e =
    let same_takes : (p : ℕ) → (ltb p (length b) && t p) ≡ (ltb p (length c) && u p) =
    λ p. ⊎_elim
    (λ h. e.takes p h)
    (λ h.
    let past : length c ≤ p = subst (λ bs. length bs ≤ p) e.bytes h in
    rw (le-ltb p (length b) h, le-ltb p (length c) past))
    (cases_lt p (length b)) in
    ap₂ (λ bs ts. record { bytes = bs; takes = ts }) e.bytes (fun_ext same_takes)

after_push : (m : Memory) (xs : List Access) (x : Access) → after_all m (xs ++ x ∷ []) ≡ after (after_all m xs) x
after_push m [] x = refl
after_push m (y ∷ xs) x = after_push (after m y) xs x

answers_push : (m : Memory) (xs : List Access) (x : Access) → answers m (xs ++ x ∷ []) ≡ answers m xs ++ answer (after_all m xs) x ∷ []
answers_push m [] x = refl
answers_push m (y ∷ xs) x = ap (λ r. answer m y ∷ r) (answers_push (after m y) xs x)

-- one to each access
answers_length : (m : Memory) (xs : List Access) → length (answers m xs) ≡ length xs
answers_length m [] = refl
answers_length m (x ∷ xs) = ap suc (answers_length (after m x) xs)

module _ (m n : Memory) (xs : List Access) (x : Access) where
  more : answers m xs ≡ answers n xs → answer (after_all m xs) x ≡ answer (after_all n xs) x → answers m (xs ++ x ∷ []) ≡ answers n (xs ++ x ∷ [])
  more e f = answers_push m xs x ∙ ap₂ (λ ys y. ys ++ y ∷ []) e f ∙ sym (answers_push n xs x)

  fewer : answers m (xs ++ x ∷ []) ≡ answers n (xs ++ x ∷ []) → (answers m xs ≡ answers n xs) × (answer (after_all m xs) x ≡ answer (after_all n xs) x)
  fewer e =
      same_from_push (answers m xs) (answers n xs) (answer (after_all m xs) x) (answer (after_all n xs) x)
      (sym (answers_push m xs x) ∙ e ∙ answers_push n xs x)

  -- one access more
  pub compared_more :
      (alike same : Bool) (m₁ n₁ m₂ n₂ : Memory) → Compared m n xs alike m₁ n₁ →
      (IsTrue same ↔ (answer m₁ x ≡ answer n₁ x)) → m₂ ≡ after m₁ x → n₂ ≡ after n₁ x →
      Compared m n (xs ++ x ∷ []) (alike && same) m₂ n₂
  compared_more alike same m₁ n₁ m₂ n₂ h d p q =
      let to : answer m₁ x ≡ answer n₁ x → answer (after_all m xs) x ≡ answer (after_all n xs) x = λ f. cc (h.first, h.second) in
      let from : answer (after_all m xs) x ≡ answer (after_all n xs) x → answer m₁ x ≡ answer n₁ x = λ f. cc (h.first, h.second) in
      record {
        answers = (
          λ b. let bs = and_parts alike same b in more (h.answers.0 bs.0) (to (d.0 bs.1)),
          λ e. and_from alike same (h.answers.1 (fewer e).0) (d.1 (from (fewer e).1)),
        );
        first = p ∙ ap (λ k. after k x) h.first ∙ sym (after_push m xs x);
        second = q ∙ ap (λ k. after k x) h.second ∙ sym (after_push n xs x);
      }

-- alike before: alike in all answers, and afterwards
pub alike_throughout : (b c : List ℕ) (t u : ℕ → Bool) (xs : List Access) (alike : Bool) (m' n' : Memory) → Compared (meaning b t) (meaning c u) xs alike m' n' → Alike (meaning b t) (meaning c u) → (alike ≡ true) × (m' ≡ n')
alike_throughout b c t u xs alike m' n' h e =
    let same = one_meaning b c t u e in
    (h.answers.1 (ap (λ k. answers k xs) same), h.first ∙ ap (λ k. after_all k xs) same ∙ sym h.second)
