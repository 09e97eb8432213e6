-- The first clip meets its law, and nothing else does.
use Rattle.std.proofs.Common.{◌≡◌, ℕ, zero, suc, ◌<◌, ◌≤◌, Bool, true, false, cond, List, [], ◌∷◌, length, ℤ, Some, None, Option, refl, sym, ap₂, subst, ⊎_elim, add-one, arith}
use Rattle.std.proofs.lemmas.Bool.{cases_lt}
use Rattle.voice.specs.Clip.{clips, one_later, first_clip, order, ClipsAt, ClearSides, ClearPairs, FirstClip}
use Rattle.voice.specs.declared.stereo.SideName.{SideName}
use Rattle.voice.specs.declared.stereo.SideName.TheVariants.{Left, Right}
use Rattle.voice.specs.declared.stereo.Stereo.{Stereo}

-- a pair of which neither side clips, before a list
module _ (both : Stereo ℤ) (rest : List (Stereo ℤ)) (left : clips both.left ≡ false) (right : clips both.right ≡ false) where
  neither : ClearSides (both ∷ rest) 0 2
  neither Left h e = cc (left, e)
  neither Right h e = cc (right, e)

  clear_later : (pair : ℕ) → ClearPairs rest pair → ClearPairs (both ∷ rest) (suc pair)
  clear_later pair h zero l = neither
  clear_later pair h (suc k) l = h k (omega arith)

  law_later : (r : Option (ℕ × SideName)) → FirstClip rest r → FirstClip (both ∷ rest) (one_later r)
  law_later None h = clear_later (length rest) h
  law_later (Some at) h = rw add-one (omega arith, h.1, clear_later at.0 h.2, h.3)

pub first_clip_law : (totals : List (Stereo ℤ)) → FirstClip totals (first_clip totals)
unfolding first_clip
first_clip_law [] = λ pair l. absurd (omega arith)
first_clip_law (both ∷ rest) = at_left (clips both.left) refl (first_clip_law rest)
  where
    at_right : clips both.left ≡ false → (b : Bool) → clips both.right ≡ b → FirstClip rest (first_clip rest) → FirstClip (both ∷ rest) (cond b (Some (0, Right)) (one_later (first_clip rest)))
    at_right l true r ih = (omega arith, r, λ pair h. absurd (omega arith), only_left)
      where
        only_left : ClearSides (both ∷ rest) 0 1
        only_left Left h e = cc (l, e)
        only_left Right h e = absurd (omega arith)
    at_right l false r ih = law_later both rest l r (first_clip rest) ih

    at_left : (b : Bool) → clips both.left ≡ b → FirstClip rest (first_clip rest) → FirstClip (both ∷ rest) (cond b (Some (0, Left)) (cond (clips both.right) (Some (0, Right)) (one_later (first_clip rest))))
    at_left true l ih = (omega arith, l, λ pair h. absurd (omega arith), λ side h. absurd (omega arith))
    at_left false l ih = at_right l (clips both.right) refl ih

-- the law has one solution

one_side : (s t : SideName) → order s ≡ order t → s ≡ t
one_side Left Left e = refl
one_side Left Right e = absurd (omega arith)
one_side Right Left e = absurd (omega arith)
one_side Right Right e = refl

two_sides : (side : SideName) → order side < 2
two_sides Left = omega arith
two_sides Right = omega arith

one_clip : (totals : List (Stereo ℤ)) (r s : Option (ℕ × SideName)) → FirstClip totals r → FirstClip totals s → r ≡ s
one_clip totals (Some x) (Some y) h k =
    ⊎_elim
    (λ (l : x.0 < y.0). absurd (k.2 x.0 l x.1 (two_sides x.1) h.1))
    (λ (l : y.0 ≤ x.0).
    ⊎_elim
    (λ (m : y.0 < x.0). absurd (h.2 y.0 m y.1 (two_sides y.1) k.1))
    (λ (m : x.0 ≤ y.0). let same : x.0 ≡ y.0 = omega arith in same_pair same)
    (cases_lt y.0 x.0))
    (cases_lt x.0 y.0)
  where
    same_pair : x.0 ≡ y.0 → Some x ≡ Some y
    same_pair same =
        ⊎_elim
        (λ (l : order x.1 < order y.1). absurd (k.3 x.1 l (subst (λ p. ClipsAt totals p x.1) same h.1)))
        (λ (l : order y.1 ≤ order x.1).
        ⊎_elim
        (λ (m : order y.1 < order x.1). absurd (h.3 y.1 m (subst (λ p. ClipsAt totals p y.1) (sym same) k.1)))
        (λ (m : order x.1 ≤ order y.1). let side : order x.1 ≡ order y.1 = omega arith in ap₂ (λ p s. Some (p, s)) same (one_side x.1 y.1 side))
        (cases_lt (order y.1) (order x.1)))
        (cases_lt (order x.1) (order y.1))
one_clip totals (Some x) None h k = absurd (k x.0 h.0 x.1 (two_sides x.1) h.1)
one_clip totals None (Some y) h k = absurd (h y.0 k.0 y.1 (two_sides y.1) k.1)
one_clip totals None None h k = refl

pub is_first_clip : (totals : List (Stereo ℤ)) (r : Option (ℕ × SideName)) → FirstClip totals r → r ≡ first_clip totals
is_first_clip totals r h = one_clip totals r (first_clip totals) h (first_clip_law totals)
