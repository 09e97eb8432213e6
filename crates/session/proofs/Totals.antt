-- The contributions of the stems add up to those of the mix: sums over voices and over groups change places.
use Rattle.std.proofs.Common.{◌≡◌, ℕ, zero, suc, ◌+◌, ◌<◌, ◌≤◌, Bool, true, false, cond, not, List, [], ◌∷◌, map, length, ℤ, pos, ◌+ℤ◌, sym, refl, ap, ◌∙◌, ap₂, zero-add, one-add, arith}
use lib.IntN.{+ℤ_idl, +ℤ_idr, +ℤ_assoc, +ℤ_comm}
use Rattle.std.proofs.lemmas.List.Sums.{sum_by-cons}
use Rattle.voice.specs.Stereo.{of_side}
use Rattle.voice.specs.Frame.{contributions, sum}
use Rattle.voice.specs.Voice.{silent, silence}
use Rattle.voice.specs.declared.frame.Converter.{Converter}
use Rattle.voice.specs.declared.stereo.SideName.{SideName}
use Rattle.voice.specs.declared.stereo.SideName.TheVariants.{Left, Right}
use Rattle.voice.specs.declared.voice.Voice.{Voice}
use Rattle.chip.specs.Registers.{each}
use Rattle.session.specs.Station.{Model}
use Rattle.session.specs.Groups.{holds, holders, Divides, outside}
use Rattle.session.specs.Stems.{Each}
use Rattle.session.proofs.Bits.{bit_outside}
use Rattle.session.proofs.Muting.{veil}

regroup : (a b c d : ℤ) → (a +ℤ b) +ℤ (c +ℤ d) ≡ (a +ℤ c) +ℤ (b +ℤ d)
regroup a b c d =
    +ℤ_assoc a b (c +ℤ d)
    ∙ ap (λ x. a +ℤ x) (sym (+ℤ_assoc b c d) ∙ ap (λ x. x +ℤ d) (+ℤ_comm b c) ∙ +ℤ_assoc c b d)
    ∙ sym (+ℤ_assoc a c (b +ℤ d))

sum_alike : {A : Type 0} (f g : A → ℤ) → ((x : A) → f x ≡ g x) → (xs : List A) → sum (map f xs) ≡ sum (map g xs)
sum_alike f g e [] = refl
sum_alike f g e (x ∷ xs) = ap₂ ◌+ℤ◌ (e x) (sum_alike f g e xs)

sum_plus : {A : Type 0} (f g : A → ℤ) (xs : List A) → sum (map (λ x. f x +ℤ g x) xs) ≡ sum (map f xs) +ℤ sum (map g xs)
sum_plus f g [] = refl
sum_plus f g (x ∷ xs) = ap (λ r. (f x +ℤ g x) +ℤ r) (sum_plus f g xs) ∙ regroup (f x) (g x) (sum (map f xs)) (sum (map g xs))

sum-zero : {A : Type 0} (xs : List A) → sum (map (λ x. pos 0) xs) ≡ pos 0
sum-zero [] = refl
sum-zero (x ∷ xs) = grind (arith, sum-zero xs)

times : ℕ → ℤ → ℤ
times zero x = pos 0
times (suc n) x = x +ℤ times n x

-- a contribution counts as often as groups hold its voice
held : (k : ℕ) (x : ℤ) (gs : List ℕ) → sum (map (λ g. cond (holds g k) x (pos 0)) gs) ≡ times (holders gs k) x
unfolding times
held k x [] = refl
held k x (g ∷ gs) =
    ap (λ r. cond (holds g k) x (pos 0) +ℤ r) (held k x gs)
    ∙ one_more (holds g k)
    ∙ ap (λ n. times n x) (sym (sum_by-cons (λ group. cond (holds group k) 1 0) g gs))
  where
    one_more : (t : Bool) → cond t x (pos 0) +ℤ times (holders gs k) x ≡ times (cond t 1 0 + holders gs k) x
    one_more true = grind (arith, one-add (holders gs k))
    one_more false = grind (arith, +ℤ_idl (times (holders gs k) x), zero-add (holders gs k))

once : (x : ℤ) → times 1 x ≡ x
unfolding times
once x = +ℤ_idr x

module _ (side : SideName) (d : Converter) where
  quiet : (name : SideName) → of_side name silence ≡ pos 0
  quiet Left = refl
  quiet Right = refl

  -- what a voice contributed, as a group hears it
  veiled : (v : Voice) (t : Bool) → of_side side (cond (not t) (silent v) v).latest ≡ cond t (of_side side v.latest) (pos 0)
  veiled v t = grind (arith, quiet side)

  -- one voice, over all groups
  lone : (gs : List ℕ) → Divides gs → (k : ℕ) → k < 8 → (v : Voice) → sum (map (λ g. of_side side (veil (outside g) d k v).latest) gs) ≡ of_side side v.latest
  lone gs div k h v =
      sum_alike (λ g. of_side side (veil (outside g) d k v).latest) (λ g. cond (holds g k) (of_side side v.latest) (pos 0))
      (λ g. ap (λ t. of_side side (cond t (silent v) v).latest) (bit_outside g k h) ∙ veiled v (holds g k)) gs
      ∙ held k (of_side side v.latest) gs
      ∙ ap (λ n. times n (of_side side v.latest)) (div.once k h)
      ∙ once (of_side side v.latest)

  -- all voices from k on, over all groups
  pub groups_sum :
      (gs : List ℕ) → Divides gs → (k : ℕ) (vs : List Voice) → k + length vs ≤ 8 →
      sum (map (λ g. sum (contributions side (each (veil (outside g) d) k vs))) gs) ≡ sum (contributions side vs)
  groups_sum gs div k [] h = sum-zero gs
  groups_sum gs div k (v ∷ vs) h =
      sum_plus (λ g. of_side side (veil (outside g) d k v).latest) (λ g. sum (contributions side (each (veil (outside g) d) (suc k) vs))) gs
      ∙ ap₂ ◌+ℤ◌ (lone gs div k (omega arith) v) (groups_sum gs div (suc k) vs (omega arith))

-- stations whose totals are those of the groups
pub stations_sum : (total : Model → ℤ) (f : ℕ → ℤ) (gs : List ℕ) (ss : List Model) → Each (λ g s. total s ≡ f g) gs ss → sum (map total ss) ≡ sum (map f gs)
stations_sum total f [] [] h = refl
stations_sum total f [] (s ∷ ss) h = absurd h
stations_sum total f (g ∷ gs) [] h = absurd h
stations_sum total f (g ∷ gs) (s ∷ ss) h = ap₂ ◌+ℤ◌ h.0 (stations_sum total f gs ss h.1)
