-- Contributions one by one, and their sum.
use Rattle.std.proofs.Common.{◌≡◌, ℕ, zero, suc, ◌+◌, ◌*◌, ◌<◌, List, [], ◌∷◌, length, get_or, take, ℤ, pos, ◌+ℤ◌, neg_ℤ, ◌≤ℤ◌, sym, ap, ◌∙◌, add-one, arith}
use lib.IntN.{+ℤ_comm, +ℤ_assoc}
use Rattle.std.proofs.ByRecursion.{All-map, All-weaker}
use Rattle.std.proofs.lemmas.Int.{ints}
use Rattle.std.proofs.lemmas.List.{length-map}
use Rattle.voice.specs.Voice.{Contribution, loudest, Within, Bounded, latest}
use Rattle.voice.specs.Stereo.{of_side}
use Rattle.voice.specs.Frame.{side_contributions, sum, side, frame_of, TotalWithin, AllWithin, AllBounded, VoicesBounded, RangedSide, Ranged}
use Rattle.voice.specs.declared.frame.Converter.{Converter}
use Rattle.voice.specs.declared.stereo.SideName.{SideName}
use Rattle.voice.specs.declared.stereo.SideName.TheVariants.{Left, Right}
use Rattle.voice.specs.declared.voice.Voice.{Voice}

sum-suc : (xs : List ℤ) (k : ℕ) → k < length xs → sum (take (suc k) xs) ≡ sum (take k xs) +ℤ get_or xs k (pos 0)
sum-suc [] k h = absurd (omega arith)
sum-suc (x ∷ xs) zero h = +ℤ_comm x (pos 0)
sum-suc (x ∷ xs) (suc k) h = ap (λ s. x +ℤ s) (sum-suc xs k (omega arith)) ∙ sym (+ℤ_assoc x (sum (take k xs)) (get_or xs k (pos 0)))

-- one more of a sum
pub sum_more : (xs : List ℤ) (k : ℕ) → k < length xs → sum (take (k + 1) xs) ≡ sum (take k xs) +ℤ get_or xs k (pos 0)
sum_more xs k h = rw add-one (sum-suc xs k h)

-- Ranges

side_within : (name : SideName) (x : Contribution) → Bounded x → Within (of_side name x)
side_within Left x h = h.0
side_within Right x h = h.1

pub contributions_within : (name : SideName) (list : List Contribution) → AllBounded list → AllWithin (side_contributions name list)
contributions_within name list h =
    All-map Within (λ c. of_side name c) list (All-weaker Bounded (λ c. Within (of_side name c)) (λ c. side_within name c) list h)

-- voices whose latest contributions are in range, one by one and as a list
pub voices_bounded : (voices : List Voice) → AllBounded (latest voices) → VoicesBounded voices
voices_bounded [] h = tt
voices_bounded (v ∷ voices) h = (h.0, voices_bounded voices h.1)

pub latest_bounded : (voices : List Voice) → VoicesBounded voices → AllBounded (latest voices)
latest_bounded [] h = tt
latest_bounded (v ∷ voices) h = (h.0, latest_bounded voices h.1)

sum_range :
    (xs : List ℤ) → AllWithin xs →
    (neg_ℤ (pos (loudest * length xs)) ≤ℤ sum xs) × (sum xs ≤ℤ pos (loudest * length xs))
sum_range [] h = (omega (arith, ints), omega (arith, ints))
sum_range (x ∷ xs) h =
    let rest = sum_range xs h.1 in
    let first = h.0 in
    (omega (arith, ints), omega (arith, ints))

pub sum_within : (xs : List ℤ) → length xs ≡ 8 → AllWithin xs → TotalWithin (sum xs)
sum_within xs l h =
    let most = sum_range xs h in
    (omega (arith, ints), omega (arith, ints))

side_ranged :
    (k : Converter) (name : SideName) (list : List Contribution) → length list ≡ 8 → AllBounded list →
    RangedSide (side k (side_contributions name list))
side_ranged k name list l h =
    let within = contributions_within name list h in
    (within, sum_within (side_contributions name list) (omega (arith, length-map list (λ (c : Contribution). of_side name c))) within)

-- a frame of contributions in range
pub frame_ranged : (k : Converter) (list : List Contribution) → length list ≡ 8 → AllBounded list → Ranged (frame_of k list)
frame_ranged k list l h = (side_ranged k Left list l h, side_ranged k Right list l h)
