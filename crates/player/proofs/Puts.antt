-- Bytes put one after another.
use Rattle.std.proofs.Common.{ℕ, ◌+◌, List, [], ◌∷◌, Some, Ok, Err, Result}
use Rattle.outcome.specs.Outcome.{kept}
use Rattle.chip.specs.Port.{State as ChipState, write}
use Rattle.chip.specs.declared.refusal.Refusal.{Refusal}
use Rattle.player.specs.Step.{Stepped, went_on, failed, unless_refused, put}
use Rattle.player.specs.declared.fault.Fault.TheVariants.{Chip}

-- what writes keep of a chip holds of it where they end, all granted or one refused
pub put_ends :
    (Keeps : ChipState → Type 0) (P : Stepped → Type 0) (place bit : ℕ) →
    ((c : ChipState) (address byte : ℕ) → Keeps c → Keeps (kept c (write c address byte))) → ((c : ChipState) → Keeps c → P (went_on c place)) →
    ((c : ChipState) (refusal : Refusal) (address : ℕ) → Keeps c → P (failed c place (Chip refusal bit (Some address)))) →
    (bytes : List ℕ) (address : ℕ) (c : ChipState) → Keeps c → P (put bytes address bit place c)
unfolding put
put_ends Keeps P place bit keeps ends fails [] address c h = ends c h
put_ends Keeps P place bit keeps ends fails (b ∷ bytes) address c h =
    by_write (write c address b) (keeps c address b h) (λ d k. put_ends Keeps P place bit keeps ends fails bytes (address + 1) d k)
  where
    by_write :
        (o : Result ChipState Refusal) → Keeps (kept c o) → ((d : ChipState) → Keeps d → P (put bytes (address + 1) bit place d)) →
        P (unless_refused (put bytes (address + 1) bit place) c place bit address o)
    by_write (Ok d) k ih = ih d k
    by_write (Err refusal) k ih = fails c refusal address h
