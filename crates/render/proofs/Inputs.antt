-- What is read of an input decides what is printed for it.
use Rattle.std.proofs.Common.{◌≡◌, ℕ, ◌<◌, ◌≤◌, leb, List, [], ◌∷◌, length, take, Option, Some, None, Ok, Err, Result, refl, sym, ap, ◌∙◌, subst, ⊎_elim, arith}
use Rattle.std.proofs.lemmas.Bool.{cases_lt, cond-false, lt-leb}
use Rattle.std.proofs.lemmas.List.{length-take}
use Rattle.std.proofs.lemmas.Grind.{common_steps}
use Rattle.std.specs.Prelude.{IfSome, OnOk}
use Rattle.std.specs.Io.KnownBytes.{Appends}
use Rattle.std.specs.Option.{option_map}
use Rattle.job.specs.Job.{work}
use Rattle.job.specs.declared.Refusal.TheVariants.{TooLong}
use Rattle.render.specs.Stem.{answered, printed}

whole : (n : ℕ) (log : List ℕ) → length log < n → take n log ≡ log
whole n log h = grind (arith, common_steps)

log_cut : (mutes : ℕ) (log : List ℕ) → work (mutes ∷ take 32769 log) ≡ work (mutes ∷ log)
log_cut mutes log =
    ⊎_elim
    (λ (h : length log < 32769). ap (λ l. work (mutes ∷ l)) (whole 32769 log h))
    (λ (h : 32769 ≤ length log). too_long (take 32769 log) (omega (arith, length-take 32769 log)) ∙ sym (too_long log h))
    (cases_lt (length log) 32769)
  where
    too_long : (l : List ℕ) → 32769 ≤ length l → work (mutes ∷ l) ≡ Err TooLong
    too_long l h = cond-false (leb (length l) 32768) _ _ (lt-leb (length l) 32768 h)

input_cut : (input : List ℕ) → work (take 32770 input) ≡ work input
input_cut [] = refl
input_cut (mutes ∷ log) = log_cut mutes log

pub printed_of_input :
    {E : Type 0} (known : Option (List ℕ)) (items : List ℕ) (a b : Option (List ℕ)) (r : Result (Unit {0}) E) →
    IfSome (option_map (take 32770) known) (λ xs. items ≡ xs) → OnOk r (Appends a b (printed items)) →
    OnOk r (IfSome known (λ bytes. Appends a b (printed bytes)))
printed_of_input None items a b (Ok u) h k = tt
printed_of_input (Some bytes) items a b (Ok u) h k =
    subst (Appends a b) (ap printed h ∙ ap answered (input_cut bytes)) k
printed_of_input known items a b (Err e) h k = tt
