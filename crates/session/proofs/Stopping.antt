-- Enough steps stop a player, whatever calls stand between them.
use Rattle.std.proofs.Common.{◌≡◌, ◌≤◌, Bool, true, false, ◌⊎◌, List, [], ◌∷◌, ◌++◌, Some, Result, sym, refl, ap, ◌∙◌, inl, inr, ⊎_elim, arith}
use Rattle.calls.specs.declared.Call.{Call as ChipCall}
use Rattle.player.specs.Left.{stops, left}
use Rattle.player.specs.Step.{step}
use Rattle.player.proofs.Left.{one_left, step_leaves}
use Rattle.player.specs.declared.fault.Fault.{Fault}
use Rattle.player.specs.declared.player.Progress.{Progress}
use Rattle.session.specs.Station.{Model, tried}
use Rattle.session.specs.Law.{steps, step_after, StopsAfter}
use Rattle.session.specs.declared.call.Answer.TheVariants as answered
use Rattle.session.specs.declared.call.Call.{Call}
use Rattle.session.specs.declared.call.Call.TheVariants.{Chip, Step}

-- The first stop

-- a list that begins with a call, cut before a step
pub cut_call :
    (call : Call) (before b rest : List Call) → call ∷ before ≡ b ++ Step ∷ rest →
    ((b ≡ []) × (call ≡ Step)) ⊎ ((b' : List Call) × (b ≡ call ∷ b') × (before ≡ b' ++ Step ∷ rest))
cut_call call before [] rest e = inl (refl, cc)
cut_call call before (x ∷ b) rest e = inr (b, cc, cc)

not_step : {A : Type 0} (call : ChipCall) → Chip call ≡ Step → A
not_step call h = grind arith

same_answer : (p q : Result Progress Fault) → Some (answered.Step p) ≡ Some (answered.Step q) → p ≡ q
same_answer p q h = cc

-- one call more before a stop
stops_later :
    (call : Call) (before : List Call) (last : Result Progress Fault) (s : Model) → StopsAfter before last (tried call s) →
    (call ≡ Step → (p : Result Progress Fault) → step_after [] s ≡ Some (answered.Step p) → stops p ≡ false) → StopsAfter (call ∷ before) last s
stops_later call before last s w quiet =
    record {
      here = w.here;
      stop = w.stop;
      first = λ b rest e p h.
          ⊎_elim
          (λ x. quiet x.1 p (ap (λ l. step_after l s) (sym x.0) ∙ h))
          (λ y. w.first y.0 rest y.2 p (ap (λ l. step_after l s) (sym y.1) ∙ h))
          (cut_call call before b rest e);
    }

-- where a player stops in a list of calls
pub record FirstStop (calls : List Call) (s : Model) : Type 0 where
  pub before : List Call
  pub rest : List Call
  pub last : Result Progress Fault
  pub among : calls ≡ before ++ Step ∷ rest
  pub stops_there : StopsAfter before last s

later : (call : Call) (calls : List Call) (s : Model) → (call ≡ Step → (p : Result Progress Fault) → step_after [] s ≡ Some (answered.Step p) → stops p ≡ false) → FirstStop calls (tried call s) → FirstStop (call ∷ calls) s
later call calls s quiet f =
    record {
      before = call ∷ f.before;
      rest = f.rest;
      last = f.last;
      among = ap (λ l. call ∷ l) f.among;
      stops_there = stops_later call f.before f.last s f.stops_there quiet;
    }

empty_cut : {A : Type 0} (b rest : List Call) → [] ≡ b ++ Step ∷ rest → A
empty_cut [] rest e = grind arith
empty_cut (x ∷ b) rest e = grind arith

pub find_stop : (calls : List Call) (s : Model) → left s.log s.player ≤ steps calls → FirstStop calls s
find_stop [] s l = absurd (omega (arith, one_left s.log s.player))
find_stop (Chip call ∷ calls) s l = later (Chip call) calls s (λ e. not_step call e) (find_stop calls (tried (Chip call) s) l)
find_stop (Step ∷ calls) s l = by_answer (stops (step s.log s.chip s.player).answer) refl (λ m. find_stop calls (tried Step s) m)
  where
    by_answer :
        (b : Bool) → stops (step s.log s.chip s.player).answer ≡ b →
        (left s.log (tried Step s).player ≤ steps calls → FirstStop calls (tried Step s)) → FirstStop (Step ∷ calls) s
    by_answer true e ih =
        record {
          before = [];
          rest = calls;
          last = (step s.log s.chip s.player).answer;
          among = refl;
          stops_there = record { here = refl; stop = e; first = λ b rest h. empty_cut b rest h };
        }
    by_answer false e ih =
        let less = step_leaves s.log s.chip s.player e in
        later Step calls s
        (λ x p h. ap stops (sym (same_answer (step s.log s.chip s.player).answer p h)) ∙ e)
        (ih (omega arith))
