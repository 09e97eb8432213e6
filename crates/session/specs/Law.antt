-- The stems add up to the mix.
use Rattle.std.specs.Prelude.{◌≡◌, ℕ, suc, ◌-◌, ◌/◌, ◌<◌, ◌≤◌, Bool, true, false, List, [], ◌∷◌, ◌++◌, map, length, slice_index_or, Option, None, Some, Ok, Err, Result}
use Rattle.std.specs.List.{AllByRecursion}
use Rattle.voice.specs.Frame.{sum}
use Rattle.voice.specs.Voice.{fresh, silence, Contribution}
use Rattle.voice.specs.declared.voice.Voice.{Voice}
use Rattle.chip.specs.Port.{positions_start, positions_end}
use Rattle.chip.specs.Registers.{stands}
use Rattle.calls.specs.Calls.{Answer as ChipAnswer}
use Rattle.calls.specs.declared.Reply.TheVariants.{Byte, Contributions}
use Rattle.calls.specs.declared.Call.TheVariants.{Reset, Write, Read, Inspect, Tick, Tell}
use Rattle.player.specs.declared.fault.Fault.{Fault}
use Rattle.player.specs.declared.player.Progress.{Progress}
use Rattle.player.specs.declared.player.Progress.TheVariants.{Taken, Ticked, Ended}
use Rattle.player.specs.Left.{stops, enough}
use Rattle.session.specs.Station.{Model, tried, tried_all}
use Rattle.session.specs.Groups.{holds}
use Rattle.session.specs.Stems.{Each, MixAndStems}
use Rattle.session.specs.declared.call.Answer.{Answer}
use Rattle.session.specs.declared.call.Answer.TheVariants as answered
use Rattle.session.specs.declared.call.Call.{Call}
use Rattle.session.specs.declared.call.Call.TheVariants.{Chip, Step}

-- One moment

-- voice k, from 0
abbrev pub voice : Model → ℕ → Voice
voice s k = slice_index_or s.chip.registers.voices k fresh

-- the voices of a group stand where they stand in the mix, and contributed the same at last
abbrev pub SameVoices : Model → ℕ → Model → Type 0
SameVoices mix group s =
    (k : ℕ) → k < 8 → holds group k ≡ true →
    (stands (voice s k) ≡ stands (voice mix k)) × ((voice s k).latest ≡ (voice mix k).latest)

-- a mix and its stems at one moment
pub record Level (groups : List ℕ) (mix : Model) (stems : List Model) : Type 0 where
  pub voices : Each (SameVoices mix) groups stems
  pub memories : AllByRecursion (λ s. s.chip.memory.bytes ≡ mix.chip.memory.bytes) stems

-- One call

-- The answers of a stem and of the mix to one call agree: they are the same, but that a voice outside the group may
-- stand elsewhere and may have contributed otherwise.
pub data Agrees (group : ℕ) : Call → Option Answer → Option Answer → Type 0 where
  same : {call : Call} {x : Option Answer} → Agrees group call x x
  other_position :
      {address a b : ℕ} → positions_start ≤ address → address < positions_end → holds group ((address - positions_start) / 2) ≡ false →
      Agrees group (Chip (Read address)) (Some (answered.Chip (Ok (Some (Byte a))))) (Some (answered.Chip (Ok (Some (Byte b)))))
  own_contributions :
      {xs ys : List Contribution} → length xs ≡ 8 → length ys ≡ 8 →
      ((k : ℕ) → k < 8 → holds group k ≡ true → slice_index_or xs k silence ≡ slice_index_or ys k silence) →
      Agrees group (Chip Tell) (Some (answered.Chip (Ok (Some (Contributions xs))))) (Some (answered.Chip (Ok (Some (Contributions ys)))))

-- whether a call was granted that has no reply of its own
abbrev pub granted_plainly : ChipAnswer → Bool
granted_plainly (Ok None) = true
granted_plainly (Ok (Some (Byte b))) = false
granted_plainly (Ok (Some (Contributions xs))) = false
granted_plainly (Err e) = false

abbrev pub granted : Option Answer → Bool
granted None = false
granted (Some (answered.Chip a)) = granted_plainly a
granted (Some (answered.Step p)) = false

-- whether a call was an accepted inspection
abbrev pub inspected : Call → Option Answer → Bool
inspected (Chip Reset) x = false
inspected (Chip (Write a b)) x = false
inspected (Chip (Read a)) x = false
inspected (Chip (Inspect o)) x = granted x
inspected (Chip Tick) x = false
inspected (Chip Tell) x = false
inspected Step x = false

-- whether a call was a granted tick, be it a step's
abbrev pub step_ticked : Option Answer → Bool
step_ticked None = false
step_ticked (Some (answered.Chip a)) = false
step_ticked (Some (answered.Step (Ok Taken))) = false
step_ticked (Some (answered.Step (Ok Ticked))) = true
step_ticked (Some (answered.Step (Ok (Ended b)))) = false
step_ticked (Some (answered.Step (Err f))) = false

abbrev pub ticked : Call → Option Answer → Bool
ticked (Chip Reset) x = false
ticked (Chip (Write a b)) x = false
ticked (Chip (Read a)) x = false
ticked (Chip (Inspect o)) x = false
ticked (Chip Tick) x = granted x
ticked (Chip Tell) x = false
ticked Step x = step_ticked x

-- the totals in the stems' frames add up to those in the mix's, before the limiter
pub record AddUp (mix : Model) (stems : List Model) : Type 0 where
  pub left : sum (map (λ s. s.frame.left.total) stems) ≡ mix.frame.left.total
  pub right : sum (map (λ s. s.frame.right.total) stems) ≡ mix.frame.right.total

-- a mix and its stems, on all of which a call has just been tried
pub record Together (groups : List ℕ) (call : Call) (mix : Model) (stems : List Model) : Type 0 where
  pub level : Level groups mix stems
  pub answers : Each (λ group s. Agrees group call s.answer mix.answer) groups stems
  pub shown : inspected call mix.answer ≡ true → AllByRecursion (λ s. s.buffer ≡ mix.buffer) stems
  pub ticks : ticked call mix.answer ≡ true → AllByRecursion (λ s. ticked call s.answer ≡ true) stems × AddUp mix stems

-- Runs

abbrev pub steps : List Call → ℕ
steps [] = 0
steps (Chip call ∷ rest) = steps rest
steps (Step ∷ rest) = suc (steps rest)

-- what a step answers after some calls
abbrev pub step_after : List Call → Model → Option Answer
step_after before s = (tried Step (tried_all before s)).answer

-- a player stops with the step that comes after these calls, and with none before
pub record StopsAfter (before : List Call) (last : Result Progress Fault) (s : Model) : Type 0 where
  pub here : step_after before s ≡ Some (answered.Step last)
  pub stop : stops last ≡ true
  pub first : (b rest : List Call) → before ≡ b ++ Step ∷ rest → (p : Result Progress Fault) → step_after b s ≡ Some (answered.Step p) → stops p ≡ false

-- all players stop at the same step of the calls, with the same answer
pub record StopAlike (calls : List Call) (mix : Model) (stems : List Model) : Type 0 where
  pub before : List Call
  pub rest : List Call
  pub last : Result Progress Fault
  pub among : calls ≡ before ++ Step ∷ rest
  pub mix_stops : StopsAfter before last mix
  pub stems_stop : AllByRecursion (StopsAfter before last) stems

-- Calls are tried one by one on a mix and on all of its stems.
pub record Throughout (groups : List ℕ) (calls : List Call) (mix : Model) (stems : List Model) : Type 0 where
  -- before the first
  pub start : Level groups mix stems
  -- after each
  pub each :
      (before rest : List Call) (call : Call) → calls ≡ before ++ call ∷ rest →
      Together groups call (tried call (tried_all before mix)) (map (λ s. tried call (tried_all before s)) stems)
  -- and after the last they are a mix and its stems, so that calls may go on
  pub still : MixAndStems groups (tried_all calls mix) (map (tried_all calls) stems)

-- The law, of calls on a mix and its stems that have just been made.
pub record Law (groups : List ℕ) (calls : List Call) (mix : Model) (stems : List Model) : Type 0 where
  pub throughout : Throughout groups calls mix stems
  -- enough steps stop all players alike
  pub stop : enough mix.log ≤ steps calls → StopAlike calls mix stems
