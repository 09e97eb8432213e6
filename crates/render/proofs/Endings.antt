-- How a player's playing has ended is told by its state, as by the answer of the step that stopped it.
use Rattle.std.proofs.Common.{◌≡◌, ℕ, ◌+◌, ◌-◌, ◌<◌, Bool, true, false, leb, ltb, cond, List, [], ◌∷◌, Option, Some, None, IfSome, is_some, Ok, Err, Result, refl, ap, true≢false}
use Rattle.chip.specs.Port.{State as ChipState, window_start, tick}
use Rattle.chip.specs.declared.refusal.Refusal.{Refusal}
use Rattle.chip.specs.declared.registers.Registers.{Registers}
use Rattle.register_log.specs.Header.{header, records_start}
use Rattle.register_log.specs.Reading.{Found, end, found, decode}
use Rattle.register_log.specs.Record.{register, window, wait, block}
use Rattle.register_log.specs.declared.fault.Fault.{Fault as LogFault}
use Rattle.player.specs.Step.{Stand, Stepped, put, taken, for_kind, opened, waited, between, by_state, step}
use Rattle.player.specs.declared.fault.Fault.{Fault as PlayerFault}
use Rattle.player.specs.declared.player.Progress.{Progress}
use Rattle.player.specs.declared.player.Progress.TheVariants.{Taken, Ticked, Ended as AtEnd}
use Rattle.player.specs.declared.player.State.{State}
use Rattle.player.specs.declared.player.State.TheVariants.{Between, Waiting, Ended, Faulted}
use Rattle.render.specs.Last.{ending}
use Rattle.render.specs.declared.last.Last.{Last}
use Rattle.render.specs.declared.last.Last.TheVariants.{End, Fault}
use Rattle.player.specs.Left.{stops, left}
use Rattle.player.proofs.Left.{one_left}
use Rattle.player.proofs.Puts.{put_ends}

-- how it has ended by a step's answer
abbrev pub answered : Result Progress PlayerFault → Option Last
answered (Ok Taken) = None
answered (Ok Ticked) = None
answered (Ok (AtEnd bit)) = Some End
answered (Err fault) = Some (Fault fault)

-- whether a step was a tick
abbrev pub ticks : Result Progress PlayerFault → Bool
ticks (Ok Taken) = false
ticks (Ok Ticked) = true
ticks (Ok (AtEnd bit)) = false
ticks (Err fault) = false

abbrev Told : Stepped → Type 0
Told s = ending s.player.state ≡ answered s.answer

put_told : (bytes : List ℕ) (address bit place : ℕ) (c : ChipState) → Told (put bytes address bit place c)
put_told bytes address bit place c =
    put_ends (λ d. Unit {0}) Told place bit (λ d a b k. tt) (λ d k. refl) (λ d r a k. refl) bytes address c tt

opened_told : (c : ChipState) (place : ℕ) (r : Result (Unit {0}) LogFault) → Told (opened c place r)
opened_told c place (Ok u) = refl
opened_told c place (Err fault) = refl

taken_told : (c : ChipState) (place : ℕ) (r : Result Found LogFault) → Told (taken c place r)
taken_told c place (Ok end) = refl
taken_told c place (Ok (found (register address byte) next)) = put_told (byte ∷ []) address place next c
taken_told c place (Ok (found (window offset byte) next)) = put_told (byte ∷ []) (window_start + offset) place next c
taken_told c place (Ok (found (wait ticks) next)) = refl
taken_told c place (Ok (found (block offset payload) next)) = put_told payload (window_start + offset) place next c
taken_told c place (Err fault) = refl

between_told : (log : List ℕ) (c : ChipState) (place : ℕ) → Told (between log c place)
between_told log c place = by (ltb place records_start)
  where
    by : (early : Bool) → Told (cond early (opened c place (for_kind c.registers.setup.kind (header log))) (taken c place (decode log place)))
    by true = opened_told c place (for_kind c.registers.setup.kind (header log))
    by false = taken_told c place (decode log place)

waited_told : (c : ChipState) (place bit n : ℕ) (r : Result Registers Refusal) → Told (waited c place bit n r)
waited_told c place bit n (Ok r) = by (leb n 1)
  where
    by : (last : Bool) → ending (cond last Between (Waiting bit (n - 1))) ≡ None
    by true = refl
    by false = refl
waited_told c place bit n (Err refusal) = refl

pub step_told : (log : List ℕ) (c : ChipState) (p : Stand) → Told (step log c p)
step_told log c p = by p.place p.state
  where
    by : (place : ℕ) (s : State) → Told (by_state log c place s)
    by place Between = between_told log c place
    by place (Waiting bit n) = waited_told c place bit n (tick c.memory.bytes c.registers)
    by place (Ended bit) = refl
    by place (Faulted fault) = refl

-- the steps that are left, at most, until it is told that the player has stopped: none from then on
abbrev pub pending : List ℕ → Stand → ℕ
pending log p = cond (is_some (ending p.state)) 0 (left log p)

pub nearer :
    (log after : List ℕ) (old new : Stand) (answer : Result Progress PlayerFault) → after ≡ log → ending old.state ≡ None →
    ending new.state ≡ answered answer → (stops answer ≡ false → left log new < left log old) → pending after new < pending log old
nearer log after old new (Ok Taken) same going told less = rw (same, going, told) (less refl)
nearer log after old new (Ok Ticked) same going told less = rw (same, going, told) (less refl)
nearer log after old new (Ok (AtEnd bit)) same going told less = rw (going, told) (one_left log old)
nearer log after old new (Err fault) same going told less = rw (going, told) (one_left log old)

-- what follows from having ended, where it has not
pub in_vain : {P : Last → Type 0} (Q : Last → Type 0) (o : Option Last) → IfSome o P → ((l : Last) → P l → o ≡ None) → IfSome o Q
in_vain Q None h k = tt
in_vain Q (Some l) h k = absurd (true≢false (ap is_some (k l h)))
