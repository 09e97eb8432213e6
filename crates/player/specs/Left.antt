-- A bound on the steps that a player takes until it stops.
use Rattle.std.specs.Prelude.{ℕ, ◌+◌, ◌-◌, ◌*◌, Bool, true, false, cond, List, length, Ok, Err, Result, nat_lt}
use Rattle.register_log.specs.Header.{records_start}
use Rattle.player.specs.Step.{Stand}
use Rattle.player.specs.declared.fault.Fault.{Fault}
use Rattle.player.specs.declared.player.Progress.{Progress}
use Rattle.player.specs.declared.player.Progress.TheVariants.{Taken, Ticked, Ended as AtEnd}
use Rattle.player.specs.declared.player.State.{State}
use Rattle.player.specs.declared.player.State.TheVariants.{Between, Waiting, Ended, Faulted}

-- a player stops with an answer of ended, or a fault
abbrev pub stops : Result Progress Fault → Bool
stops (Ok Taken) = false
stops (Ok Ticked) = false
stops (Ok (AtEnd bit)) = true
stops (Err fault) = true

-- so many steps stop the player of a log that has taken none: the header and the stop are one each, a record takes more than
-- a bit, and a wait fewer than 65,536 ticks
abbrev pub enough : List ℕ → ℕ
enough log = 2 + 65536 * (8 * length log + 1)

-- the steps that are left, at most, the one that stops the player with them: between two records, or before the header
abbrev pub between_left : List ℕ → ℕ → ℕ
between_left log place = cond (nat_lt place records_start) (enough log) (1 + 65536 * (8 * length log + 1 - place))

abbrev pub left_by : List ℕ → ℕ → State → ℕ
left_by log place Between = between_left log place
left_by log place (Waiting bit n) = 1 + n + between_left log place
left_by log place (Ended bit) = 1
left_by log place (Faulted fault) = 1

abbrev pub left : List ℕ → Stand → ℕ
left log p = left_by log p.place p.state
