-- Playing a log until the player stops or the buffers are full.
use Rattle.std.specs.Prelude.{ℕ, zero, suc, ◌+◌, Bool, cond, ◌&&◌, List, length, Ok, Err, Result, nat_lt, slice_set}
use Rattle.voice.specs.Frame.{frame, Frame}
use Rattle.chip.specs.Port.{State}
use Rattle.player.specs.Fault.{number, bit, address}
use Rattle.player.specs.Left.{left}
use Rattle.player.specs.Step.{Stand, Stepped, step}
use Rattle.player.specs.declared.fault.Fault.{Fault}
use Rattle.player.specs.declared.player.Progress.{Progress}
use Rattle.player.specs.declared.player.Progress.TheVariants.{Taken, Ticked, Ended}
use Rattle.exported.specs.Numbers.{no_refusal}
use Rattle.exported.specs.Frames.{totals_of, words_of}
use Rattle.exported.specs.declared.frames.Totals.{Totals}
use Rattle.exported.specs.declared.frames.Words.{Words}
use Rattle.exported.specs.declared.plays.StepAnswer.{StepAnswer}

-- what a step came to, by number
abbrev pub progress_number : Result Progress Fault → ℕ
progress_number (Ok Taken) = 0
progress_number (Ok Ticked) = 1
progress_number (Ok (Ended b)) = 2
progress_number (Err fault) = 3

-- a step that found no fault, at a bit
abbrev pub progress_answer : ℕ → Progress → StepAnswer
progress_answer b progress = record { bit = b; address = 0; progress = progress_number (Ok progress); number = no_refusal }

abbrev pub step_answer : Result Progress Fault → StepAnswer
step_answer (Ok Taken) = progress_answer 0 Taken
step_answer (Ok Ticked) = progress_answer 0 Ticked
step_answer (Ok (Ended b)) = progress_answer b (Ended b)
step_answer (Err fault) =
    record { bit = bit fault; address = address fault; progress = progress_number (Err fault); number = number fault }

-- how far it has come, and what the buffers hold
pub record Stage : Type 0 where
  pub chip : State
  pub player : Stand
  pub ticks : ℕ
  pub totals : List Totals
  pub words : List Words

-- what it comes to in the end; a player that has not stopped is said to have taken a record
pub record Outcome : Type 0 where
  pub stage : Stage
  pub last : Result Progress Fault

abbrev pub stage : State → Stand → ℕ → List Totals → List Words → Stage
stage c p ticks totals words = record { chip = c; player = p; ticks = ticks; totals = totals; words = words }

abbrev pub begun : State → Stand → List Totals → List Words → Stage
begun c p totals words = stage c p 0 totals words

abbrev pub outcome : Stage → Result Progress Fault → Outcome
outcome s last = record { stage = s; last = last }

-- both buffers have room for a tick more
abbrev pub room : Stage → Bool
room s = nat_lt s.ticks (length s.totals) && nat_lt s.ticks (length s.words)

-- after a step that was no tick
abbrev pub moved : Stage → State → Stand → Stage
moved s c p = stage c p s.ticks s.totals s.words

abbrev pub heard_frame : State → Frame
heard_frame c = frame c.registers.setup.converter c.registers.voices

-- after a tick
abbrev pub heard : Stage → State → Stand → Stage
heard s c p =
    stage c p (s.ticks + 1) (slice_set s.totals s.ticks (totals_of (heard_frame c))) (slice_set s.words s.ticks (words_of (heard_frame c)))

abbrev pub by_answer : (Stage → Outcome) → Stage → State → Stand → Result Progress Fault → Outcome
by_answer next s c p (Ok Taken) = next (moved s c p)
by_answer next s c p (Ok Ticked) = next (heard s c p)
by_answer next s c p (Ok (Ended b)) = outcome (moved s c p) (Ok (Ended b))
by_answer next s c p (Err fault) = outcome (moved s c p) (Err fault)

abbrev pub onward : (Stage → Outcome) → Stage → Stepped → Outcome
onward next s t = by_answer next s t.chip t.player t.answer

-- at most so many steps
unfoldable pub play : ℕ → List ℕ → Stage → Outcome
play zero log s = outcome s (Ok Taken)
play (suc n) log s = cond (room s) (onward (play n log) s (step log s.chip s.player)) (outcome s (Ok Taken))

-- until the player stops or the buffers are full
abbrev pub playing : List ℕ → Stage → Outcome
playing log s = play (left log s.player) log s
