-- What steps of a player leave, one after another, and the lines of the ticks among them.
use Rattle.std.specs.Prelude.{◌≡◌, ℕ, ◌<◌, zero, suc, List, [], ◌++◌, None, Ok, Err, Result}
use Rattle.chip.specs.Port.{State as ChipState}
use Rattle.player.specs.Step.{Stand, Stepped, step}
use Rattle.player.specs.declared.fault.Fault.{Fault}
use Rattle.player.specs.declared.player.Progress.{Progress}
use Rattle.player.specs.declared.player.Progress.TheVariants.{Taken, Ticked, Ended}
use Rattle.render.specs.Last.{ending}
use Rattle.render.specs.Text.{ticked_line}

-- how far a playing has come: its chip, where its player stands, and the lines of the ticks that it has done
pub record Reached : Type 0 where
  pub chip : ChipState
  pub player : Stand
  pub lines : List ℕ

abbrev pub reached : ChipState → Stand → List ℕ → Reached
reached c p lines = record { chip = c; player = p; lines = lines }

-- a step that has left this chip has a line if it was a tick
abbrev pub step_line : ChipState → Result Progress Fault → List ℕ
step_line c (Ok Taken) = []
step_line c (Ok Ticked) = ticked_line c
step_line c (Ok (Ended bit)) = []
step_line c (Err fault) = []

-- a step more, whose line comes after those before it
abbrev pub with_step : List ℕ → Stepped → Reached
with_step lines s = reached s.chip s.player (lines ++ step_line s.chip s.answer)

abbrev pub one_more : List ℕ → Reached → Reached
one_more log r = with_step r.lines (step log r.chip r.player)

-- after so many steps
unfoldable pub after : ℕ → List ℕ → ChipState → Stand → Reached
after zero log c p = reached c p []
after (suc n) log c p = one_more log (after n log c p)

-- Some steps reach this, and none of them is taken once the player has stopped.
pub record Reaches (log : List ℕ) (c : ChipState) (p : Stand) (r : Reached) : Type 0 where
  pub steps : ℕ
  pub there : after steps log c p ≡ r
  pub going : (n : ℕ) → n < steps → ending (after n log c p).player.state ≡ None
