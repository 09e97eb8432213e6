-- What is printed of a log that is played on a chip: a line for each tick, and the last line.
use Rattle.std.specs.Prelude.{ℕ, zero, suc, List, [], ◌++◌, Option, Some, None, Ok, Err, Result, codes}
use Rattle.voice.specs.Frame.{frame, Frame}
use Rattle.chip.specs.Port.{State as ChipState}
use Rattle.player.specs.Left.{left}
use Rattle.player.specs.Step.{Stand, Stepped, step}
use Rattle.player.specs.declared.fault.Fault.{Fault as PlayerFault}
use Rattle.player.specs.declared.player.Progress.{Progress}
use Rattle.player.specs.declared.player.Progress.TheVariants.{Taken, Ticked, Ended as AtEnd}
use Rattle.lines.specs.Line.{tick_line}
use Rattle.render.specs.Last as last
use Rattle.render.specs.declared.last.Last.{Last}
use Rattle.render.specs.declared.last.Last.TheVariants.{End, Fault}

-- Lines

abbrev pub frame_line : Frame → List ℕ
frame_line f = tick_line f.left.total f.right.total

-- the line of a tick that a chip has just done
abbrev pub ticked_line : ChipState → List ℕ
ticked_line c = frame_line (frame c.registers.setup.converter c.registers.voices)

abbrev pub last_line : Last → List ℕ
last_line l = last.text l ++ codes "\n"

-- a step's text, and what follows it
abbrev pub by_answer : (ChipState → Stand → List ℕ) → ChipState → Stand → Result Progress PlayerFault → List ℕ
by_answer following c p (Ok Taken) = following c p
by_answer following c p (Ok Ticked) = ticked_line c ++ following c p
by_answer following c p (Ok (AtEnd bit)) = last_line End
by_answer following c p (Err fault) = last_line (Fault fault)

abbrev pub onward : (ChipState → Stand → List ℕ) → Stepped → List ℕ
onward following s = by_answer following s.chip s.player s.answer

-- the text of at most so many steps
unfoldable pub lines : ℕ → List ℕ → ChipState → Stand → List ℕ
lines zero log c p = []
lines (suc n) log c p = onward (lines n log) (step log c p)

-- the whole text from where a player stands
abbrev pub text : List ℕ → ChipState → Stand → List ℕ
text log c p = lines (left log p) log c p

-- what follows a piece of the text: the last line, if it has come to that
abbrev pub closed : Option Last → List ℕ → List ℕ
closed None following = following
closed (Some l) following = last_line l
