-- The last line.
use Rattle.std.specs.Prelude.{ℕ, List, ◌++◌, Option, Some, None, codes}
use Rattle.std.specs.Fmt.{decimal}
use Rattle.player.specs.Fault.{number, layer, bit, address}
use Rattle.player.specs.declared.player.State.{State}
use Rattle.player.specs.declared.player.State.TheVariants.{Between, Waiting, Ended, Faulted}
use Rattle.render.specs.declared.last.Last.{Last}
use Rattle.render.specs.declared.last.Last.TheVariants.{End, Fault}

abbrev pub text : Last → List ℕ
text End = codes "end"
text (Fault fault) =
    codes "fault " ++ decimal (number fault) ++ codes " " ++ layer fault ++ codes " " ++ decimal (bit fault) ++ codes " " ++ decimal (address fault)

-- how the playing has ended in a state of the player, if it has
abbrev pub ending : State → Option Last
ending Between = None
ending (Waiting b left) = None
ending (Ended b) = Some End
ending (Faulted fault) = Some (Fault fault)
