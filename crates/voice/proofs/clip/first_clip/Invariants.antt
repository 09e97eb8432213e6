use Rattle.voice.specs.Clip.{ClearPairs, ClearSides}
use Rattle.voice.proofs.clip.first_clip.Given as goal

abbrev pub invariant-loop-pair : goal.invariant-loop-pair
invariant-loop-pair l = ClearPairs l.totals l.pair

abbrev pub invariant-loop-side : goal.invariant-loop-side
invariant-loop-side l = ClearSides l.totals l.pair l.side-index
