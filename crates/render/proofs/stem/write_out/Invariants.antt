use Rattle.std.proofs.Common.{ℕ, List, length, Option}
use Rattle.std.specs.Io.KnownBytes.{Appends}
use Rattle.render.specs.Playback.{rest}
use Rattle.render.proofs.stem.write_out.Given as goal

-- what is left, appended to what is written, makes the whole
abbrev pub invariant-loop-last : goal.invariant-loop-last
invariant-loop-last g l =
    (whole : Option (List ℕ)) →
    Appends (g.W.Write.contents l.output) whole (rest g.M.Source.bytes g.M.Store.takes l.playback) →
    Appends (g.W.Write.contents l.initial.output) whole (rest g.M.Source.bytes g.M.Store.takes l.initial.playback)

abbrev pub decreases-loop-last : goal.decreases-loop-last
decreases-loop-last g l = length (rest g.M.Source.bytes g.M.Store.takes l.playback)
