use Rattle.std.proofs.Common.{◌≡◌}
use Rattle.chip.specs.Chip.{state}
use Rattle.player.specs.Left.{left}
use Rattle.player.specs.Step.{stand}
use Rattle.exported.specs.Plays.{stage, begun, playing}
use Rattle.exported.proofs.plays.play_on.Given as goal

-- playing on from here comes to the same
abbrev pub invariant-loop-ticks : goal.invariant-loop-ticks
invariant-loop-ticks g l = record {
  log : l.player.reader.log.now ≡ l.initial.player.reader.log.now;
  borrows : g.M.Store.borrows l.chip.memory ≡ g.M.Store.borrows l.initial.chip.memory;
  same : playing l.initial.player.reader.log.now
      (begun (state g.M.Source.bytes g.M.Store.takes l.initial.chip) (stand l.initial.player) l.initial.totals l.initial.words)
      ≡ playing l.player.reader.log.now
      (stage (state g.M.Source.bytes g.M.Store.takes l.chip) (stand l.player) l.ticks l.totals l.words);
}

abbrev pub decreases-loop-ticks : goal.decreases-loop-ticks
decreases-loop-ticks g l = left l.player.reader.log.now (stand l.player)
