use Rattle.std.proofs.Common.{◌≡◌, ◌≤◌, ◌++◌, length, take, drop, IfSome}
use Rattle.player.specs.Step.{stand}
use Rattle.render.specs.Last.{ending}
use Rattle.render.specs.Playback.{rest, PlaysOn}
use Rattle.render.proofs.Endings.{pending}
use Rattle.render.proofs.playback.Playback.fill.Given as goal

-- what is written, and then what is left, is what there was
abbrev pub invariant-loop-frame : goal.invariant-loop-frame
invariant-loop-frame g l = record {
  log : l.self.player.reader.log.now ≡ l.initial.self.player.reader.log.now;
  within : l.length ≤ length l.buffer;
  same_length : length l.buffer ≡ length l.initial.buffer;
  beyond : drop l.length l.buffer ≡ drop l.length l.initial.buffer;
  same : rest g.M.Source.bytes g.M.Store.takes l.initial.self
      ≡ take l.length l.buffer ++ rest g.M.Source.bytes g.M.Store.takes l.self;
  steps : PlaysOn g.M.Source.bytes g.M.Store.takes l.initial.self l.self (take l.length l.buffer);
  borrows : g.M.Store.borrows l.self.chip.memory ≡ g.M.Store.borrows l.initial.self.chip.memory;
  stopped : IfSome (ending l.initial.self.player.state)
      (λ _. (l.length ≡ 0) × (l.self ≡ l.initial.self) × (l.buffer ≡ l.initial.buffer));
}

abbrev pub decreases-loop-frame : goal.decreases-loop-frame
decreases-loop-frame g l = pending l.self.player.reader.log.now (stand l.self.player)
