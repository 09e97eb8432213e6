use Rattle.chip.specs.Chip.{state}
use Rattle.player.specs.Step.{stand}
use Rattle.player.proofs.Left.{nearer}
use Rattle.player.proofs.player.Player.step.Goals as goal

pub returns-in_default-clause-nearer : goal.returns-in_default-clause-nearer
returns-in_default-clause-nearer g c =
    nearer c.args.self.now.reader.log.now
    (state g.M.Source.bytes g.M.Store.takes c.args.chip.now) (state g.M.Source.bytes g.M.Store.takes c.advance-answer.new.chip)
    (stand c.args.self.now) (stand c.advance-answer.new.self)
    c.advance-answer.result c.advance-answer.ensures.outcome
