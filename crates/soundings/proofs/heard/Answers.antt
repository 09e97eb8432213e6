use Rattle.soundings.proofs.Examples.{first_heard}
use Rattle.soundings.proofs.heard.Goals as goal

pub returns : goal.returns
returns c = rw (c.tick.ensures.exact, c.new-voice.ensures) (first_heard c.args.env c.args.pan c.args.byte _ c.new.ensures)
