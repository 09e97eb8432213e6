use Rattle.std.proofs.lemmas.List.{take_min}
use Rattle.wave.specs.Memory.{most}
use Rattle.wave.specs.Lent.{used}
use Rattle.wave.proofs.lent.used.Goals as goal

pub returns : goal.returns
unfolding used
returns c = cc (take_min most c.args.lent.now)
