use Rattle.std.proofs.lemmas.Result.{IfOk-weaker}
use Rattle.render.specs.Stem.{zeros}
use Rattle.render.proofs.stem.new_ram.Goals as goal

pub returns : goal.returns
unfolding zeros
returns c = IfOk-weaker c.vec.result _ _ (λ ram h. h (λ byte same. same)) c.vec.ensures.items_if_clones_equal
