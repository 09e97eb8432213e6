use Rattle.std.proofs.Common.{arith}
use Rattle.std.proofs.lemmas.Int.{ints}
use Rattle.voice.proofs.Sums.{sum_more}
use Rattle.voice.proofs.frame.sum.Goals as goal

pub loop-contribution-preserved : goal.loop-contribution-preserved
loop-contribution-preserved c =
    let more = sum_more c.args.list.now c.loop-contribution.contribution-index (omega arith) in
    (omega (arith, ints), omega (arith, ints), omega (arith, ints))
