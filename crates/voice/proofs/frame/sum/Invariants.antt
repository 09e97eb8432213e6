use Rattle.std.proofs.Common.{◌≡◌, ◌*◌, take, pos, neg_ℤ, ◌≤ℤ◌}
use Rattle.voice.specs.Frame.{sum}
use Rattle.voice.proofs.frame.sum.Given as goal

abbrev pub invariant-loop-contribution : goal.invariant-loop-contribution
invariant-loop-contribution l =
    (l.total ≡ sum (take l.contribution-index l.list))
    × (neg_ℤ (pos (32768 * l.contribution-index)) ≤ℤ l.total)
    × (l.total ≤ℤ pos (32768 * l.contribution-index))
