use Rattle.std.proofs.Common.{◌≡◌, drop, None}
use Rattle.register_log.specs.Recording.{header_placed}
use Rattle.whole_log.proofs.Measuring.{go_on, measured}
use Rattle.whole_log.proofs.measure.Given as goal

-- what is left to measure gives the same answer
abbrev pub invariant-loop-index : goal.invariant-loop-index
invariant-loop-index g l =
    measured l.capacity (drop l.index (g.R.Records.entries l.records)) None l.layout.place
    ≡ go_on (measured l.capacity (g.R.Records.entries l.records) None) (header_placed l.capacity l.fn.header)
