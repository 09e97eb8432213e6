use Rattle.std.proofs.Common.{◌≡◌, ◌-◌, ◌*◌, length}
use Rattle.register_log.specs.Contents.{contents}
use Rattle.register_log.specs.Recording.{header_placed}
use Rattle.whole_log.proofs.Measuring.{go_on, measured}
use Rattle.whole_log.proofs.Runs.{rest_of}
use Rattle.whole_log.proofs.measure_log.Given as goal

-- what is left to measure gives the same answer
abbrev pub invariant-loop-record : goal.invariant-loop-record
invariant-loop-record l =
    (l.reader.log.now ≡ l.log)
    × (measured l.capacity (rest_of l.log l.reader.place).entries (rest_of l.log l.reader.place).fault l.layout.place
    ≡ go_on (measured l.capacity (contents l.log).entries (contents l.log).fault) (header_placed l.capacity l.fn.header))

abbrev pub decreases-loop-record : goal.decreases-loop-record
decreases-loop-record l = 8 * length l.log - l.reader.place
