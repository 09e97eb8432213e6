use Rattle.std.proofs.Common.{◌≡◌, drop, None}
use Rattle.register_log.specs.Recording.{state}
use Rattle.whole_log.specs.Outcome.{recorded}
use Rattle.whole_log.proofs.add_all.Given as goal

-- what is left to add gives the same outcome
abbrev pub invariant-loop-index : goal.invariant-loop-index
invariant-loop-index g l =
    recorded (drop l.index (g.R.Records.entries l.records)) None (state l.recording.layout.place l.buffer)
    ≡ recorded (g.R.Records.entries l.records) None (state l.initial.recording.layout.place l.initial.buffer)
