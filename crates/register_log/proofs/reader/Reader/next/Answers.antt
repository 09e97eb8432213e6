use Rattle.std.proofs.Common.{Ok, rules}
use Rattle.register_log.proofs.Decoding.{found_within}
use Rattle.register_log.proofs.reader.Reader.next.Goals as goal

pub returns-clause-window : goal.returns-clause-window
returns-clause-window c =
    found_within c.args.self.now.log.now c.args.self.now.place c.read.new.bits.place (Ok c.in_ok-record.record) (search rules)
