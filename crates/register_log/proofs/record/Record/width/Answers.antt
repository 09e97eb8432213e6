use Rattle.std.proofs.Common.{arith}
use Rattle.register_log.proofs.Records.{block_span}
use Rattle.register_log.proofs.record.Record.width.Goals as goal

pub returns-in-Block-clause-exact : goal.returns-in-Block-clause-exact
returns-in-Block-clause-exact c =
    let span = block_span c.args.place c.in-Block.offset c.in-Block.bytes.now in
    rw c.in-Block.is (omega arith)
