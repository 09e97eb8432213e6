use Rattle.std.proofs.Common.{◌≡◌, ◌*◌, ◌/◌, arith}
use Rattle.register_log.proofs.Writing.{span_octets}
use Rattle.register_log.proofs.bit_writer.BitWriter.bytes.Goals as goal

pub returns : goal.returns
returns c =
    let start : 8 * (c.args.self.now.place / 8) ≡ c.args.self.now.place = omega arith in
    grind (arith, span_octets)
