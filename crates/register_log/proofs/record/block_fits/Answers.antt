use Rattle.std.proofs.Common.{arith}
use Rattle.std.proofs.lemmas.Bool.Decides.{nat_tests}
use Rattle.register_log.proofs.Records.{bytes_fit_all}
use Rattle.register_log.proofs.record.block_fits.Goals as goal

pub returns-then-contains : goal.returns-then-contains
returns-then-contains c =
    let small = λ (k : _). (c.type_inv.bytes k).fits in
    grind (arith, nat_tests, bytes_fit_all)
