use Rattle.std.proofs.Common.{rules, arith, ◌≤◌, length, length-set}
use Rattle.std.specs.Fmt.{decimal}
use Rattle.lines.proofs.Digits.{digits_most}
use Rattle.lines.proofs.number.put_number.Goals as goal

pub put_digits-requires : goal.put_digits-requires
put_digits-requires c =
    let most : length (decimal c.unsigned_abs.result) ≤ 10 = digits_most c.unsigned_abs.result (search rules) in
    omega (arith, length-set c.args.buffer.now c.args.place 45)
