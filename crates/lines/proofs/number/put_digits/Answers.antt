use Rattle.std.proofs.Common.{rules, ◌≤◌, ◌/◌, ◌^◌, ◌<◌, ap, ◌∙◌, arith}
use Rattle.std.specs.Fmt.{decimal}
use Rattle.lines.specs.Placed.{placed}
use Rattle.lines.proofs.Digits.{hundredth, digits_some}
use Rattle.lines.proofs.Steps.{pair_written}
use Rattle.lines.proofs.number.put_digits.Goals as goal

pub loop-rest-preserved : goal.loop-rest-preserved
loop-rest-preserved c =
    let small : c.loop-rest.rest < 2 ^ 32 = search rules in
    let long : 100 ≤ c.loop-rest.rest = omega arith in
    let fewer = hundredth c.loop-rest.rest long small in
    let some = digits_some (c.loop-rest.rest / 100) (omega arith) in
    record {
      last = omega arith;
      within = omega (arith, c.put_pair.auto.buffer);
      same_length = c.put_pair.auto.buffer ∙ c.loop-rest.invariant.same_length;
      same =
          ap (λ b. placed b c.args.place (decimal (c.loop-rest.rest / 100))) c.put_pair.ensures
          ∙ pair_written c.loop-rest.buffer c.args.place c.loop-rest.last c.loop-rest.rest long small (omega arith) (omega arith)
          ∙ c.loop-rest.invariant.same;
    }
