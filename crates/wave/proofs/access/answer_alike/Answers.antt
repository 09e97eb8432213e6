use Rattle.std.proofs.Common.{◌∙◌}
use Rattle.std.proofs.lemmas.List.{take_more, take_all}
use Rattle.wave.specs.declared.access.Access.TheVariants.{Read}
use Rattle.wave.proofs.Runs.{compared_more, alike_throughout}
use Rattle.wave.proofs.access.answer_alike.Goals as goal

pub loop-access-preserved : goal.loop-access-preserved
loop-access-preserved g c =
    let p = c.perform_both-alike.ensures in
    let before = c.loop-access.invariant in (
      rw (take_more c.args.accesses.now c.loop-access.access-index (Read 0) c.loop-access-test.true)
          (compared_more _ _ _ _ _ _ _ _ _ _ before.0 p.answers p.first p.second),
      p.first_borrows ∙ before.1,
      p.second_borrows ∙ before.2,
    )

pub returns : goal.returns
returns g c =
    let all = take_all c.loop-access.access-index c.args.accesses.now c.loop-access-test.false in
    let before = c.loop-access.invariant in
    let compared = rw all at before.0 in
    record {
      compared = compared;
      law = alike_throughout _ _ _ _ _ _ _ _ compared;
      first_borrows = before.1;
      second_borrows = before.2;
    }
