use Rattle.std.proofs.Common.{◌∙◌}
use Rattle.session.proofs.Runs.{mix_next, stems_next, stems_all, throughout, law}
use Rattle.session.proofs.session.Session.try_calls.Goals as goal

pub loop-call-preserved : goal.loop-call-preserved
loop-call-preserved g c =
    let p = c.try_call.ensures in
    let here = c.loop-call.invariant in (
      mix_next c.args.calls.now c.loop-call.call-index _ c.loop-call-test.true _ _ _ p.mix here.0,
      stems_next c.args.calls.now c.loop-call.call-index _ c.loop-call-test.true _ _ _ p.stems here.1,
      p.mix_loans ∙ here.2,
      p.stem_loans ∙ here.3,
    )

pub returns-clause-stems : goal.returns-clause-stems
returns-clause-stems g c = stems_all c.args.calls.now c.loop-call.call-index c.loop-call-test.false _ _ c.loop-call.invariant.1

pub returns-clause-throughout : goal.returns-clause-throughout
returns-clause-throughout g c = λ groups divides w. throughout groups divides c.args.calls.now _ _ w

pub returns-clause-law : goal.returns-clause-law
returns-clause-law g c = λ kind groups divides b. law kind groups divides c.args.calls.now _ _ b
