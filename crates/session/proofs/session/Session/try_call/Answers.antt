use Rattle.session.proofs.Laws.{still, together}
use Rattle.session.proofs.session.Session.try_call.Goals as goal

pub returns-clause-kept : goal.returns-clause-kept
returns-clause-kept g c = λ groups divides w.
    rw (c.try_call.ensures.values, c.try_each.ensures.values) (still groups divides c.args.call _ _ w)

pub returns-clause-together : goal.returns-clause-together
returns-clause-together g c = λ groups divides w.
    rw (c.try_call.ensures.values, c.try_each.ensures.values) (together groups divides c.args.call _ _ w)
