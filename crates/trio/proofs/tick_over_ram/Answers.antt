use Rattle.std.proofs.Common.{◌∙◌, sym, subst}
use Rattle.trio.specs.Trio.{AddUp}
use Rattle.trio.proofs.Trio.{law, ticked_adds, over_ram}
use Rattle.trio.proofs.tick_over_ram.Goals as goal

pub returns-clause-rules : goal.returns-clause-rules
returns-clause-rules c =
    c.tick_after.ensures
    ∙ over_ram c.args.kind c.args.log.now c.args.calls.now 32768 32768 _ _ _ _ _ c.new-5.ensures.0 c.new.ensures.0 c.new-2.ensures.0 c.new-3.ensures.0
    c.new-4.ensures

pub returns-clause-adds : goal.returns-clause-adds
returns-clause-adds c =
    subst AddUp (sym (returns-clause-rules c)) (ticked_adds _ c.args.kind c.args.log.now c.args.calls.now)

pub returns-clause-law : goal.returns-clause-law
returns-clause-law c = law _ c.args.kind c.args.log.now c.args.calls.now
