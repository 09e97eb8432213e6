use Rattle.std.proofs.Common.{◌/◌, length, ◌∙◌, sym, subst}
use Rattle.trio.specs.Trio.{AddUp}
use Rattle.trio.proofs.Trio.{law, ticked_adds, over_rom}
use Rattle.trio.proofs.tick_over_rom.Goals as goal

pub returns-clause-rules : goal.returns-clause-rules
returns-clause-rules c =
    let parts = c.split_at.ensures in
    c.tick_after.ensures
    ∙ over_rom c.args.kind c.args.log.now c.args.calls.now 16384 16384 (length c.args.rom.now / 2) _ _ _ _ _ _ _ _ c.args.rom.now
    c.new.ensures.0 c.new-3.ensures.0 c.new-4.ensures.0 c.new-6.ensures.0 c.new-2.ensures c.new-5.ensures
    (c.new-7.ensures ∙ parts.front) (c.new-8.ensures ∙ parts.back)

pub returns-clause-adds : goal.returns-clause-adds
returns-clause-adds c =
    subst AddUp (sym (returns-clause-rules c)) (ticked_adds _ c.args.kind c.args.log.now c.args.calls.now)

pub returns-clause-law : goal.returns-clause-law
returns-clause-law c = law _ c.args.kind c.args.log.now c.args.calls.now
