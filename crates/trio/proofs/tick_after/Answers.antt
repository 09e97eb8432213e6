use Rattle.std.proofs.Common.{[], ◌∷◌, map, ap, ap₂, ◌∙◌, arith}
use Rattle.session.specs.Station.{tried, tried_all}
use Rattle.trio.specs.Trio.{tick}
use Rattle.trio.proofs.Trio.{granted}
use Rattle.trio.proofs.tick_after.Goals as goal

pub returns-in-Some-Chip-Ok-None : goal.returns-in-Some-Chip-Ok-None
returns-in-Some-Chip-Ok-None g c =
    let calls = c.args.calls.now in
    let listed = c.try_calls.ensures in
    let ticked = c.try_call.ensures in
    let stems = ap₂ (λ l h. map (tried_all calls) (l ∷ h ∷ [])) c.new-2.ensures.values c.new-3.ensures.values in
    rw (c.totals.ensures, c.totals-in-Some-Chip-Ok-None.ensures, c.totals-in-Some-Chip-Ok-None-2.ensures)
    (granted _ _ _ c.args.kind c.args.log.now calls _ _ _
    (ticked.mix ∙ ap (tried tick) (listed.mix ∙ ap (tried_all calls) c.new.ensures.values))
    (ticked.stems ∙ ap (map (tried tick)) (listed.stems ∙ stems))
    (grind (arith, c.in-Some-Chip-Ok-None.is)))
