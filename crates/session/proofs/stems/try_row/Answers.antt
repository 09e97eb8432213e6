use Rattle.std.proofs.Common.{map, refl, ◌∙◌}
use Rattle.session.specs.Station.{model, held, tried}
use Rattle.session.proofs.Rows.{mapped_none, mapped_more, mapped_kept, mapped_whole}
use Rattle.session.proofs.stems.try_row.Goals as goal

pub loop-station-init : goal.loop-station-init
loop-station-init g c = (
  mapped_none (tried c.args.call) (map (model g.M.Source.bytes g.M.Store.takes) c.args.stations.now),
  refl,
)

pub loop-station-preserved : goal.loop-station-preserved
loop-station-preserved g c =
    let here = c.loop-station.invariant in (
      mapped_more (model g.M.Source.bytes g.M.Store.takes) (tried c.args.call) c.args.stations.now c.loop-station.station-index
          c.loop-station.stations _ _ c.loop-station-test.true c.try_call.ensures.values here.0,
      mapped_kept (held g.M.Store.borrows) c.args.stations.now c.loop-station.station-index c.loop-station.stations _ _ c.loop-station-test.true
          c.try_call.ensures.same_loans here.1,
    )

pub returns-clause-values : goal.returns-clause-values
returns-clause-values g c =
    c.loop-station.invariant.0
    ∙ mapped_whole (model g.M.Source.bytes g.M.Store.takes) (tried c.args.call) c.args.stations.now c.loop-station.station-index c.loop-station-test.false

pub returns-clause-same_loans : goal.returns-clause-same_loans
returns-clause-same_loans g c = c.loop-station.invariant.1
