use Rattle.std.proofs.Common.{◌≡◌, map}
use Rattle.session.specs.Station.{model, held, tried}
use Rattle.session.proofs.Rows.{mapped_to}
use Rattle.session.proofs.stems.try_row.Given as goal

-- the call was tried on the stations before this one, and all hold the loans that they held
abbrev pub invariant-loop-station : goal.invariant-loop-station
invariant-loop-station g l =
    let models = map (model g.M.Source.bytes g.M.Store.takes) in
    let loans = map (held g.M.Store.borrows) in
    (models l.stations ≡ mapped_to l.station-index (tried l.call) (models l.fn.stations))
    × (loans l.stations ≡ loans l.fn.stations)
