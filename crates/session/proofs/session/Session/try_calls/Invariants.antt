use Rattle.std.proofs.Common.{◌≡◌, drop, map}
use Rattle.session.specs.Station.{model, held, tried_all}
use Rattle.session.proofs.session.Session.try_calls.Given as goal

-- the rest of the calls leads to where all of them lead, and all stations hold the loans that they held
abbrev pub invariant-loop-call : goal.invariant-loop-call
invariant-loop-call g l =
    let rest = drop l.call-index l.calls in
    (tried_all rest (model g.M.Source.bytes g.M.Store.takes l.self.mix)
    ≡ tried_all l.calls (model g.M.Source.bytes g.M.Store.takes l.initial.self.mix))
    × (map (tried_all rest) (g.S.Stems.models l.self.stems)
    ≡ map (tried_all l.calls) (g.S.Stems.models l.initial.self.stems))
    × (held g.M.Store.borrows l.self.mix ≡ held g.M.Store.borrows l.initial.self.mix)
    × (g.S.Stems.loans l.self.stems ≡ g.S.Stems.loans l.initial.self.stems)
