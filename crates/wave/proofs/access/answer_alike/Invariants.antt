use Rattle.std.proofs.Common.{◌≡◌, take}
use Rattle.wave.specs.Means.{means}
use Rattle.wave.specs.Access.{Compared}
use Rattle.wave.proofs.access.answer_alike.Given as goal

abbrev pub invariant-loop-access : goal.invariant-loop-access
invariant-loop-access g l =
    Compared
    (means g.M.Source.bytes g.M.Store.takes l.initial.first)
    (means g.N.Source.bytes g.N.Store.takes l.initial.second)
    (take l.access-index l.accesses)
    l.alike
    (means g.M.Source.bytes g.M.Store.takes l.first)
    (means g.N.Source.bytes g.N.Store.takes l.second)
    × (g.M.Store.borrows l.first ≡ g.M.Store.borrows l.initial.first)
    × (g.N.Store.borrows l.second ≡ g.N.Store.borrows l.initial.second)
