use Rattle.std.proofs.Common.{◌≡◌, drop}
use Rattle.chip.specs.Chip.{state}
use Rattle.calls.specs.Calls.{after_all, framed_all, buffered_all}
use Rattle.calls.proofs.run.Given as goal

-- the rest of the list leads to where the whole list leads
abbrev pub invariant-loop-call : goal.invariant-loop-call
invariant-loop-call g l =
    let before = state g.M.Source.bytes g.M.Store.takes l.initial.chip in
    let now = state g.M.Source.bytes g.M.Store.takes l.chip in
    let rest = drop l.call-index l.calls in
    (after_all rest now ≡ after_all l.calls before)
    × (framed_all rest now l.frame ≡ framed_all l.calls before l.initial.frame)
    × (buffered_all rest now l.buffer ≡ buffered_all l.calls before l.initial.buffer)
    × (g.M.Store.borrows l.chip.memory ≡ g.M.Store.borrows l.initial.chip.memory)
