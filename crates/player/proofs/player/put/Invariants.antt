use Rattle.std.proofs.Common.{◌≡◌, ℕ, ◌+◌, drop}
use Rattle.chip.specs.Chip.{state}
use Rattle.player.specs.Step.{put}
use Rattle.player.proofs.player.put.Given as goal

-- what is left to write comes to the same
abbrev pub invariant-loop-byte : goal.invariant-loop-byte
invariant-loop-byte g l =
    (l.address ≡ l.first + l.byte-index)
    × ((place : ℕ) →
    put (drop l.byte-index l.bytes) l.address l.bit place (state g.M.Source.bytes g.M.Store.takes l.chip)
    ≡ put l.bytes l.first l.bit place (state g.M.Source.bytes g.M.Store.takes l.fn.chip))
    × (g.M.Store.borrows l.chip.memory ≡ g.M.Store.borrows l.fn.chip.memory)
