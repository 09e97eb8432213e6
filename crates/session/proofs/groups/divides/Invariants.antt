use Rattle.std.proofs.Common.{◌≡◌, ℕ, ◌<◌}
use Rattle.session.specs.Groups.{holders}
use Rattle.session.proofs.groups.divides.Given as goal

-- so far each voice is in one group
abbrev pub invariant-loop-k : goal.invariant-loop-k
invariant-loop-k l = (j : ℕ) → j < l.k → holders l.groups j ≡ 1
