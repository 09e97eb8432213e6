use Rattle.std.proofs.Common.{◌≡◌, ℕ, List, [], ◌∙◌}
use Rattle.wave.specs.Memory.{Alike}
use Rattle.wave.specs.Lent.{ram, rom}
use Rattle.wave.specs.Board.{board}
use Rattle.wave.proofs.Joins.{alike_with_none}
use Rattle.tour.proofs.memories.ram_beside_board.Goals as goal

over_same : (a b d lent : List ℕ) → a ≡ lent → b ≡ lent → d ≡ [] → Alike (ram a) (board (ram b) (rom d))
over_same a b d lent p q r = rw (p, q, r) (alike_with_none lent)

pub returns : goal.returns
returns c = λ same.
    (c.answer_alike.ensures.law
    (over_same _ _ _ c.args.other.now (c.new-ram.ensures.0 ∙ same) c.new.ensures.0 c.new-2.ensures)).0
