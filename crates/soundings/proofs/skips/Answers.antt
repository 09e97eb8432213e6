use Rattle.std.proofs.Common.{refl, ◌∙◌}
use Rattle.soundings.proofs.Examples.{known}
use Rattle.soundings.proofs.skips.Goals as goal

pub returns : goal.returns
returns c =
    let heard = c.skipped.ensures ∙ known.skipped in
    rw (c.eq.ensures, heard, c.both.ensures, c.both-2.ensures, c.both-3.ensures, c.both-4.ensures) refl
