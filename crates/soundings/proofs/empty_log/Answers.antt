use Rattle.std.proofs.Common.{refl}
use Rattle.soundings.proofs.Examples.{known}
use Rattle.soundings.proofs.empty_log.Goals as goal

pub returns : goal.returns
returns c =
    let ended = c.ends-ended.ensures.1 (rw (c.new-reader.ensures.log, c.new-reader.ensures.place) known.empty_end) in
    rw (c.is_clocked-clocked.ensures.1 known.empty_header, ended) refl
