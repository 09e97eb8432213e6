use Rattle.std.proofs.Common.{refl}
use Rattle.soundings.proofs.Examples.{known}
use Rattle.soundings.proofs.control_log.Goals as goal

pub returns : goal.returns
returns c =
    let place = rw (c.new-reader.ensures.log, c.new-reader.ensures.place, known.control_record) at c.writes_control-written.ensures.place in
    let written = c.writes_control-written.ensures.written.1 (rw (place, c.new-reader.ensures.log, c.new-reader.ensures.place) known.control_record) in
    let ended = c.ends-ended.ensures.1 (rw (place, c.writes_control-written.ensures.log, c.new-reader.ensures.log) known.control_end) in
    rw (c.is_clocked-clocked.ensures.1 known.control_header, written, ended) refl
