use Rattle.std.proofs.Common.{refl}
use Rattle.soundings.proofs.Examples.{used_seven}
use Rattle.soundings.proofs.skipped.Goals as goal

pub returns : goal.returns
returns c =
    let first = rw (c.new-voice.ensures, used_seven) at c.ticked-first.ensures.voice in
    let second = rw (first, used_seven) at c.ticked-second.ensures.voice in
    let third = rw (second, used_seven) at c.ticked-third.ensures.voice in
    let fourth = rw (third, used_seven) at c.ticked.ensures.voice in
    rw (c.ticked-first.ensures.heard, c.ticked-second.ensures.heard, c.ticked-third.ensures.heard, c.ticked.ensures.heard, first, second, third, fourth) refl
