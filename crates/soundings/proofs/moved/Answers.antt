use Rattle.std.proofs.Common.{ap, ◌∙◌}
use Rattle.voice.specs.Voice.{position}
use Rattle.soundings.specs.Known.{moving}
use Rattle.soundings.proofs.Examples.{moved}
use Rattle.soundings.proofs.moved.Goals as goal

pub returns : goal.returns
returns c =
    c.position.ensures.exact
    ∙ ap (λ v. position v.settings v.phase) c.tick.ensures.exact
    ∙ rw c.new-voice.ensures (moved (moving c.args.fdh c.args.fdl) c.args.from _ _ c.new.ensures)
