use Rattle.std.proofs.Common.{rules, ◌≡◌, sym, subst}
use Rattle.voice.specs.Frame.{frame_of, Frame, Ranged}
use Rattle.voice.proofs.Sums.{frame_ranged}
use Rattle.voice.proofs.frame.Stereo+Side.new.Goals as goal

pub returns-clause-ranged : goal.returns-clause-ranged
returns-clause-ranged c =
    let frame : Frame = record { left = c.new_side.result; right = c.new_side-2.result } in
    let exact : frame ≡ frame_of c.args.converter c.args.contributions.now = search rules in
    λ h. subst Ranged (sym exact) (frame_ranged c.args.converter c.args.contributions.now c.told-contributions h)
