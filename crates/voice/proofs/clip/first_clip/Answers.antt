use Rattle.std.proofs.Common.{rules, [], ◌∷◌, slice_index_or, None, Some}
use Rattle.voice.specs.Clip.{FirstClip}
use Rattle.voice.specs.declared.stereo.SideName.{SideName}
use Rattle.voice.specs.declared.stereo.SideName.TheVariants.{Left, Right}
use Rattle.voice.proofs.Clips.{is_first_clip}
use Rattle.voice.proofs.clip.first_clip.Goals as goal

pub returns-then-clips-clause-exact : goal.returns-then-clips-clause-exact
returns-then-clips-clause-exact c =
    let side : SideName = slice_index_or (Left ∷ Right ∷ []) c.loop-side.side-index Left in
    let told : FirstClip c.args.totals.now (Some (c.loop-pair.pair, side)) = search rules in
    is_first_clip c.args.totals.now (Some (c.loop-pair.pair, side)) told

pub returns-after-loop-pair-clause-exact : goal.returns-after-loop-pair-clause-exact
returns-after-loop-pair-clause-exact c =
    let told : FirstClip c.args.totals.now None = search rules in
    is_first_clip c.args.totals.now None told
