-- What there is once for each side.
use Rattle.voice.specs.declared.stereo.SideName.{SideName}
use Rattle.voice.specs.declared.stereo.SideName.TheVariants.{Left, Right}
use Rattle.voice.specs.declared.stereo.Stereo.{Stereo}

abbrev pub of_side : {T : Type 0} → SideName → Stereo T → T
of_side Left x = x.left
of_side Right x = x.right
