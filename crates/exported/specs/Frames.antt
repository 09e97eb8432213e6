-- What a tick sounds like, as C sees it.
use Rattle.voice.specs.Frame.{Frame as VoiceFrame}
use Rattle.voice.specs.declared.frame.Side.{Side as VoiceSide}
use Rattle.exported.specs.declared.frames.Side.{Side}
use Rattle.exported.specs.declared.frames.Frame.{Frame}
use Rattle.exported.specs.declared.frames.Totals.{Totals}
use Rattle.exported.specs.declared.frames.Words.{Words}

abbrev pub side_of : VoiceSide → Side
side_of s = record { contributions = s.contributions; total = s.total; word = s.word }

abbrev pub frame_of : VoiceFrame → Frame
frame_of f = record { left = side_of f.left; right = side_of f.right }

abbrev pub totals_of : VoiceFrame → Totals
totals_of f = record { left = f.left.total; right = f.right.total }

abbrev pub words_of : VoiceFrame → Words
words_of f = record { left = f.left.word; right = f.right.word }
