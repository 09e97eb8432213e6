-- Frames: contributions, totals, the limiter and the converters.
use Rattle.std.specs.Prelude.{ℕ, ◌+◌, ◌-◌, ◌/◌, cond, List, [], ◌∷◌, map, ℤ, pos, negsuc, ◌+ℤ◌, neg_ℤ, ◌≤ℤ◌, int_lt}
use Rattle.std.specs.List.{AllByRecursion}
use Rattle.voice.specs.Stereo.{of_side}
use Rattle.voice.specs.Voice.{Contribution, latest, Within, Bounded}
use Rattle.voice.specs.declared.voice.Voice.{Voice}
use Rattle.voice.specs.declared.frame.Converter.{Converter}
use Rattle.voice.specs.declared.frame.Converter.TheVariants.{Bits16, Bits10, Bits8}
use Rattle.voice.specs.declared.frame.Side.{Side}
use Rattle.voice.specs.declared.stereo.SideName.{SideName}
use Rattle.voice.specs.declared.stereo.SideName.TheVariants.{Left, Right}
use Rattle.voice.specs.declared.stereo.Stereo.{Stereo}

-- contributions to one side
abbrev pub side_contributions : SideName → List Contribution → List ℤ
side_contributions name list = map (λ c. of_side name c) list

-- the latest contributions of voices to one side
abbrev pub contributions : SideName → List Voice → List ℤ
contributions name voices = side_contributions name (latest voices)

-- the exact sum
abbrev pub sum : List ℤ → ℤ
sum [] = pos 0
sum (x ∷ xs) = x +ℤ sum xs

-- the range of a limited total
abbrev pub lowest : ℤ
lowest = negsuc 32767

abbrev pub highest : ℤ
highest = pos 32767

-- the limiter brings a total into that range
abbrev pub limited : ℤ → ℤ
limited t = cond (int_lt t lowest) lowest (cond (int_lt highest t) highest t)

-- a level in two's complement of 16 bits
abbrev pub twos : ℤ → ℕ
twos (pos n) = n
twos (negsuc n) = 65535 - n

-- a level counted from the lowest
abbrev pub height : ℤ → ℕ
height (pos n) = n + 32768
height (negsuc n) = 32767 - n

-- the word of a converter
abbrev pub word : Converter → ℤ → ℕ
word Bits16 v = twos v
word Bits10 v = height v / 64
word Bits8 v = height v / 256

-- one side of a frame: limited once, after the sum
abbrev pub side : Converter → List ℤ → Side
side k xs = record { contributions = xs; total = sum xs; word = word k (limited (sum xs)) }

abbrev pub Frame : Type 0
Frame = Stereo Side

-- the frame of what eight voices contribute
abbrev pub frame_of : Converter → List Contribution → Frame
frame_of k list = record { left = side k (side_contributions Left list); right = side k (side_contributions Right list) }

abbrev pub frame : Converter → List Voice → Frame
frame k voices = frame_of k (latest voices)

-- the totals of a frame, before the limiter
abbrev pub totals : Frame → Stereo ℤ
totals f = record { left = f.left.total; right = f.right.total }

-- Ranges

-- the largest size of a total: eight times the largest of a contribution
abbrev pub fullest : ℕ
fullest = 121440

abbrev pub TotalWithin : ℤ → Type 0
TotalWithin z = (neg_ℤ (pos fullest) ≤ℤ z) × (z ≤ℤ pos fullest)

abbrev pub AllWithin : List ℤ → Type 0
AllWithin xs = AllByRecursion Within xs

abbrev pub AllBounded : List Contribution → Type 0
AllBounded list = AllByRecursion Bounded list

-- each voice's latest contribution is in range
abbrev pub VoicesBounded : List Voice → Type 0
VoicesBounded voices = AllByRecursion (λ v. Bounded v.latest) voices

-- a side whose contributions and total are in range
abbrev pub RangedSide : Side → Type 0
RangedSide s = AllWithin s.contributions × TotalWithin s.total

abbrev pub Ranged : Frame → Type 0
Ranged f = RangedSide f.left × RangedSide f.right
