-- The first clip of a list of totals, one pair of them to a tick.
use Rattle.std.specs.Prelude.{ℕ, ◌+◌, ◌<◌, Bool, ◌||◌, if◌then◌else◌, List, [], ◌∷◌, length, ℤ, pos, int_lt, Some, None, Option, IsTrue, slice_index_or}
use Rattle.voice.specs.Frame.{lowest, highest}
use Rattle.voice.specs.Stereo.{of_side}
use Rattle.voice.specs.declared.stereo.SideName.{SideName}
use Rattle.voice.specs.declared.stereo.SideName.TheVariants.{Left, Right}
use Rattle.voice.specs.declared.stereo.Stereo.{Stereo}

-- a total outside the range of a limited one
abbrev pub clips : ℤ → Bool
clips total = int_lt total lowest || int_lt highest total

-- a clip, counted with one pair more before it
abbrev pub one_later : Option (ℕ × SideName) → Option (ℕ × SideName)
one_later None = None
one_later (Some at) = Some (at.0 + 1, at.1)

-- the first total that clips, by its pair and its side, left before right, or none
unfoldable pub first_clip : List (Stereo ℤ) → Option (ℕ × SideName)
first_clip [] = None
first_clip (both ∷ rest) =
    if clips both.left then Some (0, Left)
    else (if clips both.right then Some (0, Right)
    else one_later (first_clip rest))

-- the left total of a pair comes before the right one
abbrev pub order : SideName → ℕ
order Left = 0
order Right = 1

-- the pair past the end of a list
abbrev pub silent_pair : Stereo ℤ
silent_pair = record { left = pos 0; right = pos 0 }

-- the total of one side clips in one pair
abbrev pub ClipsAt : List (Stereo ℤ) → ℕ → SideName → Type 0
ClipsAt totals pair side = IsTrue (clips (of_side side (slice_index_or totals pair silent_pair)))

-- none of the first sides of a pair clips
abbrev pub ClearSides : List (Stereo ℤ) → ℕ → ℕ → Type 0
ClearSides totals pair to = (side : SideName) → order side < to → ClipsAt totals pair side → ⊥

-- neither side of the first pairs clips
abbrev pub ClearPairs : List (Stereo ℤ) → ℕ → Type 0
ClearPairs totals to = (pair : ℕ) → pair < to → ClearSides totals pair 2

-- The law of the search: what is found clips, and nothing before it does; if none is found, nothing clips.
abbrev pub FirstClip : List (Stereo ℤ) → Option (ℕ × SideName) → Type 0
FirstClip totals (Some at) =
    (at.0 < length totals)
    × ClipsAt totals at.0 at.1
    × ClearPairs totals at.0
    × ClearSides totals at.0 (order at.1)
FirstClip totals None = ClearPairs totals (length totals)
