-- FD for a tone.
use Rattle.std.specs.Prelude.{ℕ, ◌*◌, ◌/◌, Bool, cond, ◌&&◌, Ok, Err, Result, nat_le}
use Rattle.pitch.specs.declared.Refusal.{Refusal}
use Rattle.pitch.specs.declared.Refusal.TheVariants.{OutOfRange, TooHigh}
use Rattle.pitch.specs.declared.Tone.{Tone}

-- the number of each refusal
abbrev pub number : Refusal → ℕ
number OutOfRange = 14
number TooHigh = 15

-- a frequency up to 20,000 Hz, a clock that a chip may have, and a cycle within the wave memory
abbrev pub in_range : Tone → Bool
in_range t = nat_le t.frequency 2000000 && nat_le 1 t.clock && nat_le t.clock 12520000 && nat_le 1 t.words && nat_le t.words 65536

-- A tick is 384 clocks, and a place 2,048 steps of a position. A cycle is played so many times a second, in hundredths, and
-- goes over so many words each time.
abbrev pub exact : Tone → ℕ
exact t = t.frequency * 786432 * t.words / (100 * t.clock)

abbrev pub fd : Tone → Result ℕ Refusal
fd t = cond (in_range t) (cond (nat_le (exact t) 65535) (Ok (exact t)) (Err TooHigh)) (Err OutOfRange)
