-- A voice: where it stands and reads, what it contributes, and what a tick makes of it.
use Rattle.std.specs.Prelude.{ℕ, ◌+◌, ◌*◌, ◌/◌, ◌%◌, Bool, cond, List, map, ℤ, pos, neg_ℤ, ◌≤ℤ◌, Some, None, Option, ◌==◌, nat_lt, slice_index}
use Rattle.wave.specs.Search.{stop}
use Rattle.voice.specs.declared.voice.Settings.{Settings}
use Rattle.voice.specs.declared.stereo.Stereo.{Stereo}
use Rattle.voice.specs.declared.voice.Voice.{Voice}

-- Positions

-- how many positions there are: they have 27 bits
abbrev pub positions : ℕ
positions = 134217728

-- how many of them one place of the memory has: 11 bits are fraction
abbrev pub span : ℕ
span = 2048

-- how many of them lie from one start to the next
abbrev pub start_span : ℕ
start_span = 524288

-- FD, by which a position advances in a tick
abbrev pub step : Settings → ℕ
step s = s.fdh * 256 + s.fdl

-- where a voice at rest stands
abbrev pub start : Settings → ℕ
start s = s.st * start_span

-- where a voice goes on that has read a stop byte
abbrev pub loop_start : Settings → ℕ
loop_start s = (s.lsh * 256 + s.lsl) * span

-- where a voice stands
abbrev pub position : Settings → Option ℕ → ℕ
position s None = start s
position s (Some p) = p % positions

-- where a tick reads first: a voice at rest has not read yet, so it does not advance
abbrev pub onward : Settings → Option ℕ → ℕ
onward s None = start s
onward s (Some p) = (p + step s) % positions

-- the place of the memory that a position is in
abbrev pub place : ℕ → ℕ
place p = p / span

-- the byte at a position, 0 past the end
abbrev pub look : List ℕ → ℕ → ℕ
look bytes p = slice_index bytes (place p)

-- where a tick ends that reads first at a position: a stop byte there leads to the loop start
abbrev pub landing : List ℕ → Settings → ℕ → ℕ
landing bytes s p = cond (look bytes p == stop) (loop_start s) p

-- Contributions

-- what a voice contributes to each side
abbrev pub Contribution : Type 0
Contribution = Stereo ℤ

-- a byte's low seven bits, at an envelope and a share, one half of the pan byte
abbrev pub product : ℕ → ℕ → ℕ → ℕ
product b env c = b % 128 * env * c

-- the size of what it gives to a side: five bits are dropped
abbrev pub size : ℕ → ℕ → ℕ → ℕ
size b env c = product b env c / 32

-- the size counts minus below 80H
abbrev pub level : ℕ → ℕ → ℕ → ℤ
level b env c = cond (nat_lt b 128) (neg_ℤ (pos (size b env c))) (pos (size b env c))

-- what a voice contributes that has landed on a byte, be it another stop byte
abbrev pub heard : Settings → ℕ → Contribution
heard s b = record { left = level b s.env (s.pan % 16); right = level b s.env (s.pan / 16) }

-- the latest contributions of voices
abbrev pub latest : List Voice → List Contribution
latest voices = map (λ v. v.latest) voices

abbrev pub silence : Contribution
silence = record { left = pos 0; right = pos 0 }

-- the largest size
abbrev pub loudest : ℕ
loudest = 15180

abbrev pub Within : ℤ → Type 0
Within z = (neg_ℤ (pos loudest) ≤ℤ z) × (z ≤ℤ pos loudest)

abbrev pub Bounded : Contribution → Type 0
Bounded x = Within x.left × Within x.right

-- Ticks

-- a new voice
abbrev pub fresh : Voice
fresh =
    record {
      settings = record { env = 0; pan = 0; fdl = 0; fdh = 0; lsl = 0; lsh = 0; st = 0 };
      phase = None;
      latest = silence;
    }

-- a voice that has landed at a position
abbrev pub landed : List ℕ → Settings → ℕ → Voice
landed bytes s p = record { settings = s; phase = Some p; latest = heard s (look bytes p) }

-- a voice that is on
unfoldable pub sounded : List ℕ → Voice → Voice
sounded bytes v = landed bytes v.settings (landing bytes v.settings (onward v.settings v.phase))

-- a voice that is off: put at rest
abbrev pub silent : Voice → Voice
silent v = record { settings = v.settings; phase = None; latest = silence }

-- a voice over one tick
abbrev pub tick : List ℕ → Bool → Voice → Voice
tick bytes on v = cond on (sounded bytes v) (silent v)
