-- What the makers' rules give in examples.
use Rattle.std.specs.Prelude.{◌≡◌, ◌≢◌, ℕ, zero, suc, ◌+◌, ◌-◌, ◌*◌, ◌/◌, ◌%◌, ◌<◌, true, List, [], ◌∷◌, ◌++◌, replicate, None, Some, Ok, ℤ, pos, neg_ℤ, slice_index}
use Rattle.wave.specs.Search.{stop}
use Rattle.voice.specs.Frame.{limited, word, sum, contributions}
use Rattle.voice.specs.Voice.{Contribution, heard, silence, fresh, step, loop_start, onward, position, positions, place, span, tick}
use Rattle.voice.specs.declared.frame.Converter.TheVariants.{Bits16, Bits10, Bits8}
use Rattle.voice.specs.declared.stereo.SideName.TheVariants.{Left}
use Rattle.voice.specs.declared.voice.Settings.{Settings}
use Rattle.voice.specs.declared.voice.Voice.{Voice}
use Rattle.kind.specs.declared.Kind.TheVariants.{Rf5c68a}
use Rattle.register_log.specs.Header.{header, records_start}
use Rattle.register_log.specs.Reading.{end, found, decode}
use Rattle.register_log.specs.Record.{register}
use Rattle.register_log.specs.declared.header.Header.{Header}
use Rattle.pitch.specs.Pitch.{fd}

-- settings of a voice: envelope and pan, a step, or a start
abbrev pub loud : ℕ → ℕ → Settings
loud env pan = record { env = env; pan = pan; fdl = 0; fdh = 0; lsl = 0; lsh = 0; st = 0 }

abbrev pub moving : ℕ → ℕ → Settings
moving fdh fdl = record { env = 0; pan = 0; fdl = fdl; fdh = fdh; lsl = 0; lsh = 0; st = 0 }

abbrev pub starting : ℕ → Settings
starting st = record { env = 0; pan = 0; fdl = 0; fdh = 0; lsl = 0; lsh = 0; st = st }

-- a voice at a position, and the place that a voice stands in
abbrev pub standing : Settings → ℕ → Voice
standing s p = record { settings = s; phase = Some p; latest = silence }

abbrev pub stands_in : Voice → ℕ
stands_in v = place (position v.settings v.phase)

-- how many places a voice can stand in, and the one so many further on; behind the last comes the first
abbrev pub places : ℕ
places = positions / span

abbrev pub further : ℕ → ℕ → ℕ
further n at = (at + n) % places

-- a voice stands in a place, and contributes what the byte there gives it
abbrev pub ReadAt : List ℕ → Settings → ℕ → Voice → Type 0
ReadAt bytes s at v = (stands_in v ≡ at) × (v.latest ≡ heard s (slice_index bytes at))

-- where a voice stands and what it contributes after each of so many ticks
abbrev pub heard_at : ℕ → List ℕ → Voice → List (ℕ × Contribution)
heard_at zero bytes v = []
heard_at (suc n) bytes v = let next : Voice = tick bytes true v in (stands_in next, next.latest) ∷ heard_at n bytes next

-- seven bytes that differ and a stop byte, and a voice that goes over them by three places a tick, to loop from place 2
abbrev pub seven : List ℕ
seven = 129 ∷ 130 ∷ 131 ∷ 132 ∷ 133 ∷ 134 ∷ 135 ∷ 255 ∷ []

abbrev pub skipping : Settings
skipping = record { env = 255; pan = 255; fdl = 0; fdh = 24; lsl = 2; lsh = 0; st = 0 }

abbrev pub both : ℤ → Contribution
both z = record { left = z; right = z }

-- eight voices, of which so many contributed -15,180 at last, and the others nothing
abbrev pub lowest : Voice
lowest = record { settings = loud 255 255; phase = Some 0; latest = both (neg_ℤ (pos 15180)) }

abbrev pub lowest_of_eight : ℕ → List Voice
lowest_of_eight n = replicate n lowest ++ replicate (8 - n) fresh

abbrev pub total : List Voice → ℤ
total voices = sum (contributions Left voices)

-- a log with nothing but its end, and one that writes C0H to register 7
abbrev pub empty_log : List ℕ
empty_log = 16 ∷ 152 ∷ 150 ∷ 128 ∷ 0 ∷ []

abbrev pub control_log : List ℕ
control_log = 16 ∷ 152 ∷ 150 ∷ 128 ∷ 47 ∷ 128 ∷ 0 ∷ []

abbrev pub clocked : Header
clocked = record { kind = Rf5c68a; clock = 10000000 }

pub record Known : Type 0 where
  -- a byte at an envelope and a pan
  pub loudest : heard (loud 255 255) 254 ≡ both (pos 15060)
  pub lowest : heard (loud 255 255) 127 ≡ both (neg_ℤ (pos 15180))
  pub silent_above : heard (loud 255 255) 128 ≡ silence
  pub silent_below : heard (loud 255 255) 0 ≡ silence
  pub panned : heard (loud 128 18) 192 ≡ record { left = pos 512; right = pos 256 }
  -- voices together, before the limiter and behind it
  pub two : total (lowest_of_eight 2) ≡ neg_ℤ (pos 30360)
  pub two_limited : limited (total (lowest_of_eight 2)) ≡ neg_ℤ (pos 30360)
  pub three : total (lowest_of_eight 3) ≡ neg_ℤ (pos 45540)
  pub three_limited : limited (total (lowest_of_eight 3)) ≡ neg_ℤ (pos 32768)
  -- positions
  pub round : onward (moving 0 1) (Some 134217727) ≡ 0
  pub at_rest : position (starting 18) None ≡ 9437184
  pub at_rest_place : place (position (starting 18) None) ≡ 4608
  -- a tick by three places goes that far on from where the voice stands, and reads there
  pub three_places :
      (bytes : List ℕ) (s : Settings) (p : ℕ) → step s ≡ 3 * span → let read : ℕ = further 3 (stands_in (standing s p)) in
      slice_index bytes read ≢ stop →
      ReadAt bytes s read (tick bytes true (standing s p))
  -- or, where it meets a stop byte there, reads at the loop start
  pub three_places_to_stop :
      (bytes : List ℕ) (s : Settings) (p again : ℕ) → step s ≡ 3 * span → loop_start s ≡ again * span → again < places →
      slice_index bytes (further 3 (stands_in (standing s p))) ≡ stop →
      ReadAt bytes s again (tick bytes true (standing s p))
  -- from place 65,534 round to 1, to 4, to the stop byte in 7 and the loop start, and to 5
  pub skipped :
      heard_at 4 seven (standing skipping (65534 * span))
      ≡ (1, both (pos 239)) ∷ (4, both (pos 597)) ∷ (2, both (pos 358)) ∷ (5, both (pos 717)) ∷ []
  -- the words of no sound
  pub word_of_16 : word Bits16 (pos 0) ≡ 0
  pub word_of_10 : word Bits10 (pos 0) ≡ 512
  pub word_of_8 : word Bits8 (pos 0) ≡ 128
  -- logs
  pub empty_header : header empty_log ≡ Ok clocked
  pub empty_end : decode empty_log records_start ≡ Ok end
  pub control_header : header control_log ≡ Ok clocked
  pub control_record : decode control_log records_start ≡ Ok (found (register 7 192) (records_start + 15))
  pub control_end : decode control_log (records_start + 15) ≡ Ok end
  -- pitches
  pub concert : fd (record { frequency = 44000; clock = 10000000; words = 256 }) ≡ Ok 8858
  pub deep : fd (record { frequency = 3889; clock = 10000000; words = 256 }) ≡ Ok 782
