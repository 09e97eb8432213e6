-- A station: a chip with a player of a log, a frame and a buffer that its calls fill, and the latest answer, or none.
use Rattle.std.specs.Prelude.{ℕ, Bool, List, [], ◌∷◌, length, replicate, Option, None, Some, pos}
use Rattle.wave.specs.Memory.{Memory, Loan}
use Rattle.voice.specs.Frame.{Frame}
use Rattle.voice.specs.declared.frame.Converter.{Converter}
use Rattle.voice.specs.declared.frame.Side.{Side}
use Rattle.kind.specs.declared.Kind.{Kind}
use Rattle.chip.specs.Chip.{state}
use Rattle.chip.specs.Registers.{made}
use Rattle.chip.specs.Port.{State as ChipState}
use Rattle.calls.specs.Calls as chip-call
use Rattle.player.specs.Step as player
use Rattle.player.specs.Step.{Stand, Stepped, stand, step}
use Rattle.session.specs.Groups.{outside}
use Rattle.session.specs.declared.call.Call.{Call}
use Rattle.session.specs.declared.call.Call.TheVariants.{Chip, Step}
use Rattle.session.specs.declared.call.Answer.{Answer}
use Rattle.session.specs.declared.call.Answer.TheVariants as answered
use Rattle.session.specs.declared.station.Station.{Station}

-- a station by its values
pub record Model : Type 0 where
  pub log : List ℕ
  pub chip : ChipState
  pub player : Stand
  pub frame : Frame
  pub buffer : List ℕ
  pub answer : Option Answer

-- a station over a store of any make
abbrev pub model : {M : Type 0} → (M → List ℕ) → (M → ℕ → Bool) → Station M → Model
model bytes takes s =
    record {
      log = s.player.reader.log.now;
      chip = state bytes takes s.chip;
      player = stand s.player;
      frame = s.frame;
      buffer = s.buffer.now;
      answer = s.answer;
    }

-- a loan of which all is used
abbrev pub all_of : ℕ → Loan
all_of name = record { name = Some name; beyond = [] }

-- the loans that a station holds: its buffer's, and those of its memory
abbrev pub held : {M : Type 0} → (M → List Loan) → Station M → List Loan
held borrows s = all_of s.buffer.ghost_name ∷ borrows s.chip.memory

-- the frame before any tick
abbrev pub blank_side : Side
blank_side = record { contributions = replicate 8 (pos 0); total = pos 0; word = 0 }

abbrev pub blank : Frame
blank = record { left = blank_side; right = blank_side }

-- a new station for a group: its chip mutes the voices outside the group, and its player has taken no step
abbrev pub begun : ℕ → Kind → Converter → Memory → List ℕ → List ℕ → Model
begun group kind converter memory log buffer =
    record {
      log = log;
      chip = record { registers = made (record { kind = kind; converter = converter; mutes = outside group }); memory = memory };
      player = player.new;
      frame = blank;
      buffer = buffer;
      answer = None;
    }

abbrev pub after_step : Model → Stepped → Model
after_step s t =
    record {
      log = s.log;
      chip = t.chip;
      player = t.player;
      frame = player.framed s.frame t t.answer;
      buffer = s.buffer;
      answer = Some (answered.Step t.answer);
    }

-- a station after a call was tried on it
abbrev pub tried : Call → Model → Model
tried (Chip call) s =
    record {
      log = s.log;
      chip = chip-call.after call s.chip;
      player = s.player;
      frame = chip-call.framed call s.chip s.frame;
      buffer = chip-call.buffered call s.chip s.buffer;
      answer = Some (answered.Chip (chip-call.answer call (length s.buffer) s.chip));
    }
tried Step s = after_step s (step s.log s.chip s.player)

-- calls tried one by one
abbrev pub tried_all : List Call → Model → Model
tried_all [] s = s
tried_all (call ∷ rest) s = tried_all rest (tried call s)
