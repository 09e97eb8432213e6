-- The text that `stem` prints for an input.
use Rattle.std.specs.Prelude.{ℕ, List, ◌++◌, replicate, Ok, Err, Result, codes}
use Rattle.wave.specs.Lent.{ram}
use Rattle.wave.specs.Board as wave
use Rattle.voice.specs.declared.frame.Converter.TheVariants.{Bits16}
use Rattle.kind.specs.declared.Kind.{Kind}
use Rattle.chip.specs.Port.{State as ChipState}
use Rattle.chip.specs.Registers.{made}
use Rattle.register_log.specs.Header.{header}
use Rattle.player.specs.Step.{new}
use Rattle.job.specs.Job as job
use Rattle.job.specs.Job.{Work, work}
use Rattle.job.specs.declared.Refusal.{Refusal}
use Rattle.render.specs.Text.{text}

-- the bytes of a new RAM
unfoldable pub zeros : List ℕ
zeros = replicate 32768 0

-- a new chip over a board of two RAMs that have these bytes
abbrev pub chip : List ℕ → List ℕ → Kind → ℕ → ChipState
chip first second kind mutes =
    record {
      registers = made (record { kind = kind; converter = Bits16; mutes = mutes });
      memory = wave.board (ram first) (ram second);
    }

-- a log is played on a chip of its header's kind, or on an RF5C68A where the header is refused
abbrev pub played_over : List ℕ → List ℕ → Work → List ℕ
played_over first second w = text w.log (chip first second (job.kind (header w.log)) w.mutes) new

abbrev pub played : Work → List ℕ
played w = played_over zeros zeros w

abbrev pub answered : Result Work Refusal → List ℕ
answered (Ok w) = played w
answered (Err refusal) = job.text refusal ++ codes "\n"

abbrev pub printed : List ℕ → List ℕ
printed input = answered (work input)
