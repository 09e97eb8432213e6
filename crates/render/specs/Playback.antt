-- A playback over a store of any make, by the text that it still has, and by the steps that bring it from one state to another.
use Rattle.std.specs.Prelude.{ℕ, Bool, List}
use Rattle.chip.specs.Chip.{state}
use Rattle.player.specs.Step.{stand}
use Rattle.render.specs.Text.{text}
use Rattle.render.specs.Steps.{Reaches, reached}
use Rattle.render.specs.declared.playback.Playback.{Playback}

abbrev pub rest : {M : Type 0} → (M → List ℕ) → (M → ℕ → Bool) → Playback M → List ℕ
rest bytes takes s = text s.player.reader.log.now (state bytes takes s.chip) (stand s.player)

-- steps of its player lead from an old playback to a new one, and a piece is the lines of the ticks among them
abbrev pub PlaysOn : {M : Type 0} → (M → List ℕ) → (M → ℕ → Bool) → Playback M → Playback M → List ℕ → Type 0
PlaysOn bytes takes old new piece =
    Reaches old.player.reader.log.now (state bytes takes old.chip) (stand old.player) (reached (state bytes takes new.chip) (stand new.player) piece)
