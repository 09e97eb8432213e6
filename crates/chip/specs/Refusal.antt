-- Why a chip refuses a call.
use Rattle.std.specs.Prelude.{ℕ}
use Rattle.wave.specs.Memory.{number as memory-number}
use Rattle.chip.specs.declared.refusal.Refusal.{Refusal}
use Rattle.chip.specs.declared.refusal.Refusal.TheVariants.{MemorySize, BeyondPort, NothingThere, Sounding, PastWindow, Memory}

abbrev pub number : Refusal → ℕ
number MemorySize = 1
number BeyondPort = 2
number NothingThere = 3
number Sounding = 4
number PastWindow = 13
number (Memory refusal) = memory-number refusal
