-- A player's fault: its number, layer, bit and host address.
use Rattle.std.specs.Prelude.{ℕ, List, Some, None, codes}
use Rattle.chip.specs.Refusal.{number as chip-number}
use Rattle.chip.specs.declared.refusal.Refusal.{Refusal}
use Rattle.chip.specs.declared.refusal.Refusal.TheVariants.{MemorySize, BeyondPort, NothingThere, Sounding, PastWindow, Memory}
use Rattle.register_log.specs.Fault.{number as log-number}
use Rattle.player.specs.declared.fault.Fault.{Fault}
use Rattle.player.specs.declared.fault.Fault.TheVariants.{Log, Chip}

abbrev pub number : Fault → ℕ
number (Log fault place) = log-number fault
number (Chip refusal place at) = chip-number refusal

-- the layer of a chip's refusal: the memory's own, or the chip's
abbrev pub chip_layer : Refusal → List ℕ
chip_layer MemorySize = codes "chip"
chip_layer BeyondPort = codes "chip"
chip_layer NothingThere = codes "chip"
chip_layer Sounding = codes "chip"
chip_layer PastWindow = codes "chip"
chip_layer (Memory refusal) = codes "memory"

abbrev pub layer : Fault → List ℕ
layer (Log fault place) = codes "log"
layer (Chip refusal place at) = chip_layer refusal

-- the first bit of the record
abbrev pub bit : Fault → ℕ
bit (Log fault place) = place
bit (Chip refusal place at) = place

-- the host address, 0 if none
abbrev pub address : Fault → ℕ
address (Log fault place) = 0
address (Chip refusal place None) = 0
address (Chip refusal place (Some at)) = at
