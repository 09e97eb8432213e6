-- What is wrong with a log.
use Rattle.std.specs.Prelude.{ℕ}
use Rattle.register_log.specs.declared.fault.Fault.{Fault}
use Rattle.register_log.specs.declared.fault.Fault.TheVariants.{Length, Header, Cut, Tag, Range, Padding}

abbrev pub number : Fault → ℕ
number Length = 7
number Header = 8
number Cut = 9
number Tag = 10
number Range = 11
number Padding = 12
