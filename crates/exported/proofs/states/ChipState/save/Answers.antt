use Rattle.std.proofs.Common.{ap, ◌∙◌}
use Rattle.exported.specs.States.{registers_of}
use Rattle.exported.proofs.Saved.{chip_loaded}
use Rattle.exported.proofs.states.ChipState.save.Goals as goal

pub returns-clause-loaded : goal.returns-clause-loaded
returns-clause-loaded c = ap registers_of c.numbers_of.ensures ∙ chip_loaded c.args.registers
