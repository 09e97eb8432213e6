use Rattle.std.proofs.Common.{◌≡◌, ◌∙◌, ap}
use Rattle.wave.specs.Lent.{beyond, loan}
use Rattle.exported.specs.States.{saved_chip}
use Rattle.exported.proofs.Boards.{same_beyond, lent_again}
use Rattle.exported.proofs.ports.write_through.Goals as goal

pub returns-clause-answer : goal.returns-clause-answer
returns-clause-answer c =
    rw (c.resume-playing.ensures.registers, c.resume-playing.ensures.ram.0, c.resume-playing.ensures.rom) at c.write.ensures.answer

pub returns-clause-registers : goal.returns-clause-registers
returns-clause-registers c =
    let after = rw (c.resume-playing.ensures.registers, c.resume-playing.ensures.ram.0, c.resume-playing.ensures.rom) at c.write.ensures.after in
    c.save.ensures.saved ∙ ap saved_chip (c.registers.ensures ∙ ap (λ s. s.registers) after)

pub returns-clause-ram : goal.returns-clause-ram
returns-clause-ram c =
    let after = rw (c.resume-playing.ensures.registers, c.resume-playing.ensures.ram.0, c.resume-playing.ensures.rom) at c.write.ensures.after in
    let lent = c.write.new.self.memory.first.lent.now in
    let same : beyond lent ≡ beyond c.args.ram.now = same_beyond (loan c.write.new.self.memory.first.lent) (loan c.resume-playing.result.memory.first.lent) _ _ c.write.ensures.same_borrows
    ∙ ap beyond c.resume-playing.ensures.ram.0 in
    rw (c.into_lent.ensures.0, c.into_memory.ensures)
    (lent_again c.args.ram.now lent _ _ same (ap (λ s. s.memory.bytes) after))
