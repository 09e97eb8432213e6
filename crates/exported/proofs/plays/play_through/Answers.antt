use Rattle.std.proofs.Common.{◌≡◌, ◌∙◌, ap, ap₂}
use Rattle.wave.specs.Lent.{beyond, loan}
use Rattle.player.specs.Step.{Stand}
use Rattle.player.specs.declared.player.State.{State}
use Rattle.exported.specs.Plays.{step_answer}
use Rattle.exported.specs.States.{saved_chip, saved_player, saved_stand}
use Rattle.exported.proofs.Boards.{resumed, same_start, same_beyond, lent_again}
use Rattle.exported.proofs.plays.play_through.Goals as goal

pub returns-clause-played : goal.returns-clause-played
returns-clause-played c =
    let chip = resumed _ _ _ _ _ _ c.resume-sounding.ensures.registers c.resume-sounding.ensures.ram.0 c.resume-sounding.ensures.rom in
    let at : State → Stand = λ s. record { place = c.args.player.now.place; state = s } in
    let player = c.resume-reading.ensures.stand ∙ ap at c.state.ensures in
    let out = c.play_on-ticks.ensures.played ∙ same_start _ _ _ _ _ _ c.args.totals.now c.args.words.now c.resume-reading.ensures.log chip player in
    (ap (λ o. o.stage.ticks) out, c.step_answer.ensures ∙ ap (λ o. step_answer o.last) out)

pub returns-clause-states : goal.returns-clause-states
returns-clause-states c =
    let chip = resumed _ _ _ _ _ _ c.resume-sounding.ensures.registers c.resume-sounding.ensures.ram.0 c.resume-sounding.ensures.rom in
    let at : State → Stand = λ s. record { place = c.args.player.now.place; state = s } in
    let player = c.resume-reading.ensures.stand ∙ ap at c.state.ensures in
    let out = c.play_on-ticks.ensures.played ∙ same_start _ _ _ _ _ _ c.args.totals.now c.args.words.now c.resume-reading.ensures.log chip player in (
      c.save.ensures.saved ∙ ap saved_chip (c.registers.ensures ∙ ap (λ o. o.stage.chip.registers) out),
      c.save-2.ensures.saved ∙ ap₂ (λ p s. saved_player p s) c.place.ensures c.state-2.ensures ∙ ap (λ o. saved_stand o.stage.player) out,
    )

pub returns-clause-ram : goal.returns-clause-ram
returns-clause-ram c =
    let chip = resumed _ _ _ _ _ _ c.resume-sounding.ensures.registers c.resume-sounding.ensures.ram.0 c.resume-sounding.ensures.rom in
    let at : State → Stand = λ s. record { place = c.args.player.now.place; state = s } in
    let player = c.resume-reading.ensures.stand ∙ ap at c.state.ensures in
    let out = c.play_on-ticks.ensures.played ∙ same_start _ _ _ _ _ _ c.args.totals.now c.args.words.now c.resume-reading.ensures.log chip player in
    let lent = c.play_on-ticks.new.chip.memory.first.lent.now in
    let same : beyond lent ≡ beyond c.args.ram.now = same_beyond (loan c.play_on-ticks.new.chip.memory.first.lent) (loan c.resume-sounding.result.memory.first.lent) _ _ c.play_on-ticks.ensures.same_borrows
    ∙ ap beyond c.resume-sounding.ensures.ram.0 in
    rw (c.into_lent.ensures.0, c.into_memory.ensures)
    (lent_again c.args.ram.now lent _ _ same (ap (λ o. o.stage.chip.memory.bytes) out))
