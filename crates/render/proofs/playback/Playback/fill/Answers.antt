use Rattle.std.proofs.Common.{◌≡◌, ◌≤◌, ◌-◌, ◌++◌, false, None, length, take, refl, sym, ap, ◌∙◌, arith, Ok, to_z-of_z, rules, SFits, w32}
use Rattle.chip.specs.Chip.{state}
use Rattle.player.specs.Step.{stand}
use Rattle.player.specs.declared.player.Progress.TheVariants.{Ticked}
use Rattle.render.specs.Last.{ending}
use Rattle.render.specs.Text.{frame_line, closed}
use Rattle.render.specs.Playback.{rest}
use Rattle.render.proofs.Endings.{ticks, nearer, in_vain}
use Rattle.render.proofs.Texts.{text_closed, played_on, line_told, ending_told, quiet}
use Rattle.render.proofs.Pieces.{front, piece_grown, beyond_kept}
use Rattle.render.proofs.Steps.{none_taken, stepped_on, no_line}
use Rattle.render.proofs.playback.Playback.fill.Goals as goal

pub loop-frame-init : goal.loop-frame-init
loop-frame-init g c = record {
  log = refl;
  within = search rules;
  same_length = refl;
  beyond = refl;
  same = refl;
  steps = none_taken c.args.self.now.player.reader.log.now (state g.M.Source.bytes g.M.Store.takes c.args.self.now.chip) (stand c.args.self.now.player);
  borrows = refl;
  stopped = search rules;
}

pub loop-frame-preserved-in-Ticked-1 : goal.loop-frame-preserved-in-Ticked-1
loop-frame-preserved-in-Ticked-1 g c =
    let room : 24 ≤ length c.loop-frame.buffer - c.loop-frame.length = omega arith in
    let left_fits : SFits w32 c.step.new.frame.left.total = search rules in
    let right_fits : SFits w32 c.step.new.frame.right.total = search rules in
    let written = simp to_z-of_z at c.put_tick-length.ensures.buffer in
    let next = simp to_z-of_z at c.put_tick-length.ensures.place in
    let going : ending c.loop-frame.self.player.state ≡ None = search rules in
    let outcome = rw c.in-Ok-Ticked.field-0-is at c.in-Ok-Ticked.ensures.outcome in
    let told =
    line_told g.M.Source.bytes g.M.Store.takes c.loop-frame.self c.step.new.chip c.step.new.self (Ok Ticked) c.in-Ok-Ticked.ensures.log outcome
    c.loop-frame.frame c.step.new.frame (rw c.in-Ok-Ticked.field-0-is at c.in-Ok-Ticked.ensures.frame) in
    record {
      log = c.in-Ok-Ticked.ensures.log ∙ c.loop-frame.invariant.log;
      within = omega (arith, c.put_tick-length.ensures.within c.loop-frame.invariant.within, c.put_tick-length.auto.buffer);
      same_length = c.put_tick-length.auto.buffer ∙ c.loop-frame.invariant.same_length;
      beyond =
          beyond_kept c.loop-frame.buffer c.put_tick-length.new.buffer c.loop-frame.length c.put_tick-length.result (frame_line c.step.new.frame)
          room written next c.args.buffer.now c.loop-frame.invariant.beyond;
      same =
          c.loop-frame.invariant.same
          ∙ ap (λ t. take c.loop-frame.length c.loop-frame.buffer ++ t)
          (played_on g.M.Source.bytes g.M.Store.takes c.loop-frame.self c.step.new.chip c.step.new.self (Ok Ticked) c.in-Ok-Ticked.ensures.log outcome
          ∙ ap (λ t. t ++ rest g.M.Source.bytes g.M.Store.takes record { chip = c.step.new.chip; player = c.step.new.self }) (sym told))
          ∙ piece_grown c.loop-frame.buffer c.put_tick-length.new.buffer c.loop-frame.length c.put_tick-length.result (frame_line c.step.new.frame)
          room written next (rest g.M.Source.bytes g.M.Store.takes record { chip = c.step.new.chip; player = c.step.new.self });
      steps =
          stepped_on g.M.Source.bytes g.M.Store.takes c.loop-frame.self c.step.new.chip c.step.new.self (Ok Ticked) outcome c.args.self.now
          (take c.loop-frame.length c.loop-frame.buffer) (take c.put_tick-length.result c.put_tick-length.new.buffer)
          c.loop-frame.invariant.log going
          (front c.loop-frame.buffer c.put_tick-length.new.buffer c.loop-frame.length c.put_tick-length.result (frame_line c.step.new.frame) room written next
          ∙ ap (λ t. take c.loop-frame.length c.loop-frame.buffer ++ t) told)
          c.loop-frame.invariant.steps;
      borrows = c.in-Ok-Ticked.ensures.same_borrows ∙ c.loop-frame.invariant.borrows;
      stopped =
          in_vain _ (ending c.args.self.now.player.state) c.loop-frame.invariant.stopped
          (λ l h. ap (λ s. ending s.player.state) (sym h.1) ∙ going);
    }

pub loop-frame-preserved-in-Taken-1 : goal.loop-frame-preserved-in-Taken-1
loop-frame-preserved-in-Taken-1 g c =
    let silent : ticks c.step.result ≡ false = search rules in
    let going : ending c.loop-frame.self.player.state ≡ None = search rules in
    record {
      log = c.step.ensures.log ∙ c.loop-frame.invariant.log;
      within = c.loop-frame.invariant.within;
      same_length = c.loop-frame.invariant.same_length;
      beyond = c.loop-frame.invariant.beyond;
      same =
          c.loop-frame.invariant.same
          ∙ ap (λ t. take c.loop-frame.length c.loop-frame.buffer ++ t)
          (quiet g.M.Source.bytes g.M.Store.takes c.loop-frame.self c.step.new.chip c.step.new.self c.step.result c.step.ensures.log
          c.step.ensures.outcome silent);
      steps =
          stepped_on g.M.Source.bytes g.M.Store.takes c.loop-frame.self c.step.new.chip c.step.new.self c.step.result c.step.ensures.outcome
          c.args.self.now (take c.loop-frame.length c.loop-frame.buffer) (take c.loop-frame.length c.loop-frame.buffer)
          c.loop-frame.invariant.log going
          (no_line (take c.loop-frame.length c.loop-frame.buffer) (state g.M.Source.bytes g.M.Store.takes c.step.new.chip) c.step.result silent)
          c.loop-frame.invariant.steps;
      borrows = c.step.ensures.same_borrows ∙ c.loop-frame.invariant.borrows;
      stopped =
          in_vain _ (ending c.args.self.now.player.state) c.loop-frame.invariant.stopped
          (λ l h. ap (λ s. ending s.player.state) (sym h.1) ∙ going);
    }

pub loop-frame-smaller-in-Taken-1 : goal.loop-frame-smaller-in-Taken-1
loop-frame-smaller-in-Taken-1 g c =
    let going : ending c.loop-frame.self.player.state ≡ None = search rules in
    nearer c.loop-frame.self.player.reader.log.now c.step.new.self.reader.log.now (stand c.loop-frame.self.player) (stand c.step.new.self) c.step.result
    c.step.ensures.log going
    (ending_told g.M.Source.bytes g.M.Store.takes c.loop-frame.self c.step.new.chip c.step.new.self c.step.result c.step.ensures.log c.step.ensures.outcome)
    c.step.ensures.nearer

pub loop-frame-preserved : goal.loop-frame-preserved
loop-frame-preserved g c =
    let silent : ticks c.step.result ≡ false = search rules in
    let going : ending c.loop-frame.self.player.state ≡ None = search rules in
    record {
      log = c.step.ensures.log ∙ c.loop-frame.invariant.log;
      within = c.loop-frame.invariant.within;
      same_length = c.loop-frame.invariant.same_length;
      beyond = c.loop-frame.invariant.beyond;
      same =
          c.loop-frame.invariant.same
          ∙ ap (λ t. take c.loop-frame.length c.loop-frame.buffer ++ t)
          (quiet g.M.Source.bytes g.M.Store.takes c.loop-frame.self c.step.new.chip c.step.new.self c.step.result c.step.ensures.log
          c.step.ensures.outcome silent);
      steps =
          stepped_on g.M.Source.bytes g.M.Store.takes c.loop-frame.self c.step.new.chip c.step.new.self c.step.result c.step.ensures.outcome
          c.args.self.now (take c.loop-frame.length c.loop-frame.buffer) (take c.loop-frame.length c.loop-frame.buffer)
          c.loop-frame.invariant.log going
          (no_line (take c.loop-frame.length c.loop-frame.buffer) (state g.M.Source.bytes g.M.Store.takes c.step.new.chip) c.step.result silent)
          c.loop-frame.invariant.steps;
      borrows = c.step.ensures.same_borrows ∙ c.loop-frame.invariant.borrows;
      stopped =
          in_vain _ (ending c.args.self.now.player.state) c.loop-frame.invariant.stopped
          (λ l h. ap (λ s. ending s.player.state) (sym h.1) ∙ going);
    }

pub loop-frame-smaller : goal.loop-frame-smaller
loop-frame-smaller g c =
    let going : ending c.loop-frame.self.player.state ≡ None = search rules in
    nearer c.loop-frame.self.player.reader.log.now c.step.new.self.reader.log.now (stand c.loop-frame.self.player) (stand c.step.new.self) c.step.result
    c.step.ensures.log going
    (ending_told g.M.Source.bytes g.M.Store.takes c.loop-frame.self c.step.new.chip c.step.new.self c.step.result c.step.ensures.log c.step.ensures.outcome)
    c.step.ensures.nearer

pub returns-clause-text : goal.returns-clause-text
returns-clause-text g c =
    let s = c.loop-frame.self in
    c.loop-frame.invariant.same
    ∙ ap (λ t. take c.loop-frame.length c.loop-frame.buffer ++ t)
    (text_closed s.player.reader.log.now (state g.M.Source.bytes g.M.Store.takes s.chip) s.player.reader.place s.player.state
    ∙ ap (λ l. closed l (rest g.M.Source.bytes g.M.Store.takes s)) (sym c.ending-2.ensures))
