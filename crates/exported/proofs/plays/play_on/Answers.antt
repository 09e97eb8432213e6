use Rattle.std.proofs.Common.{◌<◌, ◌+◌, length, sym, ap, ap₂, ◌∙◌, arith, Ok, slice_set}
use Rattle.chip.specs.Chip.{state}
use Rattle.player.specs.Step.{stand}
use Rattle.player.specs.declared.player.Progress.TheVariants.{Taken, Ticked}
use Rattle.exported.specs.Frames.{totals_of, words_of}
use Rattle.exported.specs.Plays.{Stage, stage, heard_frame, playing}
use Rattle.exported.proofs.Playing.{played_on, roomy, full_totals, full_words}
use Rattle.exported.proofs.plays.play_on.Goals as goal

pub loop-ticks-preserved-in-Ok-Taken : goal.loop-ticks-preserved-in-Ok-Taken
loop-ticks-preserved-in-Ok-Taken g c =
    let log = c.loop-ticks.player.reader.log.now in
    let s : Stage = stage (state g.M.Source.bytes g.M.Store.takes c.loop-ticks.chip) (stand c.loop-ticks.player) c.loop-ticks.ticks c.loop-ticks.totals c.loop-ticks.words in
    let one : s.ticks < length s.totals = omega arith in
    let two : s.ticks < length s.words = omega arith in
    let out = rw c.in-Ok-Taken.field-0-is at c.in-Ok-Taken.ensures.outcome in
    record {
      log = c.in-Ok-Taken.ensures.log ∙ c.loop-ticks.invariant.log;
      borrows = c.in-Ok-Taken.ensures.same_borrows ∙ c.loop-ticks.invariant.borrows;
      same =
          c.loop-ticks.invariant.same
          ∙ played_on log s (roomy s one two) _ _ (Ok Taken) out
          ∙ ap (λ x. playing x (stage (state g.M.Source.bytes g.M.Store.takes c.step.new.chip) (stand c.step.new.self) c.loop-ticks.ticks c.loop-ticks.totals c.loop-ticks.words))
          (sym c.in-Ok-Taken.ensures.log);
    }

pub loop-ticks-preserved : goal.loop-ticks-preserved
loop-ticks-preserved g c =
    let log = c.loop-ticks.player.reader.log.now in
    let s : Stage = stage (state g.M.Source.bytes g.M.Store.takes c.loop-ticks.chip) (stand c.loop-ticks.player) c.loop-ticks.ticks c.loop-ticks.totals c.loop-ticks.words in
    let one : s.ticks < length s.totals = omega arith in
    let two : s.ticks < length s.words = omega arith in
    let out = rw c.in-Ok-Ticked.field-0-is at c.in-Ok-Ticked.ensures.outcome in
    let frame = rw c.in-Ok-Ticked.field-0-is at c.in-Ok-Ticked.ensures.frame in
    let chip = state g.M.Source.bytes g.M.Store.takes c.step.new.chip in
    let told = frame ∙ ap (λ x. heard_frame x.chip) (sym out) in
    let totals = ap totals_of (sym told) ∙ sym c.new.ensures in
    let words = ap words_of (sym told) ∙ sym c.new-in-Ok-Ticked.ensures in
    record {
      log = c.in-Ok-Ticked.ensures.log ∙ c.loop-ticks.invariant.log;
      borrows = c.in-Ok-Ticked.ensures.same_borrows ∙ c.loop-ticks.invariant.borrows;
      same =
          c.loop-ticks.invariant.same
          ∙ played_on log s (roomy s one two) _ _ (Ok Ticked) out
          ∙ ap₂ (λ x y. playing log (stage chip (stand c.step.new.self) (c.loop-ticks.ticks + 1) (slice_set c.loop-ticks.totals c.loop-ticks.ticks x) (slice_set c.loop-ticks.words c.loop-ticks.ticks y)))
          totals words
          ∙ ap (λ x. playing x (stage chip (stand c.step.new.self) (c.loop-ticks.ticks + 1) (slice_set c.loop-ticks.totals c.loop-ticks.ticks c.new.result) (slice_set c.loop-ticks.words c.loop-ticks.ticks c.new-in-Ok-Ticked.result)))
          (sym c.in-Ok-Ticked.ensures.log);
    }

pub returns-in-Ok-Ended-clause-played : goal.returns-in-Ok-Ended-clause-played
returns-in-Ok-Ended-clause-played g c =
    let log = c.loop-ticks.player.reader.log.now in
    let s : Stage = stage (state g.M.Source.bytes g.M.Store.takes c.loop-ticks.chip) (stand c.loop-ticks.player) c.loop-ticks.ticks c.loop-ticks.totals c.loop-ticks.words in
    let one : s.ticks < length s.totals = omega arith in
    let two : s.ticks < length s.words = omega arith in
    let out = rw c.in-Ok-Ended.field-0-is at c.in-Ok-Ended.ensures.outcome in
    sym (c.loop-ticks.invariant.same ∙ played_on log s (roomy s one two) _ _ _ out)

pub returns-in-Err-clause-played : goal.returns-in-Err-clause-played
returns-in-Err-clause-played g c =
    let log = c.loop-ticks.player.reader.log.now in
    let s : Stage = stage (state g.M.Source.bytes g.M.Store.takes c.loop-ticks.chip) (stand c.loop-ticks.player) c.loop-ticks.ticks c.loop-ticks.totals c.loop-ticks.words in
    let one : s.ticks < length s.totals = omega arith in
    let two : s.ticks < length s.words = omega arith in
    let out = rw c.in-Err.fault-is at c.in-Err.ensures.outcome in
    sym (c.loop-ticks.invariant.same ∙ played_on log s (roomy s one two) _ _ _ out)

pub returns-else-ticks-words-clause-played : goal.returns-else-ticks-words-clause-played
returns-else-ticks-words-clause-played g c =
    let log = c.loop-ticks.player.reader.log.now in
    let s : Stage = stage (state g.M.Source.bytes g.M.Store.takes c.loop-ticks.chip) (stand c.loop-ticks.player) c.loop-ticks.ticks c.loop-ticks.totals c.loop-ticks.words in
    sym (c.loop-ticks.invariant.same ∙ full_words log s (omega arith))

pub returns-after-loop-ticks-clause-played : goal.returns-after-loop-ticks-clause-played
returns-after-loop-ticks-clause-played g c =
    let log = c.loop-ticks.player.reader.log.now in
    let s : Stage = stage (state g.M.Source.bytes g.M.Store.takes c.loop-ticks.chip) (stand c.loop-ticks.player) c.loop-ticks.ticks c.loop-ticks.totals c.loop-ticks.words in
    sym (c.loop-ticks.invariant.same ∙ full_totals log s (omega arith))
