use Rattle.std.proofs.Common.{subst, arith}
use Rattle.voice.specs.Frame.{AllBounded}
use Rattle.voice.proofs.Sums.{voices_bounded}
use Rattle.chip.proofs.Eight.{all_ticked, all_told}
use Rattle.chip.proofs.registers.Registers.tick.Goals as goal

pub returns-clause-exact : goal.returns-clause-exact
returns-clause-exact g c =
    all_ticked _ c.args.self.now _ _ _ _ _ _ _ _ (omega arith)
    c.tick_voice.ensures.exact c.tick_voice-2.ensures.exact c.tick_voice-3.ensures.exact c.tick_voice-4.ensures.exact c.tick_voice-5.ensures.exact c.tick_voice-6.ensures.exact c.tick_voice-7.ensures.exact c.tick_voice-8.ensures.exact

pub returns-clause-told : goal.returns-clause-told
returns-clause-told g c =
    all_told _ c.args.self.now _ _ _ _ _ _ _ _ (omega arith)
    c.tick_voice.ensures.exact c.tick_voice-2.ensures.exact c.tick_voice-3.ensures.exact c.tick_voice-4.ensures.exact c.tick_voice-5.ensures.exact c.tick_voice-6.ensures.exact c.tick_voice-7.ensures.exact c.tick_voice-8.ensures.exact
    _ _ _ _ _ _ _ _
    c.tick_voice.ensures.told c.tick_voice-2.ensures.told c.tick_voice-3.ensures.told c.tick_voice-4.ensures.told c.tick_voice-5.ensures.told c.tick_voice-6.ensures.told c.tick_voice-7.ensures.told c.tick_voice-8.ensures.told

pub returns-clause-voices : goal.returns-clause-voices
returns-clause-voices g c =
    voices_bounded _
    (subst AllBounded (returns-clause-told g c)
    (c.tick_voice.ensures.bounded, (c.tick_voice-2.ensures.bounded, (c.tick_voice-3.ensures.bounded, (c.tick_voice-4.ensures.bounded, (c.tick_voice-5.ensures.bounded, (c.tick_voice-6.ensures.bounded, (c.tick_voice-7.ensures.bounded, (c.tick_voice-8.ensures.bounded, tt)))))))))
