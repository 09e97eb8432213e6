use Rattle.std.proofs.Common.{rules, ◌≡◌, get_or, sym, ◌∙◌, arith}
use Rattle.std.proofs.lemmas.List.{length-map, get_or-map, ext_get_or}
use Rattle.voice.specs.Voice.{fresh}
use Rattle.exported.specs.States.{voice_of, saved_voice}
use Rattle.exported.specs.declared.states.VoiceState.{VoiceState}
use Rattle.exported.proofs.states.load_voices.Goals as goal

pub returns : goal.returns
returns c =
    let states = c.args.states.now in
    let resting : VoiceState = saved_voice fresh in
    let mapped = c.map.ensures.items in
    let long = mapped.long in
    ext_get_or fresh c.map.result _ (omega (arith, length-map states voice_of))
    (λ k h.
    let called = mapped.at k resting fresh (omega arith) in
    let step : get_or c.map.result k fresh ≡ voice_of (get_or states k resting) = search (rules, called) in
    step ∙ sym (get_or-map voice_of states k resting fresh (omega arith)))
