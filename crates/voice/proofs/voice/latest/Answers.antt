use Rattle.std.proofs.Common.{arith}
use Rattle.std.proofs.lemmas.List.{length-map, get_or-map, ext_get_or}
use Rattle.voice.specs.Voice.{fresh, silence, Contribution}
use Rattle.voice.specs.declared.voice.Voice.{Voice}
use Rattle.voice.proofs.voice.latest.Goals as goal

pub returns : goal.returns
returns c =
    let voices = c.args.voices.now in
    let part : Voice → Contribution = λ v. v.latest in
    let mapped = c.map.ensures.items in
    let long = mapped.long in
    ext_get_or silence c.map.result _ (omega (arith, length-map voices part))
    (λ k h.
    let called = mapped.at k fresh silence (omega arith) in
    grind (arith, get_or-map part voices k fresh silence))
