use Rattle.std.proofs.Common.{rules, ◌≡◌, get_or, ℤ, pos, sym, ◌∙◌, arith}
use Rattle.std.proofs.lemmas.List.{length-map, get_or-map, ext_get_or}
use Rattle.voice.specs.Stereo.{of_side}
use Rattle.voice.specs.Voice.{silence, Contribution}
use Rattle.voice.proofs.frame.side_contributions.Goals as goal

pub returns : goal.returns
returns c =
    let contributions = c.args.contributions.now in
    let part : Contribution → ℤ = λ x. of_side c.args.name x in
    let mapped = c.map.ensures.items in
    let long = mapped.long in
    ext_get_or (pos 0) c.map.result _ (omega (arith, length-map contributions part))
    (λ k h.
    let called = mapped.at k silence (pos 0) (omega arith) in
    let step : get_or c.map.result k (pos 0) ≡ of_side c.args.name (get_or contributions k silence) = search (rules, called) in
    step ∙ sym (get_or-map part contributions k silence (pos 0) (omega arith)))
