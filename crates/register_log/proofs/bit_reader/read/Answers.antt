use Rattle.std.proofs.Common.{◌≡◌, ℕ, ◌+◌, ◌-◌, ◌*◌, ◌/◌, ◌%◌, ◌^◌, length, take, drop, ap, ◌∙◌, arith}
use Rattle.std.proofs.lemmas.Nat.{one_shl}
use Rattle.std.proofs.lemmas.List.{length-take, length-drop}
use Rattle.register_log.specs.Fields.{field}
use Rattle.register_log.proofs.Fields.{field_part}
use Rattle.register_log.proofs.Writing.{read_part}
use Rattle.register_log.proofs.bit_reader.read.Goals as goal

pub returns-clause-value : goal.returns-clause-value
returns-clause-value c =
    let bytes = c.args.bytes.now in
    let place = c.args.place in
    let width = c.args.width in
    let first = place / 8 in
    let end = c.div_ceil-end.result in
    let n : ℕ = end - first in
    let g : ℕ = 8 * end - place - width in
    let last = c.div_ceil-end.ensures in
    let all : length (take n (drop first bytes)) ≡ n = length-take n (drop first bytes) ∙ omega (arith, length-drop first bytes) in
    let bits : 8 * length (take n (drop first bytes)) ≡ place % 8 + width + g = omega arith in
    let start : 8 * first + place % 8 ≡ place = omega arith in
    let mask : 1 * 2 ^ width % 4294967296 - 1 ≡ 2 ^ width - 1 = ap (λ x. x - 1) (one_shl width 32 (omega arith)) in
    let part : c.number-bits.result ≡ field bytes (8 * first) (place % 8 + width + g) =
    c.number-bits.ensures ∙ field_part bytes first n _ (omega arith) ∙ ap (field bytes (8 * first)) bits in
    read_part bytes (8 * first) (place % 8) width g c.number-bits.result _ part mask ∙ ap (λ q. field bytes q width) start
