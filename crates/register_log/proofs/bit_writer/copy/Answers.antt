use Rattle.std.proofs.Common.{◌≡◌, ◌+◌, ◌*◌, ◌^◌, map, length, ap, ◌∙◌, mul-one, arith}
use Rattle.register_log.specs.Fields.{field, number, gap, span}
use Rattle.register_log.specs.Record.{octet}
use Rattle.register_log.proofs.Writing.{pasted, span_octets, number_octets}
use Rattle.register_log.proofs.bit_writer.copy.Goals as goal

pub returns : goal.returns
returns c =
    let buffer = c.args.buffer.now in
    let bytes = c.args.bytes.now in
    let first = c.args.first in
    let fs = map octet bytes in
    let s = span_octets bytes in
    let n = number_octets bytes (λ i. (c.type_inv.bytes i).fits) in
    let none : gap (8 * first + span fs) ≡ 0 = omega arith in
    let e : (field buffer 0 (8 * first) * 2 ^ span fs + number fs) * 2 ^ gap (8 * first + span fs) ≡ field buffer 0 (8 * first) * 2 ^ (8 * length bytes) + number fs =
    ap (λ x. (field buffer 0 (8 * first) * 2 ^ span fs + number fs) * 2 ^ x) none ∙ mul-one _ ∙ ap (λ x. field buffer 0 (8 * first) * 2 ^ x + number fs) s in
    pasted buffer c.copy_from_slice.new.self (8 * first) first (length bytes) _ (number fs) fs
    (λ i. (c.type_inv.buffer i).fits) (omega arith) (omega arith) (omega arith) (c.copy_from_slice.ensures.after ∙ n.1) n.0 e
