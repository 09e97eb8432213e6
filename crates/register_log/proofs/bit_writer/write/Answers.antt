use Rattle.std.proofs.Common.{◌≡◌, ℕ, ◌+◌, ◌-◌, ◌*◌, ◌/◌, ◌%◌, ◌^◌, ◌<◌, [], ◌∷◌, get_or, take, sym, refl, ap, ◌∙◌, subst, add-zero, arith, rules}
use lib.Bits.{bit_or}
use Rattle.std.proofs.lemmas.Nat.{mul-add-lt, pow-add, shl_below}
use Rattle.register_log.specs.Fields.{field, gap, big_endian}
use Rattle.register_log.proofs.Writing.{byte_front, write_bits, four_bytes, first_bytes, pasted, front_number}
use Rattle.register_log.proofs.bit_writer.write.Goals as goal

pub returns : goal.returns
returns c =
    let buffer = c.args.buffer.now in
    let place = c.args.place in
    let width = c.args.width in
    let value = c.args.value in
    let first = place / 8 in
    let kept = place % 8 in
    let count = c.div_ceil-count.result in
    let ceiling = c.div_ceil-count.ensures in
    let s : ℕ = 32 - kept - width in
    let g : ℕ = 8 * count - kept - width in
    let byte : get_or buffer first 0 < 256 = search rules in
    let front = byte_front buffer first kept (omega arith) byte in
    let high : c.from.result / 2 ^ (8 - kept) ≡ field buffer (8 * first) kept = ap (λ x. x / 2 ^ (8 - kept)) c.from.ensures ∙ sym front.1 in
    let small : value < 2 ^ width = search rules in
    let below : field buffer (8 * first) kept < 2 ^ kept = subst (λ x. x < 2 ^ kept) (sym front.1) front.0 in
    let n : ℕ = field buffer (8 * first) kept * 2 ^ width + value in
    let word = c.to_be_bytes-bytes.result in
    let front_bits : (bits : ℕ) → bits ≡ bit_or (c.from.result / 2 ^ (8 - kept) * 2 ^ width % 2 ^ 32) value * 2 ^ s % 2 ^ 32 → bits ≡ n * 2 ^ s =
    λ bits e. e ∙ ap (λ x. bit_or (x * 2 ^ width % 2 ^ 32) value * 2 ^ s % 2 ^ 32) high ∙ write_bits (field buffer (8 * first) kept) kept width value s below small (omega arith) in
    let bytes : word ≡ big_endian 4 (n * 2 ^ s) = c.to_be_bytes-bytes.ensures ∙ four_bytes _ ∙ ap (big_endian 4) (front_bits _ refl) in
    let new : take count word ≡ big_endian count (n * 2 ^ g) = first_bytes count n s g word (omega arith) (omega arith) bytes in
    let low : n * 2 ^ g < 2 ^ (8 * count) =
    subst (λ x. n * 2 ^ g < 2 ^ x) (omega arith)
    (shl_below n (kept + width) g (omega (arith, mul-add-lt (field buffer (8 * first) kept) (2 ^ width) value (2 ^ kept) below small, pow-add 2 kept width))) in
    let start : 8 * first + kept ≡ place = omega arith in
    let span_is : width + 0 ≡ width = add-zero width in
    let gap_is : gap (place + (width + 0)) ≡ g = omega arith in
    let e : (field buffer 0 place * 2 ^ (width + 0) + (value * 1 + 0)) * 2 ^ gap (place + (width + 0)) ≡ field buffer 0 (8 * first) * 2 ^ (8 * count) + n * 2 ^ g =
    let one : value * 1 + 0 ≡ value = omega arith in
    ap (λ x. (field buffer 0 place * 2 ^ x + (value * 1 + 0)) * 2 ^ gap (place + (width + 0))) span_is
    ∙ ap (λ x. (field buffer 0 place * 2 ^ width + x) * 2 ^ gap (place + (width + 0))) one
    ∙ ap (λ x. (field buffer 0 place * 2 ^ width + value) * 2 ^ x) gap_is
    ∙ ap (λ q. (field buffer 0 q * 2 ^ width + value) * 2 ^ g) (sym start)
    ∙ front_number buffer first kept width value g count (omega arith) in
    let after : c.copy_from_slice.new.self ≡ take count word = search rules in
    pasted buffer c.copy_from_slice.new.self place first count _ (n * 2 ^ g) ((width, value) ∷ [])
    (λ i. (c.type_inv.buffer i).fits) (omega arith) (omega arith) (omega arith) (after ∙ new) low e
