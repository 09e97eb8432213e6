-- Laws of records and their fields.
use Rattle.std.proofs.Common.{◌≡◌, ℕ, suc, ◌+◌, ◌-◌, ◌*◌, ◌<◌, ◌≤◌, true, List, [], ◌∷◌, map, length, get_or, sym, refl, ap, ◌∙◌, arith}
use Rattle.std.proofs.lemmas.Nat.{pow_pos}
use Rattle.std.proofs.lemmas.Bool.{and_from, and_parts, le-leb, leb-true}
use Rattle.std.proofs.lemmas.Bool.Decides.{nat_tests}
use Rattle.register_log.specs.Fields.{gap, span}
use Rattle.register_log.specs.Record.{Entry, register, window, wait, block, fits, block_fits, byte_fits, bytes_fit, fields, block_head, octet, block_tag}
use Rattle.register_log.specs.BitWriter.{Wrote}
use Rattle.register_log.specs.declared.bit_writer.BitWriter.{BitWriter}
use Rattle.register_log.proofs.Packing.{Fit, fit_append, span-append, wrote_then, written_padded}
use Rattle.register_log.proofs.Writing.{span_octets}

-- bytes fit
pub bytes_fit_all : (bytes : List ℕ) → ((k : ℕ) → get_or bytes k 0 < 256) → bytes_fit bytes ≡ true
unfolding bytes_fit
bytes_fit_all [] small = refl
bytes_fit_all (b ∷ bytes) small =
    let first : b < 256 = small 0 in
    and_from _ _ (le-leb b 255 (omega arith)) (bytes_fit_all bytes (λ k. small (suc k)))

fit_octets : (bytes : List ℕ) → bytes_fit bytes ≡ true → Fit (map octet bytes)
unfolding bytes_fit
fit_octets [] h = tt
fit_octets (b ∷ bytes) h =
    let parts = and_parts (byte_fits b) (bytes_fit bytes) h in
    let first : b ≤ 255 = leb-true b 255 parts.0 in
    (omega arith, fit_octets bytes parts.1)

pub block_bounds : (offset : ℕ) (payload : List ℕ) → fits (block offset payload) ≡ true → (1 ≤ length payload) × (offset + length payload ≤ 4096)
block_bounds offset payload h = grind arith

fit_head : (place offset length : ℕ) → offset < 4096 → length - 1 < 4096 → Fit (block_head place offset length)
fit_head place offset length a b = grind (arith, pow_pos)

-- a record's numbers fit their fields
pub fit_fields : (place : ℕ) (entry : Entry) → fits entry ≡ true → Fit (fields place entry)
fit_fields place (register address byte) h =
    let a : address ≤ 8 = grind (arith, nat_tests) in
    let b : byte ≤ 255 = grind (arith, nat_tests) in
    (omega arith, (omega arith, (omega arith, tt)))
fit_fields place (window offset byte) h =
    let a : offset + 1 ≤ 4096 = grind (arith, nat_tests) in
    let b : byte ≤ 255 = grind (arith, nat_tests) in
    (omega arith, (omega arith, (omega arith, tt)))
fit_fields place (wait ticks) h =
    let a : ticks ≤ 65535 = grind (arith, nat_tests) in
    (omega arith, (omega arith, tt))
fit_fields place (block offset payload) h =
    let b = block_bounds offset payload h in
    fit_append (block_head place offset (length payload)) (map octet payload)
    (fit_head place offset (length payload) (omega arith) (omega arith))
    (fit_octets payload (and_parts (block_fits offset (length payload)) (bytes_fit payload) h).1)

pub block_span : (place offset : ℕ) (payload : List ℕ) → span (fields place (block offset payload)) ≡ 27 + gap (place + 27) + 8 * length payload
block_span place offset payload = grind (arith, span-append, span_octets)

-- a block is written: its tag and two numbers, zeros that are there, its bytes
pub wrote_block :
    {a b c d : BitWriter} (offset : ℕ) (payload : List ℕ) → fits (block offset payload) ≡ true →
    Wrote a b ((3, block_tag) ∷ (12, offset) ∷ (12, length payload - 1) ∷ []) → c.buffer ≡ b.buffer → c.place ≡ b.place + gap b.place → Wrote c d (map octet payload) →
    Wrote a d (fields a.place (block offset payload))
wrote_block {a} {b} {c} {d} offset payload h head same zeros bytes =
    let bounds = block_bounds offset payload h in
    let place = a.place in
    let there = head.place in
    let aligned : Wrote a c (block_head place offset (length payload)) = record {
      buffer = ap (λ x. x.now) same ∙ head.buffer ∙ sym (written_padded a.buffer.now place ((3, block_tag) ∷ (12, offset) ∷ (12, length payload - 1) ∷ []));
      size = ap (λ x. length x.now) same ∙ head.size;
      place = omega arith;
      lender = ap (λ x. x.ghost_name) same ∙ head.lender;
    } in
    wrote_then (fit_head place offset (length payload) (omega arith) (omega arith)) aligned bytes
