use Rattle.std.proofs.Common.{◌≡◌, ℕ, length, ap, ◌∙◌, arith}
use Rattle.std.proofs.lemmas.List.{take_rest, length-drop}
use Rattle.std.proofs.lemmas.Bool.Decides.{nat_tests}
use Rattle.register_log.specs.Fields.{field}
use Rattle.register_log.proofs.Fields.{header_bits, field_bytes}
use Rattle.register_log.proofs.header.Header.read.Goals as goal

pub returns-then-clock_fits : goal.returns-then-clock_fits
returns-then-clock_fits c =
    let log = c.args.log.now in
    let small = λ (i : ℕ). (c.type_inv.log i).fits in
    let rest = ap length (take_rest log 4) ∙ length-drop 4 log in
    let bits = header_bits log (small 0) in
    let clock : c.from_be_bytes-clock.result ≡ field log 8 24 = omega (arith, field_bytes log small) in
    rw (c.from-kind.ensures, clock, bits.1) (grind (arith, nat_tests))

pub returns-else-version-eq1 : goal.returns-else-version-eq1
returns-else-version-eq1 c =
    let log = c.args.log.now in
    let small = λ (i : ℕ). (c.type_inv.log i).fits in
    let rest = ap length (take_rest log 4) ∙ length-drop 4 log in
    let bits = header_bits log (small 0) in
    let clock : c.from_be_bytes-clock.result ≡ field log 8 24 = omega (arith, field_bytes log small) in
    grind (arith, nat_tests)
