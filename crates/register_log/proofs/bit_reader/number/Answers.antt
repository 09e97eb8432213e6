use Rattle.std.proofs.Common.{◌≡◌, ◌*◌, ◌%◌, ◌^◌, length, ap, ◌∙◌, sym, arith, rules}
use lib.Bits.{bit_or}
use Rattle.std.specs.List.{fold}
use Rattle.std.proofs.lemmas.List.{take_all}
use Rattle.register_log.proofs.Writing.{number_of_bytes}
use Rattle.register_log.proofs.bit_reader.number.Goals as goal

pub returns : goal.returns
returns c =
    let bytes = c.args.bytes.now in
    let all = take_all (length bytes) bytes (omega arith) in
    let folded : c.fold.result ≡ fold (λ bits byte. bit_or (bits * 256 % 2 ^ 32) byte) 0 bytes = search rules in
    folded
    ∙ ap (fold (λ bits byte. bit_or (bits * 256 % 2 ^ 32) byte) 0) (sym all)
    ∙ number_of_bytes bytes (λ k. (c.type_inv.bytes k).fits) (length bytes) c.requires (omega arith)
