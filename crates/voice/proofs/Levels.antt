-- The bound on what a voice contributes.
use Rattle.std.proofs.Common.{ℕ, ◌*◌, ◌%◌, ◌<◌, ◌≤◌, arith}
use Rattle.std.proofs.lemmas.Nat.{mul-le}
use Rattle.voice.specs.Voice.{size, loudest}

pub size_most : (b env c : ℕ) → env < 256 → c < 16 → size b env c ≤ loudest
size_most b env c h l =
    let enveloped = mul-le (b % 128) env 127 255 (omega arith) (omega arith) in
    let shared = mul-le (b % 128 * env) c 32385 15 (omega arith) (omega arith) in
    omega arith
