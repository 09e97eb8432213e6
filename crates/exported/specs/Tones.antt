-- What is answered to a tone.
use Rattle.std.specs.Prelude.{ℕ, Ok, Err, Result}
use Rattle.pitch.specs.Pitch.{number}
use Rattle.pitch.specs.declared.Refusal.{Refusal}
use Rattle.exported.specs.Numbers.{no_refusal}
use Rattle.exported.specs.declared.tones.FdAnswer.{FdAnswer}

abbrev pub fd_answer : Result ℕ Refusal → FdAnswer
fd_answer (Ok fd) = record { refusal = no_refusal; fd = fd }
fd_answer (Err refusal) = record { refusal = number refusal; fd = 0 }
