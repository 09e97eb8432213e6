-- The input of `stem`.
use Rattle.std.specs.Prelude.{ℕ, cond, List, [], ◌∷◌, ◌++◌, length, Ok, Err, codes, Result, nat_le}
use Rattle.std.specs.Fmt.{decimal}
use Rattle.kind.specs.declared.Kind.{Kind}
use Rattle.kind.specs.declared.Kind.TheVariants.{Rf5c68a}
use Rattle.register_log.specs.Fault.{number as log-number}
use Rattle.register_log.specs.declared.fault.Fault.{Fault}
use Rattle.register_log.specs.declared.fault.Fault.TheVariants.{Length}
use Rattle.register_log.specs.declared.header.Header.{Header}
use Rattle.job.specs.declared.Refusal.{Refusal}
use Rattle.job.specs.declared.Refusal.TheVariants.{Log, TooLong}
use Rattle.job.specs.declared.Job.{Job}

abbrev pub number : Refusal → ℕ
number (Log fault) = log-number fault
number TooLong = 13

-- the layer's name
abbrev pub layer : Refusal → List ℕ
layer (Log fault) = codes "log"
layer TooLong = codes "program"

-- what is printed of a refusal
abbrev pub text : Refusal → List ℕ
text refusal = codes "fault " ++ decimal (number refusal) ++ codes " " ++ layer refusal ++ codes " 0 0"

-- a job by its values
pub record Work : Type 0 where
  pub mutes : ℕ
  pub log : List ℕ

abbrev pub values : Result Job Refusal → Result Work Refusal
values (Ok job) = Ok (record { mutes = job.mutes; log = job.log.now })
values (Err e) = Err e

-- the most bytes of a log that `stem` plays
abbrev pub most : ℕ
most = 32768

-- a byte for the mute set, then the log
abbrev pub work : List ℕ → Result Work Refusal
work [] = Err (Log Length)
work (mutes ∷ log) = cond (nat_le (length log) most) (Ok (record { mutes = mutes; log = log })) (Err TooLong)

-- the kind of the chip that plays a log, from its header: an RF5C68A where that is refused
abbrev pub kind : Result Header Fault → Kind
kind (Ok h) = h.kind
kind (Err fault) = Rf5c68a
