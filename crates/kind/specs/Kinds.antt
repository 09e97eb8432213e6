-- The names of the kinds, and the bit that stands for each in a log.
use Rattle.std.specs.Prelude.{ℕ, Bool, true, false, List, codes}
use Rattle.kind.specs.declared.Kind.{Kind}
use Rattle.kind.specs.declared.Kind.TheVariants.{Rf5c68a, Rf5c164}

abbrev pub name : Kind → List ℕ
name Rf5c68a = codes "RF5C68A"
name Rf5c164 = codes "RF5C164"

abbrev pub bit_of : Kind → Bool
bit_of Rf5c68a = false
bit_of Rf5c164 = true

abbrev pub kind_of : Bool → Kind
kind_of false = Rf5c68a
kind_of true = Rf5c164
