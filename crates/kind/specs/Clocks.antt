-- The clocks that each chip bears, in Hz.
use Rattle.std.specs.Prelude.{ℕ, Bool, ◌&&◌, nat_le}
use Rattle.kind.specs.declared.Kind.{Kind}
use Rattle.kind.specs.declared.Kind.TheVariants.{Rf5c68a, Rf5c164}

abbrev pub top_clock : Kind → ℕ
top_clock Rf5c68a = 10000000
top_clock Rf5c164 = 12520000

abbrev pub clock_fits : Kind → ℕ → Bool
clock_fits kind clock = nat_le 1 clock && nat_le clock (top_clock kind)
