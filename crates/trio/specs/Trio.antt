-- A mix and two stems: voices 1 to 4, and voices 5 to 8.
use Rattle.std.specs.Prelude.{◌≡◌, ℕ, cond, List, [], ◌∷◌, replicate, Option, Some, None, ◌+ℤ◌}
use Rattle.wave.specs.Memory.{Memory}
use Rattle.wave.specs.Lent.{ram}
use Rattle.voice.specs.Frame.{totals}
use Rattle.voice.specs.declared.frame.Converter.TheVariants.{Bits16, Bits10, Bits8}
use Rattle.kind.specs.declared.Kind.{Kind}
use Rattle.calls.specs.declared.Call.TheVariants.{Tick}
use Rattle.session.specs.Station.{Model, begun, tried, tried_all}
use Rattle.session.specs.Law as law
use Rattle.session.specs.declared.call.Call.{Call}
use Rattle.session.specs.declared.call.Call.TheVariants.{Chip}
use Rattle.trio.specs.declared.Totals.{Totals}

abbrev pub low : ℕ
low = 15

abbrev pub high : ℕ
high = 240

-- the division
abbrev pub groups : List ℕ
groups = low ∷ high ∷ []

-- New stations, each over a memory

abbrev pub lent_buffer : List ℕ
lent_buffer = replicate 16 0

abbrev pub mix : Memory → Kind → List ℕ → Model
mix memory kind log = begun 255 kind Bits16 memory log lent_buffer

abbrev pub low_stem : Memory → Kind → List ℕ → Model
low_stem memory kind log = begun low kind Bits10 memory log lent_buffer

abbrev pub high_stem : Memory → Kind → List ℕ → Model
high_stem memory kind log = begun high kind Bits8 memory log lent_buffer

abbrev pub stems : Memory → Kind → List ℕ → List Model
stems memory kind log = low_stem memory kind log ∷ high_stem memory kind log ∷ []

-- a RAM of so many zeros
unfoldable pub zeroed : ℕ → Memory
zeroed n = ram (replicate n 0)

-- A tick after some calls

abbrev pub tick : Call
tick = Chip Tick

abbrev pub after : List Call → Model → Model
after calls s = tried tick (tried_all calls s)

-- the totals in the frames of a mix and its stems, if the mix's tick was granted
abbrev pub totals_of : Model → Model → Model → Option Totals
totals_of m l h = cond (law.ticked tick m.answer) (Some (record { mix = totals m.frame; low = totals l.frame; high = totals h.frame })) None

-- the totals by the rules, each station over a memory of its own
abbrev pub ticked : Memory → Memory → Memory → Kind → List ℕ → List Call → Option Totals
ticked a b c kind log calls =
    totals_of (after calls (mix a kind log)) (after calls (low_stem b kind log)) (after calls (high_stem c kind log))

-- the totals of the stems sum to the mix's
abbrev pub AddUp : Option Totals → Type 0
AddUp None = Unit {0}
AddUp (Some t) = (t.low.left +ℤ t.high.left ≡ t.mix.left) × (t.low.right +ℤ t.high.right ≡ t.mix.right)
