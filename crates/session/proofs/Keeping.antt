-- Stems stay stems of their mix, whatever is tried on all of them.
use Rattle.std.proofs.Common.{◌≡◌, ℕ, zero, suc, ◌+◌, ◌<◌, List, [], ◌∷◌, map, length, sym, refl, ap, ◌∙◌, ap₂, lit<, arith}
use lib.Bits.{xor_lt}
use Rattle.std.specs.List.{AllByRecursion}
use Rattle.voice.specs.declared.frame.Converter.{Converter}
use Rattle.kind.specs.declared.Kind.{Kind}
use Rattle.chip.specs.declared.registers.Setup.{Setup}
use Rattle.chip.specs.Registers.{made}
use Rattle.chip.specs.Port.{State as ChipState, shown}
use Rattle.calls.specs.Calls.{after, buffered}
use Rattle.calls.specs.declared.Call.TheVariants.{Reset, Write, Read, Inspect, Tick, Tell}
use Rattle.calls.specs.declared.Call.{Call as ChipCall}
use Rattle.player.specs.Step.{step}
use Rattle.session.specs.Station.{Model, tried}
use Rattle.session.specs.Groups.{Divides, outside}
use Rattle.session.specs.Stems.{Each, New, Begun, muting, StemOf, MixAndStems}
use Rattle.session.specs.declared.call.Call.{Call}
use Rattle.session.specs.declared.call.Call.TheVariants.{Chip, Step}
use Rattle.session.proofs.Muting.{muting_chip, muting_stepped, step-muting, reset-muting, after-muting}

pub outside_byte : (g : ℕ) → g < 256 → outside g < 256
outside_byte g h = xor_lt 8 g 255 h (lit< tt)

-- a stem's chip
abbrev pub own : Model → Converter
own s = s.chip.registers.setup.converter

pub chip_of : (mix : Model) (g : ℕ) (s : Model) → StemOf mix g s → s.chip ≡ muting_chip (outside g) (own s) mix.chip
chip_of mix g s w = ap₂ (λ r m. record { registers = r; memory = m }) w.registers w.memory

-- what such a chip has
from_chip :
    (m : ℕ) (d : Converter) (c e : ChipState) → c ≡ muting_chip m d e →
    (c.memory ≡ e.memory) × (c.registers ≡ muting m c.registers.setup.converter e.registers)
from_chip m d c e h =
    let same : c.registers.setup.converter ≡ d = ap (λ x. x.registers.setup.converter) h in
    (ap (λ x. x.memory) h, ap (λ x. x.registers) h ∙ ap (λ k. muting m k e.registers) (sym same))

-- buffers keep their length

length-shown : (bytes : List ℕ) (place n : ℕ) → length (shown bytes place n) ≡ n
length-shown bytes place zero = refl
length-shown bytes place (suc n) = ap suc (length-shown bytes (place + 1) n)

pub buffer_length : (call : ChipCall) (c : ChipState) (b : List ℕ) → length (buffered call c b) ≡ length b
buffer_length Reset c b = refl
buffer_length (Write a x) c b = refl
buffer_length (Read a) c b = refl
buffer_length (Inspect o) c b = grind (arith, length-shown)
buffer_length Tick c b = refl
buffer_length Tell c b = refl

-- One call

pub step_of : (mix : Model) (g : ℕ) (s : Model) → StemOf mix g s → step s.log s.chip s.player ≡ muting_stepped (outside g) (own s) (step mix.log mix.chip mix.player)
step_of mix g s w =
    ap (λ l. step l s.chip s.player) w.log
    ∙ ap (λ c. step mix.log c s.player) (chip_of mix g s w)
    ∙ ap (step mix.log (muting_chip (outside g) (own s) mix.chip)) w.player
    ∙ step-muting (outside g) (own s) mix.log mix.chip mix.player.place mix.player.state

pub stem_tried : (mix : Model) (g : ℕ) (s : Model) → g < 256 → (call : Call) → StemOf mix g s → StemOf (tried call mix) g (tried call s)
stem_tried mix g s small (Chip call) w =
    let m = outside g in
    let d = own s in
    let e : after call s.chip ≡ muting_chip m d (after call mix.chip) =
    ap (after call) (chip_of mix g s w) ∙ after-muting m d (outside_byte g small) call mix.chip in
    let parts = from_chip m d (after call s.chip) (after call mix.chip) e in
    record {
      log = w.log;
      player = w.player;
      memory = parts.0;
      registers = parts.1;
      buffer = buffer_length call s.chip s.buffer ∙ w.buffer ∙ sym (buffer_length call mix.chip mix.buffer);
    }
stem_tried mix g s small Step w =
    let m = outside g in
    let d = own s in
    let e = step_of mix g s w in
    let parts = from_chip m d (step s.log s.chip s.player).chip (step mix.log mix.chip mix.player).chip (ap (λ t. t.chip) e) in
    record {
      log = w.log;
      player = ap (λ t. t.player) e;
      memory = parts.0;
      registers = parts.1;
      buffer = w.buffer;
    }

-- all stems
pub stems_tried : (mix : Model) (groups : List ℕ) (stems : List Model) → AllByRecursion (λ g. g < 256) groups → (call : Call) → Each (StemOf mix) groups stems → Each (StemOf (tried call mix)) groups (map (tried call) stems)
stems_tried mix [] [] small call w = tt
stems_tried mix [] (s ∷ stems) small call w = w
stems_tried mix (g ∷ groups) [] small call w = w
stems_tried mix (g ∷ groups) (s ∷ stems) small call w = (stem_tried mix g s small.0 call w.0, stems_tried mix groups stems small.1 call w.1)

-- New stations

new_stem :
    (kind : Kind) (mix : Model) (g : ℕ) (s : Model) → g < 256 → New kind 0 mix.log mix → New kind (outside g) mix.log s →
    s.chip.memory ≡ mix.chip.memory → length s.buffer ≡ length mix.buffer → StemOf mix g s
new_stem kind mix g s small a b em eb =
    let m = outside g in
    let d = own s in
    let fresh : Setup = record { kind = kind; converter = own mix; mutes = 0 } in
    let e : made (record { kind = kind; converter = d; mutes = m }) ≡ muting m d (made fresh) = reset-muting m d (outside_byte g small) (made fresh) in
    record {
      log = b.plays;
      player = b.player ∙ sym a.player;
      memory = em;
      registers = b.registers ∙ e ∙ ap (muting m d) (sym a.registers);
      buffer = eb;
    }

new_stems :
    (kind : Kind) (mix : Model) (groups : List ℕ) (stems : List Model) → AllByRecursion (λ g. g < 256) groups → New kind 0 mix.log mix →
    Each (λ g s. New kind (outside g) mix.log s) groups stems → AllByRecursion (λ s. s.chip.memory ≡ mix.chip.memory) stems →
    AllByRecursion (λ s. length s.buffer ≡ length mix.buffer) stems → Each (StemOf mix) groups stems
new_stems kind mix [] [] small a b em eb = tt
new_stems kind mix [] (s ∷ stems) small a b em eb = b
new_stems kind mix (g ∷ groups) [] small a b em eb = b
new_stems kind mix (g ∷ groups) (s ∷ stems) small a b em eb =
    (new_stem kind mix g s small.0 a b.0 em.0 eb.0, new_stems kind mix groups stems small.1 a b.1 em.1 eb.1)

pub begun_stems : (kind : Kind) (groups : List ℕ) (mix : Model) (stems : List Model) → Divides groups → Begun kind groups mix stems → MixAndStems groups mix stems
begun_stems kind groups mix stems div b =
    record {
      eight = ap (λ r. length r.voices) b.new_mix.registers;
      each_stem = new_stems kind mix groups stems div.bytes b.new_mix b.new_stems b.memories b.buffers;
    }
