use Rattle.std.proofs.Common.{◌≡◌, ◌<◌, refl, ap, ◌∙◌, arith, lit<}
use mir.Val.{bool_byte}
use Rattle.kind.specs.Kinds.{bit_of}
use Rattle.kind.specs.declared.Kind.{Kind}
use Rattle.kind.specs.declared.Kind.TheVariants.{Rf5c68a, Rf5c164}
use Rattle.register_log.specs.Header.{kind_number}
use Rattle.register_log.proofs.Packing.{wrote_then}
use Rattle.register_log.proofs.recording.write_header.Goals as goal

bit_number : (kind : Kind) → bool_byte (bit_of kind) ≡ kind_number kind
bit_number Rf5c68a = refl
bit_number Rf5c164 = refl

small_number : (kind : Kind) → kind_number kind < 2
small_number Rf5c68a = lit< tt
small_number Rf5c164 = lit< tt

pub returns : goal.returns
returns c =
    let bit : c.from-2.result ≡ kind_number c.args.header.kind = c.from-2.ensures ∙ ap bool_byte c.from.ensures ∙ bit_number c.args.header.kind in
    let small = small_number c.args.header.kind in
    rw (← bit)
    (wrote_then (lit< tt, (omega arith, (lit< tt, tt)))
    (wrote_then (lit< tt, (omega arith, tt)) (wrote_then (lit< tt, tt) c.put.ensures c.put-2.ensures) c.put-3.ensures) c.put-4.ensures)
