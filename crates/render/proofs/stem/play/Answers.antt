use Rattle.std.proofs.Common.{subst}
use Rattle.std.specs.Prelude.{OnOk}
use Rattle.std.specs.Io.KnownBytes.{Appends}
use Rattle.render.proofs.stem.play.Goals as goal

pub returns : goal.returns
returns g c =
    let text =
    rw (
      c.new-3.ensures.memory,
      c.new-3.ensures.registers,
      c.setup.ensures,
      c.new.ensures.0,
      c.deref_mut.ensures.value,
      c.in_ok-first.ensures,
      c.new-2.ensures.0,
      c.deref_mut-2.ensures.value,
      c.in_ok-second.ensures,
    )
    at c.new-playback.ensures.text in
    subst (λ t. OnOk c.write_out.result (Appends (g.W.Write.contents c.args.output.now) (g.W.Write.contents c.write_out.new.output) t)) text
    c.write_out.ensures
