use Rattle.render.proofs.Inputs.{printed_of_input}
use Rattle.render.proofs.stem.run.Goals as goal

pub returns : goal.returns
returns g c =
    let read = rw (c.take.ensures.inner, c.take.ensures.limit, c.new-bytes.ensures.items) at c.in_ok-read_to_end.ensures.bytes in
    let wrote = rw c.deref.ensures.value at c.answer.ensures in
    printed_of_input (g.R.Read.remaining c.args.input) c.read_to_end.new.buf.items _ _ c.answer.result read wrote
