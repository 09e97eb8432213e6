use Rattle.std.proofs.Common.{◌≡◌, refl, sym, ◌∙◌, rules}
use Rattle.register_log.proofs.Packing.{wrote_then}
use Rattle.register_log.proofs.Whole.{fit_header, whole_begun}
use Rattle.register_log.proofs.recording.start.Goals as goal

pub returns : goal.returns
returns c =
    let buffer = c.args.buffer.now in
    let h = c.args.header in
    let all = wrote_then (fit_header h c.requires.fits) c.write_header.ensures c.put.ensures in
    let lender = sym all.lender in
    let last : _ ≡ c.put.new.self.buffer.now = search rules in
    record {
      buffer = last ∙ all.buffer;
      whole = whole_begun buffer _ 32 h c.requires.fits refl (last ∙ all.buffer);
    }
