use Rattle.std.proofs.Common.{◌≡◌, leb, length, refl, sym, ◌∙◌, rules}
use Rattle.std.proofs.lemmas.Bool.{and_parts, leb-true}
use Rattle.register_log.specs.Header.{most}
use Rattle.register_log.specs.Record.{values}
use Rattle.register_log.specs.Recording.{after, log_length}
use Rattle.register_log.proofs.Packing.{wrote_then}
use Rattle.register_log.proofs.Records.{fit_fields}
use Rattle.register_log.proofs.Whole.{whole_added}
use Rattle.register_log.proofs.recording.put.Goals as goal

pub returns : goal.returns
returns c =
    let buffer = c.args.buffer.now in
    let place = c.args.place in
    let entry = values c.args.record.now in
    let size = log_length (after place entry) in
    let short = leb-true size most (and_parts (leb size (length buffer)) (leb size most) c.requires.room).1 in
    let all = wrote_then (fit_fields place entry c.requires.fits) c.write_record.ensures c.put.ensures in
    let lender = sym all.lender in
    let last : _ ≡ c.put.new.self.buffer.now = search rules in
    record {
      buffer = last ∙ all.buffer;
      whole = λ h entries. whole_added place _ buffer _ entry h entries c.requires.fits short refl (last ∙ all.buffer);
    }
