use Rattle.std.proofs.Common.{length, ap, arith, lit<}
use Rattle.register_log.specs.Record.{register, window}
use Rattle.register_log.proofs.Packing.{wrote_then}
use Rattle.register_log.proofs.Records.{block_bounds, block_span, fit_fields, wrote_block}
use Rattle.register_log.proofs.recording.write_record.Goals as goal

pub returns-in-Register : goal.returns-in-Register
returns-in-Register c =
    let fit = fit_fields c.args.writer.now.place (register c.in-Register.address c.in-Register.byte) (rw c.in-Register.is at c.requires.fits) in
    let from = c.from.ensures in
    rw (c.in-Register.is, ← c.from.ensures, ← c.from-in-Register.ensures)
    (wrote_then (fit.0, (omega arith, tt)) (wrote_then (fit.0, tt) c.put.ensures c.put-in-Register.ensures) c.put-in-Register-2.ensures)

pub returns-in-Window : goal.returns-in-Window
returns-in-Window c =
    let fit = fit_fields c.args.writer.now.place (window c.in-Window.offset c.in-Window.byte) (rw c.in-Window.is at c.requires.fits) in
    let from = c.from-in-Window.ensures in
    rw (c.in-Window.is, ← c.from-in-Window.ensures, ← c.from-in-Window-2.ensures)
    (wrote_then (fit.0, (omega arith, tt)) (wrote_then (fit.0, tt) c.put-in-Window.ensures c.put-in-Window-2.ensures) c.put-in-Window-3.ensures)

pub returns-in-Wait : goal.returns-in-Wait
returns-in-Wait c =
    rw (c.in-Wait.is, ← c.from-in-Wait.ensures) (wrote_then (lit< tt, tt) c.put-in-Wait.ensures c.put-in-Wait-2.ensures)

pub bytes-requires-clause-room : goal.bytes-requires-clause-room
bytes-requires-clause-room c =
    let span = block_span c.args.writer.now.place c.in-Block.offset c.in-Block.bytes.now in
    let room = rw c.in-Block.is at c.requires.room in
    let same = ap (λ x. length x.now) c.align.ensures.buffer in
    omega arith

pub returns-in-Block : goal.returns-in-Block
returns-in-Block c =
    let bytes = c.in-Block.bytes.now in
    let fits = rw c.in-Block.is at c.requires.fits in
    let b = block_bounds c.in-Block.offset bytes fits in
    let from = c.from-in-Block.ensures in
    let head = wrote_then (lit< tt, (omega arith, tt)) (wrote_then (lit< tt, tt) c.put-in-Block.ensures c.put-in-Block-2.ensures) c.put-in-Block-3.ensures in
    rw c.in-Block.is
    (wrote_block c.in-Block.offset bytes fits (rw from at head) c.align.ensures.buffer (omega (arith, c.align.ensures.place)) c.bytes.ensures)
