use Rattle.std.proofs.Common.{arith, to_z-of_z}
use Rattle.lines.proofs.Steps.{put_written}
use Rattle.lines.proofs.line.put_tick.Goals as goal

pub returns-clause-buffer : goal.returns-clause-buffer
returns-clause-buffer c =
    let fits_left = c.ranges.left in
    let fits_right = c.ranges.right in
    let left = simp to_z-of_z at c.put_number-after_left.ensures.place in
    let right = simp to_z-of_z at c.put_number-after_right.ensures.place in
    let left_written = simp to_z-of_z at c.put_number-after_left.ensures.buffer in
    let right_written = simp to_z-of_z at c.put_number-after_right.ensures.buffer in
    let line =
    put_written c.args.buffer.now c.args.place c.put_number-after_left.result c.put_number-after_right.result c.args.left c.args.right
    left right (omega arith) (omega arith) in
    cc
