use Rattle.std.proofs.Common.{◌≡◌, ◌+◌, ◌<◌, length}
use Rattle.std.specs.Fmt.{decimal}
use Rattle.lines.specs.Placed.{placed}
use Rattle.lines.proofs.number.put_digits.Given as goal

-- the digits that are left, written into the buffer as it stands, give the whole number
abbrev pub invariant-loop-rest : goal.invariant-loop-rest
invariant-loop-rest l = record {
  last : l.last + 1 ≡ l.place + length (decimal l.rest);
  within : l.last < length l.buffer;
  same_length : length l.buffer ≡ length l.initial.buffer;
  same : placed l.buffer l.place (decimal l.rest) ≡ placed l.initial.buffer l.place (decimal l.number);
}

abbrev pub decreases-loop-rest : goal.decreases-loop-rest
decreases-loop-rest l = l.rest
