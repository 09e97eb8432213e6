-- What a writer does with its buffer.
use Rattle.std.specs.Prelude.{◌≡◌, ◌+◌, List, length}
use Rattle.register_log.specs.Fields.{Field, span, written}
use Rattle.register_log.specs.declared.bit_writer.BitWriter.{BitWriter}

-- the fields stand in the buffer from the old place to the new one; it is the same buffer
pub record Wrote (old new : BitWriter) (fields : List Field) : Type 0 where
  pub buffer : new.buffer.now ≡ written old.buffer.now old.place fields
  pub size : length new.buffer.now ≡ length old.buffer.now
  pub place : new.place ≡ old.place + span fields
  pub lender : new.buffer.ghost_name ≡ old.buffer.ghost_name
