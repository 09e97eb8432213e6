-- The control record: whether the chip sounds, the wave bank, and the voice that the host port reaches.
use Rattle.std.specs.Prelude.{ℕ, ◌+◌, ◌*◌, ◌/◌, ◌%◌, ◌^◌, Bool, cond, ◌==◌}
use Rattle.chip.specs.declared.control.Control.{Control}

-- bit k of a number
abbrev pub bit : ℕ → ℕ → Bool
bit n k = n / 2 ^ k % 2 == 1

-- after a control byte: bit 7 is ON, and bit 6 says which bank the low bits are
abbrev pub controlled : Control → ℕ → Control
controlled c byte =
    record {
      on = bit byte 7;
      bank = cond (bit byte 6) c.bank (byte % 16);
      selected = cond (bit byte 6) (byte % 8) c.selected;
    }

-- with ON set or clear
abbrev pub switched : Control → Bool → Control
switched c on = record { on = on; bank = c.bank; selected = c.selected }

-- how many places the window shows
abbrev pub window_size : ℕ
window_size = 4096

-- the memory place behind a window offset
abbrev pub place_behind : Control → ℕ → ℕ
place_behind c offset = c.bank * window_size + offset
