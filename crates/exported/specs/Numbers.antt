-- Numbers of the C interface's own.
use Rattle.std.specs.Prelude.{ℕ, Bool, true, false, cond, not, Option, Some, None, ◌==◌}

-- in place of the number of a refusal or a fault, where there is none
abbrev pub no_refusal : ℕ
no_refusal = 0

-- the number of no, and that of yes
abbrev pub flag : Bool → ℕ
flag false = 0
flag true = 1

-- any number but that of no is yes
abbrev pub is_set : ℕ → Bool
is_set number = not (number == flag false)

-- a number that counts only where a flag is set
abbrev pub present : ℕ → ℕ → Option ℕ
present there n = cond (is_set there) (Some n) None
