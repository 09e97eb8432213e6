-- Tags and their numbers.
use Rattle.std.specs.Prelude.{◌≡◌, ℕ, ◌<◌, Result, MatchResult}
use Rattle.register_log.specs.Record.{end_tag, register_tag, window_tag, wait_tag, block_tag}
use Rattle.register_log.specs.declared.fault.Fault.{Fault}
use Rattle.register_log.specs.declared.fault.Fault.TheVariants as fault
use Rattle.register_log.specs.declared.tag.Tag.{Tag}
use Rattle.register_log.specs.declared.tag.Tag.TheVariants.{End, Register, Window, Wait, Block}

abbrev pub number : Tag → ℕ
number End = end_tag
number Register = register_tag
number Window = window_tag
number Wait = wait_tag
number Block = block_tag

-- the tag with this number, or a fault where no tag has it
abbrev pub Tells : ℕ → Result Tag Fault → Type 0
Tells n r = MatchResult r (λ tag. number tag ≡ n) (λ e. (e ≡ fault.Tag) × (block_tag < n))
