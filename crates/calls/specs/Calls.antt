-- What each call answers, and what it leaves.
use Rattle.std.specs.Prelude.{ℕ, List, [], ◌∷◌, length, Some, None, Ok, Option, Result}
use Rattle.std.specs.Result.{result_map_both}
use Rattle.outcome.specs.Outcome.{kept}
use Rattle.voice.specs.Frame.{Frame}
use Rattle.chip.specs.Registers.{reset, latest}
use Rattle.chip.specs.Port.{State, with_registers, write, read, inspect, tick, filled}
use Rattle.chip.specs.declared.refusal.Refusal.{Refusal}
use Rattle.calls.specs.declared.Call.{Call}
use Rattle.calls.specs.declared.Call.TheVariants.{Reset, Write, Read, Inspect, Tick, Tell}
use Rattle.calls.specs.declared.Reply.{Reply}
use Rattle.calls.specs.declared.Reply.TheVariants.{Byte, Contributions}

-- the reply, if the call has one, or the refusal
abbrev pub Answer : Type 0
Answer = Result (Option Reply) Refusal

-- the answer to a call with no reply of its own
abbrev pub no_reply : {A : Type 0} → Result A Refusal → Answer
no_reply outcome = result_map_both (λ _. None) (λ e. e) outcome

abbrev pub read_answer : Result ℕ Refusal → Answer
read_answer outcome = result_map_both (λ byte. Some (Byte byte)) (λ e. e) outcome

-- the answer; an inspection is of so many bytes as the buffer has
abbrev pub answer : Call → ℕ → State → Answer
answer Reset n s = Ok None
answer (Write address b) n s = no_reply (write s address b)
answer (Read address) n s = read_answer (read s.memory.bytes s.registers address)
answer (Inspect offset) n s = no_reply (inspect s.memory.bytes s.registers offset n)
answer Tick n s = no_reply (tick s.memory.bytes s.registers)
answer Tell n s = Ok (Some (Contributions (latest s.registers)))

-- the chip afterwards
abbrev pub after : Call → State → State
after Reset s = with_registers s (reset s.registers)
after (Write address b) s = kept s (write s address b)
after (Read address) s = s
after (Inspect offset) s = s
after Tick s = with_registers s (kept s.registers (tick s.memory.bytes s.registers))
after Tell s = s

-- the frame afterwards
abbrev pub framed : Call → State → Frame → Frame
framed Reset s f = f
framed (Write address b) s f = f
framed (Read address) s f = f
framed (Inspect offset) s f = f
framed Tick s f = filled f (tick s.memory.bytes s.registers)
framed Tell s f = f

-- the buffer afterwards
abbrev pub buffered : Call → State → List ℕ → List ℕ
buffered Reset s b = b
buffered (Write address byte) s b = b
buffered (Read address) s b = b
buffered (Inspect offset) s b = kept b (inspect s.memory.bytes s.registers offset (length b))
buffered Tick s b = b
buffered Tell s b = b

-- Lists of calls, one by one

abbrev pub after_all : List Call → State → State
after_all [] s = s
after_all (c ∷ rest) s = after_all rest (after c s)

abbrev pub framed_all : List Call → State → Frame → Frame
framed_all [] s f = f
framed_all (c ∷ rest) s f = framed_all rest (after c s) (framed c s f)

abbrev pub buffered_all : List Call → State → List ℕ → List ℕ
buffered_all [] s b = b
buffered_all (c ∷ rest) s b = buffered_all rest (after c s) (buffered c s b)
