-- Granted ticks: their frames, and eight voices.
use Rattle.std.proofs.Common.{◌≡◌, ℕ, Bool, true, cond, eqb, List, length, Option, Some, Ok, Err, Result, refl, ◌∙◌, arith}
use Rattle.outcome.specs.Outcome.{kept}
use Rattle.voice.specs.Frame.{frame as frame-of, Frame}
use Rattle.chip.specs.Port.{State as ChipState, memory_size, filled}
use Rattle.chip.specs.Registers.{edited, registered, ticked as ticked-registers}
use Rattle.chip.specs.declared.refusal.Refusal.{Refusal}
use Rattle.chip.specs.declared.registers.Registers.{Registers}
use Rattle.chip.proofs.Each.{each_length}
use Rattle.calls.specs.Calls.{no_reply, after}
use Rattle.calls.specs.declared.Call.{Call as ChipCall}
use Rattle.calls.specs.declared.Call.TheVariants.{Reset, Write, Read, Inspect, Tick, Tell}
use Rattle.calls.proofs.Keeps.{Eight, write_keeps, registered_keeps}
use Rattle.register_log.specs.Reading.{Found, decode}
use Rattle.register_log.specs.declared.fault.Fault.{Fault as LogFault}
use Rattle.player.specs.Step.{Stepped, put, taken, by_state, step, framed}
use Rattle.player.proofs.Puts.{put_ends}
use Rattle.player.specs.declared.fault.Fault.{Fault}
use Rattle.player.specs.declared.player.Progress.{Progress}
use Rattle.player.specs.declared.player.State.{State}
use Rattle.player.specs.declared.player.State.TheVariants.{Between, Waiting, Ended, Faulted}
use Rattle.session.specs.Station.{Model, tried}
use Rattle.session.specs.Law.{granted, step_ticked, ticked, Agrees, same, other_position, own_contributions}
use Rattle.session.specs.declared.call.Answer.{Answer}
use Rattle.session.specs.declared.call.Answer.TheVariants as answered
use Rattle.session.specs.declared.call.Call.{Call}
use Rattle.session.specs.declared.call.Call.TheVariants.{Chip, Step}

-- the frame of the voices as they stand
abbrev pub frame_now : Model → Frame
frame_now s = frame-of s.chip.registers.setup.converter s.chip.registers.voices

tick_frame : (before : Frame) (k : Registers) (o : Result Registers Refusal) → granted (Some (answered.Chip (no_reply o))) ≡ true → filled before o ≡ frame-of (kept k o).setup.converter (kept k o).voices
tick_frame before k o h = grind arith

step_frame : (before : Frame) (t : Stepped) (p : Result Progress Fault) → step_ticked (Some (answered.Step p)) ≡ true → framed before t p ≡ frame-of t.chip.registers.setup.converter t.chip.registers.voices
step_frame before t p h = grind arith

-- a granted tick fills the frame
pub frame_filled : (call : Call) (s : Model) → ticked call (tried call s).answer ≡ true → (tried call s).frame ≡ frame_now (tried call s)
frame_filled (Chip call) s h = grind (arith, tick_frame)
frame_filled Step s h = let t = step s.log s.chip s.player in step_frame s.frame t t.answer h

-- a stem whose answer agrees ticks with the mix
pub ticks_alike : (g : ℕ) (call : Call) (x y : Option Answer) → Agrees g call x y → ticked call y ≡ true → ticked call x ≡ true
ticks_alike g call x y same h = h
ticks_alike g call x y (other_position l u e) h = grind arith
ticks_alike g call x y (own_contributions l k e) h = grind arith

-- Eight voices

registered_eight : (r : Registers) (a b : ℕ) → Eight r → Eight (registered r a b)
registered_eight r a b h = registered_keeps Eight r a b h (each_length (λ k v. cond (eqb k r.control.selected) (edited a b v) v) 0 r.voices ∙ h) h h

ticked_eight : (t : Bool) (e : List ℕ) (r : Registers) (x : Refusal) → Eight r → Eight (kept r (cond t (Ok (ticked-registers e r)) (Err x)))
ticked_eight t e r x h = grind (arith, each_length)

chip_eight : (call : ChipCall) (c : ChipState) → Eight c.registers → Eight (after call c).registers
chip_eight Reset c h = refl
chip_eight (Write a b) c h = write_keeps Eight registered_eight c a b h
chip_eight (Read a) c h = h
chip_eight (Inspect o) c h = h
chip_eight Tick c h = ticked_eight (eqb (length c.memory.bytes) memory_size) c.memory.bytes c.registers _ h
chip_eight Tell c h = h

put_eight : (bytes : List ℕ) (address bit place : ℕ) (c : ChipState) → Eight c.registers → Eight (put bytes address bit place c).chip.registers
put_eight bytes address bit place c h =
    put_ends (λ d. Eight d.registers) (λ t. Eight t.chip.registers) place bit (λ d a b k. write_keeps Eight registered_eight d a b k) (λ d k. k) (λ d r a k. k)
    bytes address c h

taken_eight : (c : ChipState) → Eight c.registers → (place : ℕ) (r : Result Found LogFault) → Eight (taken c place r).chip.registers
taken_eight c h place r = grind (arith, put_eight)

step_eight : (log : List ℕ) (c : ChipState) (place : ℕ) (s : State) → Eight c.registers → Eight (by_state log c place s).chip.registers
step_eight log c place Between h = grind (arith, taken_eight c h place (decode log place))
step_eight log c place (Waiting bit left) h = grind (arith, each_length)
step_eight log c place (Ended bit) h = h
step_eight log c place (Faulted fault) h = h

pub tried_eight : (call : Call) (s : Model) → Eight s.chip.registers → Eight (tried call s).chip.registers
tried_eight (Chip call) s h = chip_eight call s.chip h
tried_eight Step s h = step_eight s.log s.chip s.player.place s.player.state h
