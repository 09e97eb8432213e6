-- The text from where a player stands is a step's, and then the text from where that leaves it.
use Rattle.std.proofs.Common.{◌≡◌, ℕ, zero, suc, ◌≤◌, Bool, false, List, ◌++◌, Some, Ok, Err, Result, refl, true≢false, sym, ap, ◌∙◌, arith}
use Rattle.voice.specs.Frame.{Frame}
use Rattle.chip.specs.Chip.{state}
use Rattle.chip.specs.Port.{State as ChipState}
use Rattle.chip.specs.declared.chip.Chip.{Chip}
use Rattle.player.specs.Step.{Stand, Stepped, standing, stand, stepped, step, framed}
use Rattle.player.specs.declared.fault.Fault.{Fault}
use Rattle.player.specs.declared.player.Player.{Player}
use Rattle.player.specs.declared.player.Progress.{Progress}
use Rattle.player.specs.declared.player.Progress.TheVariants.{Taken, Ticked, Ended as AtEnd}
use Rattle.player.specs.declared.player.State.{State}
use Rattle.player.specs.declared.player.State.TheVariants.{Between, Waiting, Ended, Faulted}
use Rattle.player.specs.Left.{stops, left}
use Rattle.render.specs.Last.{ending}
use Rattle.render.specs.declared.last.Last.{Last}
use Rattle.render.specs.declared.last.Last.TheVariants.{End, Fault as Faulty}
use Rattle.render.specs.Text.{frame_line, ticked_line, by_answer, onward, lines, text, last_line, closed}
use Rattle.render.specs.Playback.{rest}
use Rattle.render.specs.declared.playback.Playback.{Playback}
use Rattle.player.proofs.Left.{step_leaves, one_left}
use Rattle.render.proofs.Endings.{answered, ticks, step_told}

-- what follows counts only after a step that does not stop the player
same_following :
    (f g : ChipState → Stand → List ℕ) (c : ChipState) (p : Stand) (answer : Result Progress Fault) →
    (stops answer ≡ false → f c p ≡ g c p) → by_answer f c p answer ≡ by_answer g c p answer
same_following f g c p (Ok Taken) h = h refl
same_following f g c p (Ok Ticked) h = ap (λ t. ticked_line c ++ t) (h refl)
same_following f g c p (Ok (AtEnd bit)) h = refl
same_following f g c p (Err fault) h = refl

-- more steps than are left add nothing
enough : (n m : ℕ) (log : List ℕ) (c : ChipState) (p : Stand) → left log p ≤ n → left log p ≤ m → lines n log c p ≡ lines m log c p
unfolding lines
enough zero m log c p h k = absurd (omega (arith, one_left log p))
enough (suc n) zero log c p h k = absurd (omega (arith, one_left log p))
enough (suc n) (suc m) log c p h k =
    let s : Stepped = step log c p in
    same_following (lines n log) (lines m log) s.chip s.player s.answer
    (λ go. let less = step_leaves log c p go in enough n m log s.chip s.player (omega arith) (omega arith))

-- the text is that of a step, and what follows it
pub text_step : (log : List ℕ) (c : ChipState) (p : Stand) → text log c p ≡ onward (text log) (step log c p)
unfolding lines
text_step log c p = from (left log p) refl
  where
    from : (n : ℕ) → left log p ≡ n → lines n log c p ≡ onward (text log) (step log c p)
    from zero e = absurd (omega (arith, one_left log p))
    from (suc n) e =
        let s : Stepped = step log c p in
        same_following (lines n log) (text log) s.chip s.player s.answer
        (λ go. let less = step_leaves log c p go in enough n (left log s.player) log s.chip s.player (omega arith) (omega arith))

-- a player that has stopped has its last line, and nothing else
pub text_closed : (log : List ℕ) (c : ChipState) (place : ℕ) (s : State) → text log c (standing place s) ≡ closed (ending s) (text log c (standing place s))
text_closed log c place Between = refl
text_closed log c place (Waiting bit n) = refl
text_closed log c place (Ended bit) = text_step log c (standing place (Ended bit))
text_closed log c place (Faulted fault) = text_step log c (standing place (Faulted fault))

-- A step of a playback, by what it left and answered: the log is the same afterwards

module _ {M : Type 0} (bytes : M → List ℕ) (takes : M → ℕ → Bool) (s : Playback M) (chip : Chip M) (player : Player) (answer : Result Progress Fault) (same : player.reader.log.now ≡ s.player.reader.log.now) (e : stepped (state bytes takes chip) (stand player) answer ≡ step s.player.reader.log.now (state bytes takes s.chip) (stand s.player)) where
  pub played_on : rest bytes takes s ≡ by_answer (text player.reader.log.now) (state bytes takes chip) (stand player) answer
  played_on =
      text_step s.player.reader.log.now (state bytes takes s.chip) (stand s.player)
      ∙ ap (onward (text s.player.reader.log.now)) (sym e)
      ∙ ap (λ x. by_answer (text x) (state bytes takes chip) (stand player) answer) (sym same)

  -- the frame that a tick filled has the line of that tick
  pub line_told : (before after : Frame) → after ≡ framed before (step s.player.reader.log.now (state bytes takes s.chip) (stand s.player)) (Ok Ticked) → frame_line after ≡ ticked_line (state bytes takes chip)
  line_told before after h = ap frame_line h ∙ ap (λ x. ticked_line x.chip) (sym e)

  -- the state tells whether the step has stopped the player, and with which last line
  pub ending_told : ending player.state ≡ answered answer
  ending_told =
      ap (λ x. ending x.player.state) e
      ∙ step_told s.player.reader.log.now (state bytes takes s.chip) (stand s.player)
      ∙ ap (λ x. answered x.answer) (sym e)

  -- a step that is no tick has no text
  pub quiet : ticks answer ≡ false → rest bytes takes s ≡ rest bytes takes (record { chip = chip; player = player })
  quiet h = by answer played_on ending_told h
    where
      left_with : (l : Last) → ending player.state ≡ Some l → rest bytes takes (record { chip = chip; player = player }) ≡ last_line l
      left_with l k =
          text_closed player.reader.log.now (state bytes takes chip) player.reader.place player.state
          ∙ ap (λ o. closed o (text player.reader.log.now (state bytes takes chip) (stand player))) k

      by :
          (a : Result Progress Fault) → rest bytes takes s ≡ by_answer (text player.reader.log.now) (state bytes takes chip) (stand player) a →
          ending player.state ≡ answered a → ticks a ≡ false → rest bytes takes s ≡ rest bytes takes (record { chip = chip; player = player })
      by (Ok Taken) p k h = p
      by (Ok Ticked) p k h = absurd (true≢false h)
      by (Ok (AtEnd bit)) p k h = p ∙ sym (left_with End k)
      by (Err fault) p k h = p ∙ sym (left_with (Faulty fault) k)
