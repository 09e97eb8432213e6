-- Playing goes on with a step, and then from where that leaves it.
use Rattle.std.proofs.Common.{◌≡◌, ℕ, zero, suc, ◌<◌, ◌≤◌, true, false, ◌&&◌, cond, length, List, Ok, Err, Result, refl, sym, ap, ◌∙◌, arith}
use Rattle.std.specs.Prelude.{nat_lt}
use Rattle.chip.specs.Port.{State}
use Rattle.player.specs.Left.{stops, left}
use Rattle.player.specs.Step.{Stand, Stepped, stepped, step}
use Rattle.player.specs.declared.fault.Fault.{Fault}
use Rattle.player.specs.declared.player.Progress.{Progress}
use Rattle.player.specs.declared.player.Progress.TheVariants.{Taken, Ticked, Ended}
use Rattle.player.proofs.Left.{step_leaves, one_left}
use Rattle.exported.specs.Plays.{Stage, Outcome, outcome, room, moved, heard, by_answer, onward, play, playing}

-- what follows counts only after a step that does not stop the player
same_following :
    (f g : Stage → Outcome) (s : Stage) (c : State) (p : Stand) (answer : Result Progress Fault) →
    (stops answer ≡ false → (f (moved s c p) ≡ g (moved s c p)) × (f (heard s c p) ≡ g (heard s c p))) →
    by_answer f s c p answer ≡ by_answer g s c p answer
same_following f g s c p (Ok Taken) h = (h refl).0
same_following f g s c p (Ok Ticked) h = (h refl).1
same_following f g s c p (Ok (Ended b)) h = refl
same_following f g s c p (Err fault) h = refl

-- more steps than are left add nothing
enough : (n m : ℕ) (log : List ℕ) (s : Stage) → left log s.player ≤ n → left log s.player ≤ m → play n log s ≡ play m log s
unfolding play
enough zero m log s h k = absurd (omega (arith, one_left log s.player))
enough (suc n) zero log s h k = absurd (omega (arith, one_left log s.player))
enough (suc n) (suc m) log s h k =
    let t : Stepped = step log s.chip s.player in
    ap (λ o. cond (room s) o (outcome s (Ok Taken)))
    (same_following (play n log) (play m log) s t.chip t.player t.answer
    (λ go. let less = step_leaves log s.chip s.player go in (
      enough n m log (moved s t.chip t.player) (omega arith) (omega arith),
      enough n m log (heard s t.chip t.player) (omega arith) (omega arith),
    )))

play_step : (log : List ℕ) (s : Stage) → playing log s ≡ cond (room s) (onward (playing log) s (step log s.chip s.player)) (outcome s (Ok Taken))
unfolding play
play_step log s = from (left log s.player) refl
  where
    from : (n : ℕ) → left log s.player ≡ n → play n log s ≡ cond (room s) (onward (playing log) s (step log s.chip s.player)) (outcome s (Ok Taken))
    from zero e = absurd (omega (arith, one_left log s.player))
    from (suc n) e =
        let t : Stepped = step log s.chip s.player in
        ap (λ o. cond (room s) o (outcome s (Ok Taken)))
        (same_following (play n log) (playing log) s t.chip t.player t.answer
        (λ go. let less = step_leaves log s.chip s.player go in (
          enough n (left log t.player) log (moved s t.chip t.player) (omega arith) (omega arith),
          enough n (left log t.player) log (heard s t.chip t.player) (omega arith) (omega arith),
        )))

-- a step that was taken where there was room
pub played_on :
    (log : List ℕ) (s : Stage) → room s ≡ true → (c : State) (p : Stand) (answer : Result Progress Fault) →
    stepped c p answer ≡ step log s.chip s.player → playing log s ≡ by_answer (playing log) s c p answer
played_on log s r c p answer e =
    play_step log s
    ∙ ap (λ b. cond b (onward (playing log) s (step log s.chip s.player)) (outcome s (Ok Taken))) r
    ∙ ap (onward (playing log) s) (sym e)

full : (log : List ℕ) (s : Stage) → room s ≡ false → playing log s ≡ outcome s (Ok Taken)
full log s r = play_step log s ∙ ap (λ b. cond b (onward (playing log) s (step log s.chip s.player)) (outcome s (Ok Taken))) r

both : (a b c : ℕ) → a < b → a < c → nat_lt a b && nat_lt a c ≡ true
both a b c h k = grind arith

pub roomy : (s : Stage) → s.ticks < length s.totals → s.ticks < length s.words → room s ≡ true
roomy s h k = both s.ticks (length s.totals) (length s.words) h k

first_full : (a b c : ℕ) → b ≤ a → nat_lt a b && nat_lt a c ≡ false
first_full a b c h = grind arith

second_full : (a b c : ℕ) → c ≤ a → nat_lt a b && nat_lt a c ≡ false
second_full a b c h = grind arith

pub full_totals : (log : List ℕ) (s : Stage) → length s.totals ≤ s.ticks → playing log s ≡ outcome s (Ok Taken)
full_totals log s h = full log s (first_full s.ticks (length s.totals) (length s.words) h)

pub full_words : (log : List ℕ) (s : Stage) → length s.words ≤ s.ticks → playing log s ≡ outcome s (Ok Taken)
full_words log s h = full log s (second_full s.ticks (length s.totals) (length s.words) h)
