-- A player's steps, with one more.
use Rattle.std.proofs.Common.{◌≡◌, ℕ, suc, ◌<◌, ◌≤◌, Bool, false, List, [], ◌++◌, None, Ok, Err, Result, append-nil, refl, true≢false, sym, ap, ◌∙◌, ⊎_elim, subst, arith}
use Rattle.std.proofs.lemmas.Bool.{cases_lt}
use Rattle.chip.specs.Chip.{state}
use Rattle.chip.specs.Port.{State as ChipState}
use Rattle.chip.specs.declared.chip.Chip.{Chip}
use Rattle.player.specs.Step.{Stand, stand, stepped, step}
use Rattle.player.specs.declared.fault.Fault.{Fault}
use Rattle.player.specs.declared.player.Player.{Player}
use Rattle.player.specs.declared.player.Progress.{Progress}
use Rattle.player.specs.declared.player.Progress.TheVariants.{Taken, Ticked, Ended as AtEnd}
use Rattle.render.specs.Last.{ending}
use Rattle.render.specs.Playback.{PlaysOn}
use Rattle.render.specs.Steps.{Reached, reached, Reaches, step_line, with_step, one_more, after}
use Rattle.render.specs.declared.playback.Playback.{Playback}
use Rattle.render.proofs.Endings.{ticks}

pub none_taken : (log : List ℕ) (c : ChipState) (p : Stand) → Reaches log c p (reached c p [])
unfolding after
none_taken log c p = record {
  steps = 0;
  there = refl;
  going = λ n less. absurd (omega (arith, less));
}

-- a step that is no tick adds no line
pub no_line : (lines : List ℕ) (c : ChipState) (answer : Result Progress Fault) → ticks answer ≡ false → lines ≡ lines ++ step_line c answer
no_line lines c (Ok Taken) h = sym (append-nil lines)
no_line lines c (Ok Ticked) h = absurd (true≢false h)
no_line lines c (Ok (AtEnd bit)) h = sym (append-nil lines)
no_line lines c (Err fault) h = sym (append-nil lines)

-- from a player that has not stopped, one step more
grown :
    (log : List ℕ) (c : ChipState) (p : Stand) (r more : Reached) → ending r.player.state ≡ None → one_more log r ≡ more →
    Reaches log c p r → Reaches log c p more
unfolding after
grown log c p r more going e h = record {
  steps = suc h.steps;
  there = ap (one_more log) h.there ∙ e;
  going = λ n less.
      ⊎_elim
      (λ (earlier : n < h.steps). h.going n earlier)
      (λ (now : h.steps ≤ n).
      let last : h.steps ≡ n = omega (arith, less, now) in
      subst (λ k. ending (after k log c p).player.state ≡ None) last (ap (λ x. ending x.player.state) h.there ∙ going))
      (cases_lt n h.steps);
}

-- one more step of a playback, by what it left and answered
module _ {M : Type 0} (bytes : M → List ℕ) (takes : M → ℕ → Bool) (s : Playback M) (chip : Chip M) (player : Player) (answer : Result Progress Fault) (e : stepped (state bytes takes chip) (stand player) answer ≡ step s.player.reader.log.now (state bytes takes s.chip) (stand s.player)) where
  pub stepped_on :
      (old : Playback M) (piece longer : List ℕ) → s.player.reader.log.now ≡ old.player.reader.log.now → ending s.player.state ≡ None →
      longer ≡ piece ++ step_line (state bytes takes chip) answer → PlaysOn bytes takes old s piece →
      PlaysOn bytes takes old (record { chip = chip; player = player }) longer
  stepped_on old piece longer log going f h =
      grown old.player.reader.log.now (state bytes takes old.chip) (stand old.player) (reached (state bytes takes s.chip) (stand s.player) piece)
      (reached (state bytes takes chip) (stand player) longer) going
      (ap (λ l. one_more l (reached (state bytes takes s.chip) (stand s.player) piece)) (sym log)
      ∙ ap (with_step piece) (sym e)
      ∙ ap (reached (state bytes takes chip) (stand player)) (sym f))
      h
