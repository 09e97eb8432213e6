-- The examples by computation.
use Rattle.std.proofs.Common.{◌≡◌, ◌≢◌, sym, ℕ, ◌*◌, ◌%◌, ◌<◌, Bool, true, false, cond, eqb, List, [], ◌∷◌, length, get_or, Some, None, refl, ap, ◌∙◌, lit<, arith}
use Rattle.std.proofs.lemmas.Bool.{cond-false, ne_eqb}
use Rattle.std.proofs.lemmas.List.{get_or_past}
use Rattle.wave.specs.Search.{stop}
use Rattle.wave.specs.Lent.{used}
use Rattle.wave.proofs.Limits.{used_at, used_length}
use Rattle.voice.specs.Voice.{Contribution, positions, position, onward, place, span, step, loop_start, look, landing, heard, silence, tick, sounded}
use Rattle.voice.specs.declared.voice.Settings.{Settings}
use Rattle.voice.specs.declared.voice.Voice.{Voice}
use Rattle.register_log.specs.Fields.{field}
use Rattle.soundings.specs.Known.{Known, loud, standing, stands_in, places, further, ReadAt, seven}

-- a step of three places
three_on :
    (bytes : List ℕ) (s : Settings) (p : ℕ) → step s ≡ 3 * span → let read : ℕ = further 3 (stands_in (standing s p)) in
    get_or bytes read 0 ≢ stop →
    ReadAt bytes s read (tick bytes true (standing s p))
unfolding sounded
three_on bytes s p three other =
    let first : ℕ = onward s (Some p) in
    let there : place first ≡ further 3 (stands_in (standing s p)) = omega (arith, three) in
    let byte : look bytes first ≡ get_or bytes (further 3 (stands_in (standing s p))) 0 = ap (λ k. get_or bytes k 0) there in
    let lands : landing bytes s first ≡ first = cond-false _ _ _ (ne_eqb (look bytes first) stop (λ e. other (sym byte ∙ e))) in
    let within : first % positions ≡ first = omega arith in (
      ap (λ q. place (q % positions)) lands ∙ ap place within ∙ there,
      ap (λ q. heard s (look bytes q)) lands ∙ ap (heard s) byte,
    )

three_on_to_stop :
    (bytes : List ℕ) (s : Settings) (p again : ℕ) → step s ≡ 3 * span → loop_start s ≡ again * span → again < places →
    get_or bytes (further 3 (stands_in (standing s p))) 0 ≡ stop →
    ReadAt bytes s again (tick bytes true (standing s p))
unfolding sounded
three_on_to_stop bytes s p again three loops within stops =
    let first : ℕ = onward s (Some p) in
    let there : place first ≡ further 3 (stands_in (standing s p)) = omega (arith, three) in
    let byte : look bytes first ≡ stop = ap (λ k. get_or bytes k 0) there ∙ stops in
    let lands : landing bytes s first ≡ again * span = ap (λ b. cond (eqb b 255) (loop_start s) first) byte ∙ loops in
    let at : place (again * span) ≡ again = omega arith in
    let round : place (again * span % positions) ≡ again = omega (arith, within) in (
      ap (λ q. place (q % positions)) lands ∙ round,
      ap (λ q. heard s (look bytes q)) lands ∙ ap (λ k. heard s (get_or bytes k 0)) at,
    )

pub known : Known
unfolding field sounded
known =
    record {
      loudest = refl;
      lowest = refl;
      silent_above = refl;
      silent_below = refl;
      panned = refl;
      two = refl;
      two_limited = refl;
      three = refl;
      three_limited = refl;
      round = refl;
      at_rest = refl;
      at_rest_place = refl;
      three_places = three_on;
      three_places_to_stop = three_on_to_stop;
      skipped = refl;
      word_of_16 = refl;
      word_of_10 = refl;
      word_of_8 = refl;
      empty_header = refl;
      empty_end = refl;
      control_header = refl;
      control_record = refl;
      control_end = refl;
      concert = refl;
      deep = refl;
    }

-- a voice that reads its first byte, over a memory of that byte alone
either_way : (n : ℕ) (t : Bool) → cond t n n ≡ n
either_way n true = refl
either_way n false = refl

pub first_heard :
    (env pan byte : ℕ) (bytes : List ℕ) → bytes ≡ byte ∷ [] →
    (tick (used bytes) true (record { settings = loud env pan; phase = None; latest = silence })).latest ≡ heard (loud env pan) byte
unfolding sounded
first_heard env pan byte bytes e =
    ap (λ p. heard (loud env pan) (look (used bytes) p)) (either_way 0 (eqb (look (used bytes) 0) 255))
    ∙ ap (heard (loud env pan)) (used_at bytes 0 (lit< tt) ∙ ap (λ l. get_or l 0 0) e)

-- a memory of eight bytes uses them all
pub used_seven : used seven ≡ seven
unfolding used
used_seven = refl

-- a voice that moves over a memory of no bytes
nothing_there : (lent : List ℕ) (k : ℕ) → lent ≡ [] → get_or (used lent) k 0 ≡ 0
nothing_there lent k e = get_or_past (used lent) k 0 (omega (arith, used_length lent, ap length e))

pub moved :
    (s : Settings) (p : ℕ) (lent : List ℕ) (latest : Contribution) → lent ≡ [] →
    let v : Voice = tick (used lent) true (record { settings = s; phase = Some p; latest = latest }) in
    position v.settings v.phase ≡ onward s (Some p)
unfolding sounded
moved s p lent latest e =
    ap (λ b. cond (eqb b 255) (loop_start s) (onward s (Some p)) % positions) (nothing_there lent (place (onward s (Some p))) e)
    ∙ omega arith
