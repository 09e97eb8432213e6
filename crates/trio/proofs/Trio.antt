-- The totals of the two stems sum to the mix's.
use Rattle.std.proofs.lemmas.List.{replicate-append-replicate, take-append-drop}
use Rattle.std.proofs.Common.{◌≡◌, ℕ, zero, suc, ◌+◌, ◌<◌, replicate, take, drop, ◌++◌, Bool, true, false, cond, List, [], ◌∷◌, get_or, Some, None, ◌+ℤ◌, refl, sym, ap, ap₂, ◌∙◌, lit<, arith}
use lib.IntN.{+ℤ_idr}
use Rattle.std.proofs.lemmas.Bool.{cond-true}
use Rattle.wave.specs.Memory.{Memory}
use Rattle.wave.specs.Lent.{used, ram, rom}
use Rattle.wave.specs.Board.{board}
use Rattle.wave.proofs.Joins.{alike_with_none, one_of_parts}
use Rattle.wave.proofs.Runs.{one_meaning}
use Rattle.voice.specs.Frame.{totals}
use Rattle.kind.specs.declared.Kind.{Kind}
use Rattle.session.specs.Groups.{holders, Divides}
use Rattle.session.specs.Station.{Model}
use Rattle.session.specs.Stems.{Begun}
use Rattle.session.specs.Law as rule
use Rattle.session.specs.Law.{Law}
use Rattle.session.specs.declared.call.Call.{Call}
use Rattle.session.proofs.Runs.{law as the_law}
use Rattle.trio.specs.Trio.{groups, mix, low_stem, high_stem, stems, zeroed, tick, after, totals_of, ticked, AddUp}

once : (k : ℕ) → k < 8 → holders groups k ≡ 1
once zero h = refl
once (suc zero) h = refl
once (suc (suc zero)) h = refl
once (suc (suc (suc zero))) h = refl
once (suc (suc (suc (suc zero)))) h = refl
once (suc (suc (suc (suc (suc zero))))) h = refl
once (suc (suc (suc (suc (suc (suc zero)))))) h = refl
once (suc (suc (suc (suc (suc (suc (suc zero))))))) h = refl
once (suc (suc (suc (suc (suc (suc (suc (suc k)))))))) h = absurd (omega arith)

divides : Divides groups
divides = record { bytes = (lit< tt, (lit< tt, tt)); once = once }

module _ (memory : Memory) (kind : Kind) (log : List ℕ) where
  begun : Begun kind groups (mix memory kind log) (stems memory kind log)
  begun =
      record {
        new_mix = record { plays = refl; player = refl; registers = refl };
        new_stems =
            (record { plays = refl; player = refl; registers = refl }, (record { plays = refl; player = refl; registers = refl }, tt));
        memories = (refl, (refl, tt));
        buffers = (refl, (refl, tt));
      }

  pub law : (calls : List Call) → Law groups (calls ++ tick ∷ []) (mix memory kind log) (stems memory kind log)
  law calls = the_law kind groups divides (calls ++ tick ∷ []) (mix memory kind log) (stems memory kind log) begun

adds : (m l h : Model) → (rule.ticked tick m.answer ≡ true → rule.AddUp m (l ∷ h ∷ [])) → AddUp (totals_of m l h)
adds m l h f = by (rule.ticked tick m.answer) f
  where
    by : (t : Bool) → (t ≡ true → rule.AddUp m (l ∷ h ∷ [])) → AddUp (cond t (Some (record { mix = totals m.frame; low = totals l.frame; high = totals h.frame })) None)
    by true f = (
      ap (λ x. l.frame.left.total +ℤ x) (sym (+ℤ_idr h.frame.left.total)) ∙ (f refl).left,
      ap (λ x. l.frame.right.total +ℤ x) (sym (+ℤ_idr h.frame.right.total)) ∙ (f refl).right,
    )
    by false f = tt

-- over memories of one meaning
pub ticked_adds : (memory : Memory) (kind : Kind) (log : List ℕ) (calls : List Call) → AddUp (ticked memory memory memory kind log calls)
ticked_adds memory kind log calls =
    adds (after calls (mix memory kind log)) (after calls (low_stem memory kind log)) (after calls (high_stem memory kind log))
    (λ e. (((law memory kind log calls).throughout.each calls [] tick refl).ticks e).1)

-- stations after the calls and a granted tick
module _ (a b c : Memory) (kind : Kind) (log : List ℕ) (calls : List Call) (m l h : Model) where
  pub granted :
      m ≡ after calls (mix a kind log) → l ∷ h ∷ [] ≡ after calls (low_stem b kind log) ∷ after calls (high_stem c kind log) ∷ [] →
      rule.ticked tick m.answer ≡ true → Some (record { mix = totals m.frame; low = totals l.frame; high = totals h.frame }) ≡ ticked a b c kind log calls
  granted x y e =
      sym (cond-true (rule.ticked tick m.answer) (Some (record { mix = totals m.frame; low = totals l.frame; high = totals h.frame })) None e)
      ∙ ap (λ s. totals_of s l h) x
      ∙ ap (λ s. totals_of (after calls (mix a kind log)) s h) (ap (λ r. get_or r 0 m) y)
      ∙ ap (totals_of (after calls (mix a kind log)) (after calls (low_stem b kind log))) (ap (λ r. get_or r 1 m) y)

-- Memories of one meaning

halves : (n m : ℕ) → board (zeroed n) (zeroed m) ≡ zeroed (n + m)
unfolding zeroed
halves n m = one_of_parts true (replicate n 0) (replicate m 0) ∙ ap ram (replicate-append-replicate n m 0)

rom_parts : (i : ℕ) (lent : List ℕ) → board (rom (take i lent)) (rom (drop i lent)) ≡ rom lent
rom_parts i lent = one_of_parts false (take i lent) (drop i lent) ∙ ap rom (take-append-drop i lent)

with_empty_rom : (n : ℕ) → board (zeroed n) (rom []) ≡ zeroed n
unfolding zeroed
with_empty_rom n = sym (one_meaning (used (replicate n 0)) _ (λ _. true) _ (alike_with_none (replicate n 0)))

halved : (n m : ℕ) (f s : List ℕ) → f ≡ replicate n 0 → s ≡ replicate m 0 → board (ram f) (ram s) ≡ zeroed (n + m)
unfolding zeroed
halved n m f s p q = ap₂ (λ a b. board (ram a) (ram b)) p q ∙ halves n m

whole : (n : ℕ) (w : List ℕ) → w ≡ replicate n 0 → ram w ≡ zeroed n
unfolding zeroed
whole n w p = ap ram p

module _ (kind : Kind) (log : List ℕ) (calls : List Call) where
  over_one_meaning : (a b c m : Memory) → a ≡ m → b ≡ m → c ≡ m → ticked a b c kind log calls ≡ ticked m m m kind log calls
  over_one_meaning a b c m p q r =
      ap (λ x. ticked x b c kind log calls) p ∙ ap (λ x. ticked m x c kind log calls) q ∙ ap (λ x. ticked m m x kind log calls) r

  -- a RAM, a board of two, and a board of a RAM and no ROM
  pub over_ram :
      (n m : ℕ) (w f s b e : List ℕ) → w ≡ replicate (n + m) 0 → f ≡ replicate n 0 → s ≡ replicate m 0 → b ≡ replicate (n + m) 0 → e ≡ [] →
      ticked (ram w) (board (ram f) (ram s)) (board (ram b) (rom e)) kind log calls
      ≡ ticked (zeroed (n + m)) (zeroed (n + m)) (zeroed (n + m)) kind log calls
  over_ram n m w f s b e ew ef es eb ee =
      over_one_meaning _ _ _ (zeroed (n + m)) (whole (n + m) w ew) (halved n m f s ef es)
      (ap₂ (λ x y. board x (rom y)) (whole (n + m) b eb) ee ∙ with_empty_rom (n + m))

  -- a board of a RAM and a ROM, and such boards whose RAM or ROM is a board of two
  pub over_rom :
      (n m i : ℕ) (w f s b r t p q lent : List ℕ) → w ≡ replicate (n + m) 0 → f ≡ replicate n 0 → s ≡ replicate m 0 → b ≡ replicate (n + m) 0 →
      r ≡ lent → t ≡ lent → p ≡ take i lent → q ≡ drop i lent →
      ticked (board (ram w) (rom r)) (board (board (ram f) (ram s)) (rom t)) (board (ram b) (board (rom p) (rom q))) kind log calls
      ≡ ticked (board (zeroed (n + m)) (rom lent)) (board (zeroed (n + m)) (rom lent)) (board (zeroed (n + m)) (rom lent)) kind log calls
  over_rom n m i w f s b r t p q lent ew ef es eb er et ep eq =
      over_one_meaning _ _ _ (board (zeroed (n + m)) (rom lent))
      (ap₂ (λ x y. board x (rom y)) (whole (n + m) w ew) er)
      (ap₂ (λ x y. board x (rom y)) (halved n m f s ef es) et)
      (ap₂ board (whole (n + m) b eb) (ap₂ (λ x y. board (rom x) (rom y)) ep eq ∙ rom_parts i lent))
