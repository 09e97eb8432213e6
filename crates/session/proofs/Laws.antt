-- The laws about a mix and its stems.
use Rattle.std.proofs.Common.{◌≡◌, ℕ, true, List, [], ◌∷◌, map, length, ℤ, Some, Result, sym, refl, ap, ◌∙◌, arith}
use Rattle.std.specs.List.{AllByRecursion}
use Rattle.std.proofs.lemmas.Bool.{false≢true}
use Rattle.outcome.specs.Outcome.{kept}
use Rattle.voice.specs.Frame.{sum, contributions, Frame}
use Rattle.voice.specs.declared.frame.Converter.TheVariants.{Bits16}
use Rattle.voice.specs.declared.stereo.SideName.{SideName}
use Rattle.voice.specs.declared.stereo.SideName.TheVariants.{Left, Right}
use Rattle.chip.specs.Port.{State as ChipState, inspect}
use Rattle.chip.specs.Registers.{each}
use Rattle.chip.specs.declared.refusal.Refusal.{Refusal}
use Rattle.calls.specs.Calls.{no_reply}
use Rattle.calls.specs.declared.Call.TheVariants.{Reset, Write, Read, Inspect, Tick, Tell}
use Rattle.session.specs.Station.{Model, tried}
use Rattle.session.specs.Groups.{Divides, outside}
use Rattle.session.specs.Stems.{Each, StemOf, MixAndStems}
use Rattle.session.specs.Law.{SameVoices, Level, Agrees, granted, inspected, ticked, Together}
use Rattle.session.specs.declared.call.Answer.TheVariants as answered
use Rattle.session.specs.declared.call.Call.{Call}
use Rattle.session.specs.declared.call.Call.TheVariants.{Chip, Step}
use Rattle.session.proofs.Agreeing.{same_voices, answers_agree}
use Rattle.session.proofs.Keeping.{chip_of, stems_tried}
use Rattle.session.proofs.Muting.{veil}
use Rattle.session.proofs.Ticks.{frame_now, frame_filled, ticks_alike, tried_eight}
use Rattle.session.proofs.Totals.{groups_sum, stations_sum}

-- Each group and its station

each_to : (R Q : ℕ → Model → Type 0) (groups : List ℕ) (stations : List Model) → ((g : ℕ) (s : Model) → R g s → Q g s) → Each R groups stations → Each Q groups stations
each_to R Q [] [] f w = tt
each_to R Q [] (s ∷ ss) f w = w
each_to R Q (g ∷ gs) [] f w = w
each_to R Q (g ∷ gs) (s ∷ ss) f w = (f g s w.0, each_to R Q gs ss f w.1)

each_map :
    (R Q : ℕ → Model → Type 0) (h : Model → Model) (groups : List ℕ) (stations : List Model) → ((g : ℕ) (s : Model) → R g s → Q g (h s)) →
    Each R groups stations → Each Q groups (map h stations)
each_map R Q h [] [] f w = tt
each_map R Q h [] (s ∷ ss) f w = w
each_map R Q h (g ∷ gs) [] f w = w
each_map R Q h (g ∷ gs) (s ∷ ss) f w = (f g s w.0, each_map R Q h gs ss f w.1)

each_all : (R : ℕ → Model → Type 0) (P : Model → Type 0) (groups : List ℕ) (stations : List Model) → ((g : ℕ) (s : Model) → R g s → P s) → Each R groups stations → AllByRecursion P stations
each_all R P [] [] f w = tt
each_all R P [] (s ∷ ss) f w = absurd w
each_all R P (g ∷ gs) [] f w = absurd w
each_all R P (g ∷ gs) (s ∷ ss) f w = (f g s w.0, each_all R P gs ss f w.1)

each_both : (R Q : ℕ → Model → Type 0) (groups : List ℕ) (stations : List Model) → Each R groups stations → Each Q groups stations → Each (λ g s. R g s × Q g s) groups stations
each_both R Q [] [] v w = tt
each_both R Q [] (s ∷ ss) v w = v
each_both R Q (g ∷ gs) [] v w = v
each_both R Q (g ∷ gs) (s ∷ ss) v w = ((v.0, w.0), each_both R Q gs ss v.1 w.1)

-- One moment

pub level : (groups : List ℕ) (mix : Model) (stems : List Model) → MixAndStems groups mix stems → Level groups mix stems
level groups mix stems w =
    record {
      voices = each_to (StemOf mix) (SameVoices mix) groups stems (λ g s x. same_voices mix g s w.eight x) w.each_stem;
      memories = each_all (StemOf mix) (λ s. s.chip.memory.bytes ≡ mix.chip.memory.bytes) groups stems (λ g s x. ap (λ m. m.bytes) x.memory) w.each_stem;
    }

-- One call

pub still : (groups : List ℕ) → Divides groups → (call : Call) (mix : Model) (stems : List Model) → MixAndStems groups mix stems → MixAndStems groups (tried call mix) (map (tried call) stems)
still groups div call mix stems w =
    record {
      eight = tried_eight call mix w.eight;
      each_stem = stems_tried mix groups stems div.bytes call w.each_stem;
    }

-- what an accepted inspection shows
shown_same : (b c : List ℕ) (o : Result (List ℕ) Refusal) → granted (Some (answered.Chip (no_reply o))) ≡ true → kept b o ≡ kept c o
shown_same b c o h = grind arith

same_inspection : (mix : Model) (g : ℕ) (s : Model) (o : ℕ) → StemOf mix g s → inspect s.chip.memory.bytes s.chip.registers o (length s.buffer) ≡ inspect mix.chip.memory.bytes mix.chip.registers o (length mix.buffer)
same_inspection mix g s o w =
    ap (λ (c : ChipState). inspect c.memory.bytes c.registers o (length s.buffer)) (chip_of mix g s w)
    ∙ ap (inspect mix.chip.memory.bytes mix.chip.registers o) w.buffer

buffers_same : (mix : Model) (g : ℕ) (s : Model) (call : Call) → inspected call (tried call mix).answer ≡ true → StemOf mix g s → (tried call s).buffer ≡ (tried call mix).buffer
buffers_same mix g s (Chip Reset) h w = absurd (false≢true h)
buffers_same mix g s (Chip (Write a b)) h w = absurd (false≢true h)
buffers_same mix g s (Chip (Read a)) h w = absurd (false≢true h)
buffers_same mix g s (Chip (Inspect o)) h w =
    ap (kept s.buffer) (same_inspection mix g s o w)
    ∙ shown_same s.buffer mix.buffer (inspect mix.chip.memory.bytes mix.chip.registers o (length mix.buffer)) h
buffers_same mix g s (Chip Tick) h w = absurd (false≢true h)
buffers_same mix g s (Chip Tell) h w = absurd (false≢true h)
buffers_same mix g s Step h w = absurd (false≢true h)

-- totals of one side
module _ (side : SideName) (total : Frame → ℤ) (is : (s : Model) → total (frame_now s) ≡ sum (contributions side s.chip.registers.voices)) where
  -- a stem's total, in terms of the mix's voices
  stem_total :
      (mix : Model) (g : ℕ) (s : Model) → StemOf mix g s → s.frame ≡ frame_now s →
      total s.frame ≡ sum (contributions side (each (veil (outside g) Bits16) 0 mix.chip.registers.voices))
  stem_total mix g s w f = ap total f ∙ is s ∙ ap (λ r. sum (contributions side r.voices)) w.registers

  adds : (groups : List ℕ) → Divides groups → (mix : Model) (stems : List Model) → length mix.chip.registers.voices ≡ 8 → mix.frame ≡ frame_now mix →
      Each (λ g s. StemOf mix g s × (s.frame ≡ frame_now s)) groups stems → sum (map (λ s. total s.frame) stems) ≡ total mix.frame
  adds groups div mix stems eight f w =
      let vs = mix.chip.registers.voices in
      stations_sum (λ s. total s.frame) (λ g. sum (contributions side (each (veil (outside g) Bits16) 0 vs))) groups stems
      (each_to (λ g s. StemOf mix g s × (s.frame ≡ frame_now s)) _ groups stems (λ g s x. stem_total mix g s x.0 x.1) w)
      ∙ groups_sum side Bits16 groups div 0 vs (omega arith)
      ∙ sym (ap total f ∙ is mix)

pub together : (groups : List ℕ) → Divides groups → (call : Call) (mix : Model) (stems : List Model) → MixAndStems groups mix stems → Together groups call (tried call mix) (map (tried call) stems)
together groups div call mix stems w =
    let after = still groups div call mix stems w in
    record {
      level = level groups (tried call mix) (map (tried call) stems) after;
      answers = each_map (StemOf mix) (λ g s. Agrees g call s.answer (tried call mix).answer) (tried call) groups stems
          (λ g s x. answers_agree mix g s w.eight x call) w.each_stem;
      shown = λ h. each_all (λ g s. s.buffer ≡ (tried call mix).buffer) (λ s. s.buffer ≡ (tried call mix).buffer) groups (map (tried call) stems) (λ g s x. x)
          (each_map (StemOf mix) (λ g s. s.buffer ≡ (tried call mix).buffer) (tried call) groups stems (λ g s x. buffers_same mix g s call h x) w.each_stem);
      ticks = λ h.
          let each_ticked : Each (λ g s. ticked call s.answer ≡ true) groups (map (tried call) stems) =
          each_map (StemOf mix) (λ g s. ticked call s.answer ≡ true) (tried call) groups stems
          (λ g s x. ticks_alike g call (tried call s).answer (tried call mix).answer (answers_agree mix g s w.eight x call) h) w.each_stem in
          let each_framed : Each (λ g s. s.frame ≡ frame_now s) groups (map (tried call) stems) =
          each_map (StemOf mix) (λ g s. s.frame ≡ frame_now s) (tried call) groups stems
          (λ g s x. frame_filled call s (ticks_alike g call (tried call s).answer (tried call mix).answer (answers_agree mix g s w.eight x call) h)) w.each_stem in
          let both = each_both (StemOf (tried call mix)) (λ g s. s.frame ≡ frame_now s) groups (map (tried call) stems) after.each_stem each_framed in (
            each_all (λ g s. ticked call s.answer ≡ true) (λ s. ticked call s.answer ≡ true) groups (map (tried call) stems) (λ g s x. x) each_ticked,
            record {
              left = adds Left (λ f. f.left.total) (λ s. refl) groups div (tried call mix) (map (tried call) stems) after.eight (frame_filled call mix h) both;
              right = adds Right (λ f. f.right.total) (λ s. refl) groups div (tried call mix) (map (tried call) stems) after.eight (frame_filled call mix h) both;
            },
          );
    }
