-- Whole runs of a mix and its stems.
use Rattle.std.proofs.Common.{◌≡◌, ℕ, ◌+◌, ◌<◌, ◌≤◌, List, [], ◌∷◌, map, length, drop, get_or, Some, Result, sym, ap, subst, ◌∙◌, arith}
use Rattle.std.proofs.lemmas.Simd.{map-map}
use Rattle.std.proofs.lemmas.List.{drop_more, drop_all, map-id}
use Rattle.std.specs.List.{AllByRecursion}
use Rattle.player.specs.declared.fault.Fault.{Fault}
use Rattle.player.specs.declared.player.Progress.{Progress}
use Rattle.kind.specs.declared.Kind.{Kind}
use Rattle.session.specs.Station.{Model, tried, tried_all}
use Rattle.session.specs.Groups.{Divides}
use Rattle.session.specs.Stems.{Each, Begun, StemOf, MixAndStems}
use Rattle.session.specs.Law.{Together, step_after, StopsAfter, StopAlike, Throughout, Law}
use Rattle.session.specs.declared.call.Answer.TheVariants as answered
use Rattle.session.specs.declared.call.Call.{Call}
use Rattle.session.proofs.Keeping.{step_of, stem_tried, begun_stems}
use Rattle.session.proofs.Laws.{level, still, together}
use Rattle.session.proofs.Stopping.{FirstStop, find_stop}

-- all stems after the same calls

pub still_all :
    (groups : List ℕ) → Divides groups → (calls : List Call) (mix : Model) (stems : List Model) → MixAndStems groups mix stems →
    MixAndStems groups (tried_all calls mix) (map (tried_all calls) stems)
still_all groups div [] mix stems w = subst (λ l. MixAndStems groups mix l) (sym (map-id stems)) w
still_all groups div (call ∷ rest) mix stems w =
    subst (λ l. MixAndStems groups (tried_all rest (tried call mix)) l) (map-map (tried_all rest) (tried call) stems)
    (still_all groups div rest (tried call mix) (map (tried call) stems) (still groups div call mix stems w))

-- one stem after the same calls
stem_all : (g : ℕ) → g < 256 → (calls : List Call) (mix s : Model) → StemOf mix g s → StemOf (tried_all calls mix) g (tried_all calls s)
stem_all g small [] mix s w = w
stem_all g small (call ∷ rest) mix s w = stem_all g small rest (tried call mix) (tried call s) (stem_tried mix g s small call w)

-- its player's steps

steps_alike : (g : ℕ) → g < 256 → (mix s : Model) → StemOf mix g s → (before : List Call) → step_after before s ≡ step_after before mix
steps_alike g small mix s w before =
    ap (λ t. Some (answered.Step t.answer)) (step_of (tried_all before mix) g (tried_all before s) (stem_all g small before mix s w))

stops_alike :
    (g : ℕ) → g < 256 → (mix s : Model) → StemOf mix g s → (before : List Call) (last : Result Progress Fault) →
    StopsAfter before last mix → StopsAfter before last s
stops_alike g small mix s w before last x =
    let same = steps_alike g small mix s w in
    record {
      here = same before ∙ x.here;
      stop = x.stop;
      first = λ b rest e p h. x.first b rest e p (sym (same b) ∙ h);
    }

stems_stop :
    (groups : List ℕ) (mix : Model) (stems : List Model) → AllByRecursion (λ g. g < 256) groups → Each (StemOf mix) groups stems →
    (before : List Call) (last : Result Progress Fault) → StopsAfter before last mix → AllByRecursion (StopsAfter before last) stems
stems_stop [] mix [] small w before last x = tt
stems_stop [] mix (s ∷ ss) small w before last x = absurd w
stems_stop (g ∷ gs) mix [] small w before last x = absurd w
stems_stop (g ∷ gs) mix (s ∷ ss) small w before last x =
    (stops_alike g small.0 mix s w.0 before last x, stems_stop gs mix ss small.1 w.1 before last x)

stop_alike :
    (groups : List ℕ) → Divides groups → (calls : List Call) (mix : Model) (stems : List Model) → MixAndStems groups mix stems →
    FirstStop calls mix → StopAlike calls mix stems
stop_alike groups div calls mix stems w f =
    record {
      before = f.before;
      rest = f.rest;
      last = f.last;
      among = f.among;
      mix_stops = f.stops_there;
      stems_stop = stems_stop groups mix stems div.bytes w.each_stem f.before f.last f.stops_there;
    }

-- The law

pub throughout : (groups : List ℕ) → Divides groups → (calls : List Call) (mix : Model) (stems : List Model) → MixAndStems groups mix stems → Throughout groups calls mix stems
throughout groups div calls mix stems w =
    record {
      start = level groups mix stems w;
      each = λ before rest call e.
          subst (λ l. Together groups call (tried call (tried_all before mix)) l) (map-map (tried call) (tried_all before) stems)
          (together groups div call (tried_all before mix) (map (tried_all before) stems) (still_all groups div before mix stems w));
      still = still_all groups div calls mix stems w;
    }

pub law : (kind : Kind) (groups : List ℕ) → Divides groups → (calls : List Call) (mix : Model) (stems : List Model) → Begun kind groups mix stems → Law groups calls mix stems
law kind groups div calls mix stems b =
    let w = begun_stems kind groups mix stems div b in
    record {
      throughout = throughout groups div calls mix stems w;
      stop = λ h.
          stop_alike groups div calls mix stems w
          (find_stop calls mix (grind (arith, b.new_mix.player, h)));
    }

-- Calls tried one by one, from the i-th on

module _ (calls : List Call) (i : ℕ) (d : Call) (h : i < length calls) where
  next : drop i calls ≡ get_or calls i d ∷ drop (i + 1) calls
  next = drop_more calls i d h

  pub mix_next : (m n last : Model) → n ≡ tried (get_or calls i d) m → tried_all (drop i calls) m ≡ last → tried_all (drop (i + 1) calls) n ≡ last
  mix_next m n last e w = ap (tried_all (drop (i + 1) calls)) e ∙ sym (ap (λ l. tried_all l m) next) ∙ w

  pub stems_next :
      (ms ns last : List Model) → ns ≡ map (tried (get_or calls i d)) ms → map (tried_all (drop i calls)) ms ≡ last →
      map (tried_all (drop (i + 1) calls)) ns ≡ last
  stems_next ms ns last e w =
      ap (map (tried_all (drop (i + 1) calls))) e
      ∙ map-map (tried_all (drop (i + 1) calls)) (tried (get_or calls i d)) ms
      ∙ sym (ap (λ l. map (tried_all l) ms) next)
      ∙ w

pub stems_all : (calls : List Call) (i : ℕ) → length calls ≤ i → (ms last : List Model) → map (tried_all (drop i calls)) ms ≡ last → ms ≡ last
stems_all calls i h ms last w = sym (map-id ms) ∙ sym (ap (λ l. map (tried_all l) ms) (drop_all i calls h)) ∙ w
