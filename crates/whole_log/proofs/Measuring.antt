-- What a recording answers, by where its records end.
use Rattle.std.proofs.Common.{◌≡◌, ℕ, ◌<◌, List, [], ◌∷◌, ◌++◌, length, get_or, Some, None, Ok, Err, Option, Result, sym, refl, ap, ◌∙◌}
use Rattle.outcome.specs.Outcome.{granted, kept}
use Rattle.register_log.specs.Contents as contents
use Rattle.register_log.specs.Contents.{Contents}
use Rattle.register_log.specs.Reading.{Found, decode}
use Rattle.register_log.specs.Fields.{Field, written}
use Rattle.register_log.specs.Header.{header_fields}
use Rattle.register_log.specs.Record.{Entry, fields}
use Rattle.register_log.specs.Recording.{State, state, stored, log_length, header_placed, record_placed, end_fields}
use Rattle.register_log.specs.declared.fault.Fault.{Fault}
use Rattle.register_log.specs.declared.header.Header.{Header}
use Rattle.register_log.specs.declared.refusal.Refusal.{Refusal}
use Rattle.register_log.specs.declared.refusal.Refusal.TheVariants.{Log}
use Rattle.whole_log.specs.Outcome.{Outcome, onward, recorded, one_by_one}
use Rattle.whole_log.proofs.Laws.{long_begun, long_added}
use Rattle.whole_log.proofs.Runs.{rest_of, rest_step}

-- the next place if the last was granted
unfoldable pub go_on : (ℕ → Result ℕ Refusal) → Result ℕ Refusal → Result ℕ Refusal
go_on next (Ok place) = next place
go_on next (Err refusal) = Err refusal

unfoldable pub measured : ℕ → List Entry → Option Fault → ℕ → Result ℕ Refusal
measured capacity [] None place = Ok (log_length place)
measured capacity [] (Some fault) place = Err (Log fault)
measured capacity (entry ∷ rest) fault place = go_on (measured capacity rest fault) (record_placed capacity place entry)

-- a place is what the answer of a recording hangs on
by_place :
    (next : State → Outcome) (measure : ℕ → Result ℕ Refusal) (buffer : List ℕ) (place : ℕ) (fs : List Field) (r : Result ℕ Refusal) →
    ((s : State) → stored buffer place fs r ≡ Ok s → (next s).answer ≡ measure s.place) →
    (onward next buffer (stored buffer place fs r)).answer ≡ go_on measure r
unfolding go_on
by_place next measure buffer place fs (Ok end) same = same (state end (written buffer place (fs ++ end_fields))) refl
by_place next measure buffer place fs (Err refusal) same = refl

measured_recorded :
    (capacity : ℕ) (entries : List Entry) (fault : Option Fault) (s : State) → length s.buffer ≡ capacity →
    (recorded entries fault s).answer ≡ measured capacity entries fault s.place
unfolding measured
measured_recorded capacity [] None s l = refl
measured_recorded capacity [] (Some f) s l = refl
measured_recorded capacity (entry ∷ rest) fault s l =
    by_place (recorded rest fault) (measured capacity rest fault) s.buffer s.place (fields s.place entry) (record_placed (length s.buffer) s.place entry)
    (λ next e. measured_recorded capacity rest fault next (long_added s next entry e ∙ l))
    ∙ ap (λ n. go_on (measured capacity rest fault) (record_placed n s.place entry)) l

-- the answer of all the single calls
pub answer_measured :
    (capacity : ℕ) (buffer : List ℕ) (h : Header) (entries : List Entry) (fault : Option Fault) → length buffer ≡ capacity →
    (one_by_one buffer h entries fault).answer ≡ go_on (measured capacity entries fault) (header_placed capacity h)
answer_measured capacity buffer h entries fault l =
    by_place (recorded entries fault) (measured capacity entries fault) buffer 0 (header_fields h) (header_placed (length buffer) h)
    (λ s e. measured_recorded capacity entries fault s (long_begun buffer h s e ∙ l))
    ∙ ap (λ n. go_on (measured capacity entries fault) (header_placed n h)) l

-- One record more

pub measured_granted :
    (capacity : ℕ) (entry : Entry) (rest : List Entry) (fault : Option Fault) (place next : ℕ) →
    granted (record_placed capacity place entry) ≡ Ok tt → next ≡ kept place (record_placed capacity place entry) →
    measured capacity (entry ∷ rest) fault place ≡ measured capacity rest fault next
unfolding measured go_on
measured_granted capacity entry rest fault place next g k = by_outcome (record_placed capacity place entry) g k
  where
    by_outcome : (r : Result ℕ Refusal) → granted r ≡ Ok tt → next ≡ kept place r → go_on (measured capacity rest fault) r ≡ measured capacity rest fault next
    by_outcome (Ok end) g k = ap (measured capacity rest fault) (sym k)
    by_outcome (Err refusal) g k = cc

pub measured_refused :
    (capacity : ℕ) (entry : Entry) (rest : List Entry) (fault : Option Fault) (place : ℕ) (refusal : Refusal) →
    granted (record_placed capacity place entry) ≡ Err refusal → measured capacity (entry ∷ rest) fault place ≡ Err refusal
unfolding measured go_on
measured_refused capacity entry rest fault place refusal g = by_outcome (record_placed capacity place entry) g
  where
    by_outcome : (r : Result ℕ Refusal) → granted r ≡ Err refusal → go_on (measured capacity rest fault) r ≡ Err refusal
    by_outcome (Ok end) g = cc
    by_outcome (Err e) g = cc

pub measured_begun :
    (capacity : ℕ) (h : Header) (entries : List Entry) (fault : Option Fault) (place : ℕ) → header_placed capacity h ≡ Ok place →
    measured capacity entries fault place ≡ go_on (measured capacity entries fault) (header_placed capacity h)
unfolding go_on
measured_begun capacity h entries fault place e = sym (ap (go_on (measured capacity entries fault)) e)

-- The end

pub measured_end : (capacity place : ℕ) → measured capacity [] None place ≡ Ok (log_length place)
unfolding measured
measured_end capacity place = refl

pub measured_fault : (capacity place : ℕ) (fault : Fault) → measured capacity [] (Some fault) place ≡ Err (Log fault)
unfolding measured
measured_fault capacity place fault = refl

-- What is left of a log, by what stands at the place

pub measured_at :
    (log : List ℕ) → ((k : ℕ) → get_or log k 0 < 256) → (at : ℕ) (d : Result Found Fault) → decode log at ≡ d → (capacity place : ℕ) →
    measured capacity (rest_of log at).entries (rest_of log at).fault place
    ≡ measured capacity (contents.onward (rest_of log) d).entries (contents.onward (rest_of log) d).fault place
measured_at log small at d e capacity place =
    ap (λ (c : Contents). measured capacity c.entries c.fault place) (rest_step log small at ∙ ap (contents.onward (rest_of log)) e)
