-- Steps of a recording, in the words of its outcome.
use Rattle.std.proofs.Common.{◌≡◌, ℕ, zero, suc, ◌+◌, ◌-◌, ◌*◌, ◌<◌, ◌≤◌, List, ◌∷◌, length, get_or, drop, Some, None, Ok, Err, Option, Result, sym, refl, ap, ◌∙◌, ⊎_elim, arith}
use Rattle.std.proofs.lemmas.List.{drop_more}
use Rattle.std.proofs.lemmas.Option.{slice_get_within, get_or_from_slice_get, slice_get_cases}
use Rattle.std.specs.List.{slice_get}
use Rattle.outcome.specs.Outcome.{granted, kept}
use Rattle.register_log.specs.Contents as contents
use Rattle.register_log.specs.Contents.{Contents, one_more, reading}
use Rattle.register_log.specs.Reading.{Found, end, found, decode}
use Rattle.register_log.specs.Header.{header, records_start}
use Rattle.register_log.specs.Record.{Entry}
use Rattle.register_log.specs.Recording.{State, added}
use Rattle.register_log.specs.declared.fault.Fault.{Fault}
use Rattle.register_log.specs.declared.header.Header.{Header}
use Rattle.register_log.specs.declared.refusal.Refusal.{Refusal}
use Rattle.register_log.proofs.Decoding.{Sound, sound}
use Rattle.register_log.proofs.Whole.{after_more}
use Rattle.whole_log.specs.Outcome.{outcome, recorded}

-- an outcome from what the call answered and left
pub when_granted : (s next : State) (o : Result State Refusal) → granted o ≡ Ok tt → next ≡ kept s o → o ≡ Ok next
when_granted s next (Ok x) g k = ap Ok (sym k)
when_granted s next (Err e) g k = cc

pub when_refused : (s next : State) (refusal : Refusal) (o : Result State Refusal) → granted o ≡ Err refusal → next ≡ kept s o → (o ≡ Err refusal) × (next ≡ s)
when_refused s next refusal (Ok x) g k = cc
when_refused s next refusal (Err e) g k = (cc, k)

-- one record more
pub recorded_granted :
    (entry : Entry) (rest : List Entry) (fault : Option Fault) (s next : State) → granted (added s entry) ≡ Ok tt → next ≡ kept s (added s entry) →
    recorded (entry ∷ rest) fault s ≡ recorded rest fault next
recorded_granted entry rest fault s next g k = grind (arith, when_granted)

pub recorded_refused :
    (entry : Entry) (rest : List Entry) (fault : Option Fault) (s next : State) (refusal : Refusal) → granted (added s entry) ≡ Err refusal → next ≡ kept s (added s entry) →
    recorded (entry ∷ rest) fault s ≡ outcome (Err refusal) next.buffer
recorded_refused entry rest fault s next refusal g k = grind (arith, when_refused)

-- the next record of a list
pub next_entry : (entries : List Entry) (i : ℕ) (entry : Entry) → Some entry ≡ slice_get entries i → drop i entries ≡ entry ∷ drop (i + 1) entries
next_entry entries i entry e =
    let within = slice_get_within entries i entry (sym e) in
    let found_there = get_or_from_slice_get entries i entry entry (sym e) in
    grind (arith, drop_more)

-- there is one before the end
pub no_entry : (entries : List Entry) (i : ℕ) → None ≡ slice_get entries i → length entries ≤ i
no_entry entries i e =
    let cases = slice_get_cases entries i in
    ⊎_elim (λ w. let h = e ∙ w.2 in cc) (λ w. w.0) cases.1

-- The contents of a log from a place on

-- a limit that suffices
abbrev pub enough : List ℕ → ℕ → ℕ
enough log place = suc (8 * length log - place)

abbrev pub rest_of : List ℕ → ℕ → Contents
rest_of log place = reading (enough log place) log place

same_onward :
    (log : List ℕ) (place : ℕ) (f g : ℕ → Contents) → ((next : ℕ) → place < next → next ≤ 8 * length log → f next ≡ g next) → (d : Result Found Fault) → Sound log place d →
    contents.onward f d ≡ contents.onward g d
same_onward log place f g h (Ok end) s = refl
same_onward log place f g h (Ok (found entry next)) s =
    let e = s.0 in
    let more = after_more place entry in
    ap (one_more entry) (h next (omega arith) s.2)
same_onward log place f g h (Err fault) s = refl

same_rest :
    (log : List ℕ) → ((k : ℕ) → get_or log k 0 < 256) → (m n place : ℕ) → 8 * length log - place < m → 8 * length log - place < n → reading m log place ≡ reading n log place
unfolding reading
same_rest log small zero n place a b = absurd (omega arith)
same_rest log small (suc m) zero place a b = absurd (omega arith)
same_rest log small (suc m) (suc n) place a b =
    same_onward log place (reading m log) (reading n log) (λ next l k. same_rest log small m n next (omega arith) (omega arith)) (decode log place) (sound log place small)

-- a log with a header
pub header_long : (log : List ℕ) (h : Header) → header log ≡ Ok h → 4 ≤ length log
header_long log h e = grind arith

-- by what stands at the place
pub rest_step : (log : List ℕ) → ((k : ℕ) → get_or log k 0 < 256) → (place : ℕ) → rest_of log place ≡ contents.onward (rest_of log) (decode log place)
unfolding reading
rest_step log small place = grind (arith, same_onward, same_rest, sound)

pub rest_start : (log : List ℕ) → ((k : ℕ) → get_or log k 0 < 256) → 4 ≤ length log → rest_of log records_start ≡ contents.contents log
rest_start log small l = grind (arith, same_rest)

-- the reader moves on
pub found_later : (log : List ℕ) → ((k : ℕ) → get_or log k 0 < 256) → (place next : ℕ) (entry : Entry) → decode log place ≡ Ok (found entry next) → 8 * length log - next < 8 * length log - place
found_later log small place next entry d = grind (arith, sound, after_more)
