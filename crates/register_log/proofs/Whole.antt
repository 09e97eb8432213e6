-- Laws of whole logs: the log of a header and records reads back as them, and an accepted log is the log of what it holds.
use Rattle.std.proofs.Common.{◌≡◌, ℕ, zero, suc, ◌+◌, ◌*◌, ◌/◌, ◌^◌, ◌<◌, ◌≤◌, true, eqb, leb, List, [], ◌∷◌, ◌++◌, length, get_or, take, drop, None, Ok, Err, Result, sym, refl, ap, ◌∙◌, subst, append_assoc, append-nil, add-zero, zero-add, arith, lit<, lit≤}
use Rattle.std.proofs.lemmas.Nat.{mod_below}
use Rattle.std.proofs.lemmas.List.{take_all, take_at, take-append-drop}
use Rattle.std.proofs.lemmas.Bool.{and_from, and_parts, le-leb, leb-true}
use Rattle.std.proofs.lemmas.Bool.Decides.{nat_tests}
use Rattle.kind.specs.Kinds.{kind_of}
use Rattle.kind.specs.declared.Kind.{Kind}
use Rattle.kind.specs.declared.Kind.TheVariants.{Rf5c68a, Rf5c164}
use Rattle.register_log.specs.Fields.{Field, field, gap, bytes_for, span, number, big_endian, packed, written}
use Rattle.register_log.specs.Header.{header, length_fits, header_fits, header_fields, kind_number, records_start, most}
use Rattle.register_log.specs.Reading.{Found, end, found, decode}
use Rattle.register_log.specs.Record.{Entry, fits, fields}
use Rattle.register_log.specs.Recording.{state, after, end_fields, log_length}
use Rattle.register_log.specs.Contents.{Contents, AllFit, one_more, onward, reading, all_fields, log_of, end_of, Reads, Whole}
use Rattle.register_log.specs.declared.fault.Fault.{Fault}
use Rattle.register_log.specs.declared.header.Header.{Header}
use Rattle.register_log.proofs.Fields.{field-zero, field-add, field_below}
use Rattle.register_log.proofs.Packing.{Fit, fit_append, span-append, length-packed, packed_front, packed_same, bytes-big_endian, written_over}
use Rattle.register_log.proofs.Records.{fit_fields}
use Rattle.register_log.proofs.Decoding.{Stand, stand-append, stand_join, stand_number, number_stand, read_entry, read_end, Sound, sound}

-- Lists of records

pub all_fit_push : (entries : List Entry) (entry : Entry) → AllFit entries → fits entry ≡ true → AllFit (entries ++ entry ∷ [])
all_fit_push [] entry a h = (h, tt)
all_fit_push (x ∷ entries) entry a h = (a.0, all_fit_push entries entry a.1 h)

fit_all_fields : (place : ℕ) (entries : List Entry) → AllFit entries → Fit (all_fields place entries)
fit_all_fields place [] a = tt
fit_all_fields place (entry ∷ rest) a =
    fit_append (fields place entry) (all_fields (after place entry) rest) (fit_fields place entry a.0) (fit_all_fields (after place entry) rest a.1)

pub all_fields_push :
    (place : ℕ) (entries : List Entry) (entry : Entry) →
    all_fields place (entries ++ entry ∷ []) ≡ all_fields place entries ++ fields (place + span (all_fields place entries)) entry
all_fields_push place [] entry = append-nil (fields place entry) ∙ ap (λ q. fields q entry) (sym (add-zero place))
all_fields_push place (x ∷ entries) entry =
    let rest = all_fields (after place x) entries in
    let at : after place x + span rest ≡ place + span (fields place x ++ rest) = omega (arith, span-append (fields place x) rest) in
    ap (λ fs. fields place x ++ fs) (all_fields_push (after place x) entries entry)
    ∙ sym (append_assoc (fields place x) rest (fields (after place x + span rest) entry))
    ∙ ap (λ q. (fields place x ++ rest) ++ fields q entry) at

-- where the records of a log end after one more
pub end_push : (entries : List Entry) (entry : Entry) → after (end_of entries) entry ≡ end_of (entries ++ entry ∷ [])
end_push entries entry = grind (arith, span-append, all_fields_push)

-- a record takes at least a bit
pub after_more : (place : ℕ) (entry : Entry) → place < after place entry
after_more place (Rattle.register_log.specs.Record.register a b) = omega arith
after_more place (Rattle.register_log.specs.Record.window o b) = omega arith
after_more place (Rattle.register_log.specs.Record.wait t) = omega arith
after_more place (Rattle.register_log.specs.Record.block o bytes) = omega arith

fewer : (place : ℕ) (entries : List Entry) → length entries ≤ span (all_fields place entries)
fewer place [] = omega arith
fewer place (entry ∷ rest) =
    omega (arith, after_more place entry, fewer (after place entry) rest, span-append (fields place entry) (all_fields (after place entry) rest))

-- Reading what was packed

small_big_endian : (count n k : ℕ) → get_or (big_endian count n) k 0 < 256
unfolding big_endian
small_big_endian zero n k = lit< tt
small_big_endian (suc count) n zero = mod_below (n / 2 ^ (8 * count)) 256 (lit< tt)
small_big_endian (suc count) n (suc k) = small_big_endian count n k

small_packed : (fs : List Field) (k : ℕ) → get_or (packed fs) k 0 < 256
unfolding packed
small_packed fs k = grind (arith, small_big_endian)

-- what stands in packed fields, and the zeros after them
packed_stand : (fs : List Field) → Fit fs → Stand (packed fs) 0 fs × (field (packed fs) (span fs) (gap (span fs)) ≡ 0)
packed_stand fs fit =
    let whole = append-nil (packed fs) in
    let front = packed_front fs [] fit in (
      stand_number (packed fs) 0 fs fit (subst (λ x. field x 0 (span fs) ≡ number fs) whole front.0),
      subst (λ x. field x (span fs) (gap (span fs)) ≡ 0) whole front.1,
    )

read_all :
    (log : List ℕ) (place : ℕ) (entries : List Entry) (limit : ℕ) → ((k : ℕ) → get_or log k 0 < 256) → length_fits log ≡ true → AllFit entries → length entries < limit →
    bytes_for (place + span (all_fields place entries) + 3) ≡ length log → Stand log place (all_fields place entries ++ end_fields) →
    field log (place + span (all_fields place entries) + 3) (gap (place + span (all_fields place entries) + 3)) ≡ 0 →
    reading limit log place ≡ record { entries = entries; fault = None }
unfolding reading
read_all log place entries zero small long a l total h z = absurd (omega arith)
read_all log place [] (suc limit) small long a l total h z =
    let at = add-zero place in
    let last = subst (λ q. bytes_for (q + 3) ≡ length log) at total in
    let zeros = subst (λ q. field log (q + 3) (gap (q + 3)) ≡ 0) at z in
    ap (onward (reading limit log)) (read_end log place long last h.0 zeros)
read_all log place (entry ∷ rest) (suc limit) small long a l total h z =
    let fs = fields place entry in
    let gs = all_fields (after place entry) rest in
    let s = span-append fs gs in
    let parts = stand-append log place fs (gs ++ end_fields) (subst (Stand log place) (append_assoc fs gs end_fields) h) in
    let at : place + span (fs ++ gs) ≡ after place entry + span gs = omega arith in
    let found_Here = read_entry log place entry small long a.0 (omega arith) parts.0 in
    let others = read_all log (after place entry) rest limit small long a.1 (omega arith) (subst (λ q. bytes_for (q + 3) ≡ length log) at total) parts.1 (subst (λ q. field log (q + 3) (gap (q + 3)) ≡ 0) at z) in
    ap (onward (reading limit log)) found_Here ∙ ap (one_more entry) others

-- the header

kind_back : (kind : Kind) → kind_of (eqb (kind_number kind) 1) ≡ kind
kind_back Rf5c68a = refl
kind_back Rf5c164 = refl

read_header : (log : List ℕ) (h : Header) → length_fits log ≡ true → header_fits h ≡ true → Stand log 0 (header_fields h) → header log ≡ Ok h
read_header log h long fit s = grind arith

pub fit_header : (h : Header) → header_fits h ≡ true → Fit (header_fields h)
fit_header h fit = grind arith

-- all the fields of a log
abbrev fields_of_log : Header → List Entry → List Field
fields_of_log h entries = header_fields h ++ all_fields records_start entries ++ end_fields

fit_log : (h : Header) (entries : List Entry) → header_fits h ≡ true → AllFit entries → Fit (fields_of_log h entries)
fit_log h entries fit all = grind (arith, fit_append, fit_header, fit_all_fields)

pub span_log : (h : Header) (entries : List Entry) → span (fields_of_log h entries) ≡ end_of entries + 3
span_log h entries = grind (arith, span-append)

pub length-log : (h : Header) (entries : List Entry) → length (log_of h entries) ≡ log_length (end_of entries)
length-log h entries = length-packed (fields_of_log h entries) ∙ ap bytes_for (span_log h entries)

-- the log of a header and records reads back as them
pub reads_back : (h : Header) (entries : List Entry) → header_fits h ≡ true → AllFit entries → log_length (end_of entries) ≤ most → Reads (log_of h entries) h entries
reads_back h entries fit all short =
    let log = log_of h entries in
    let fs = fields_of_log h entries in
    let s = span_log h entries in
    let l = length-log h entries in
    let long : length_fits log ≡ true = and_from _ _ (le-leb 4 (length log) (omega arith)) (le-leb (length log) most (omega arith)) in
    let stood = packed_stand fs (fit_log h entries fit all) in
    let parts = stand-append log 0 (header_fields h) (all_fields records_start entries ++ end_fields) stood.0 in
    let few = fewer records_start entries in (
      read_header log h long fit parts.0,
      read_all log records_start entries (8 * length log) (small_packed fs) long all (omega arith) (sym l) parts.1
          (subst (λ q. field log q (gap q) ≡ 0) s stood.1),
    )

-- Packing what was read

-- what holds of the contents of a log
abbrev SoundAll : List ℕ → ℕ → Contents → Type 0
SoundAll log place c =
    let at : ℕ = place + span (all_fields place c.entries) in
    AllFit c.entries × Stand log place (all_fields place c.entries) × (c.fault ≡ None → Sound log at (Ok end))

sound_onward :
    (log : List ℕ) (place : ℕ) (rest : ℕ → Contents) (d : Result Found Fault) → Sound log place d → ((q : ℕ) → SoundAll log q (rest q)) → SoundAll log place (onward rest d)
sound_onward log place rest (Ok end) s h = (tt, tt, λ e. subst (λ q. Sound log q (Ok end)) (sym (add-zero place)) s)
sound_onward log place rest (Ok (found entry next)) s h =
    let r = h next in
    let fs = fields place entry in
    let gs = all_fields (after place entry) (rest next).entries in
    let same : next ≡ after place entry = s.0 in
    let others : Stand log (after place entry) gs = subst (λ q. Stand log q (all_fields q (rest next).entries)) same r.1 in
    let at : after place entry + span gs ≡ place + span (fs ++ gs) = omega (arith, span-append fs gs) in (
      (s.3, r.0),
      stand_join log place fs gs s.1 others,
      λ e. subst (λ q. Sound log q (Ok end)) at (subst (λ q. Sound log (q + span (all_fields q (rest next).entries)) (Ok end)) same (r.2 e)),
    )
sound_onward log place rest (Err fault) s h = (tt, tt, λ e. cc)

sound_reading : (log : List ℕ) → ((k : ℕ) → get_or log k 0 < 256) → (limit place : ℕ) → SoundAll log place (reading limit log place)
unfolding reading
sound_reading log small zero place = (tt, tt, λ e. cc)
sound_reading log small (suc limit) place = sound_onward log place (reading limit log) (decode log place) (sound log place small) (sound_reading log small limit)

-- the fields of an accepted header stand in front
abbrev SoundHeader : List ℕ → Result Header Fault → Type 0
SoundHeader log (Ok h) = (length_fits log ≡ true) × (header_fits h ≡ true) × Stand log 0 (header_fields h)
SoundHeader log (Err fault) = Unit {0}

kind_bit : (k : ℕ) → k < 2 → k ≡ kind_number (kind_of (eqb k 1))
kind_bit k l = grind arith

sound_header : (log : List ℕ) → SoundHeader log (header log)
sound_header log = grind (arith, nat_tests, kind_bit, field_below)

header_by_fields : (log : List ℕ) (h : Header) → header log ≡ Ok h → (length_fits log ≡ true) × (header_fits h ≡ true) × Stand log 0 (header_fields h)
header_by_fields log h e = subst (SoundHeader log) e (sound_header log)

-- bytes are packed fields, if these stand in them and zeros follow
log-packed :
    (log : List ℕ) (fs : List Field) → ((k : ℕ) → get_or log k 0 < 256) → bytes_for (span fs) ≡ length log → Stand log 0 fs → field log (span fs) (gap (span fs)) ≡ 0 → log ≡ packed fs
unfolding packed
log-packed log fs small l s z =
    let n = length log in
    let all : 8 * n ≡ span fs + gap (span fs) = omega arith in
    let value : field log 0 (8 * n) ≡ number fs * 2 ^ gap (span fs) =
    ap (field log 0) all ∙ field-add log 0 (span fs) (gap (span fs))
    ∙ ap (λ x. x * 2 ^ gap (span fs) + field log (0 + span fs) (gap (span fs))) (number_stand log 0 fs s)
    ∙ ap (λ x. number fs * 2 ^ gap (span fs) + field log x (gap (span fs))) (zero-add (span fs))
    ∙ ap (λ x. number fs * 2 ^ gap (span fs) + x) z
    ∙ add-zero _ in
    sym (take_all n log (omega arith)) ∙ bytes-big_endian n log (λ k h. small k) (omega arith) ∙ cc (value, l)

-- an accepted log is the log of what it holds
pub packed_back :
    (log : List ℕ) (h : Header) (entries : List Entry) → ((k : ℕ) → get_or log k 0 < 256) → Reads log h entries →
    (header_fits h ≡ true) × AllFit entries × (length log ≤ most) × (log ≡ log_of h entries)
packed_back log h entries small r =
    let front = header_by_fields log h r.0 in
    let s = subst (SoundAll log records_start) r.1 (sound_reading log small (8 * length log) records_start) in
    let last = s.2 refl in
    let fs = all_fields records_start entries in
    let tag : Stand log (end_of entries) end_fields = (last.1, tt) in
    let stood = stand_join log 0 (header_fields h) (fs ++ end_fields) front.2 (stand_join log records_start fs end_fields s.1 tag) in
    let w = span_log h entries in
    let short = leb-true (length log) most (and_parts (leb 4 (length log)) (leb (length log) most) front.0).1 in (
      front.1,
      s.0,
      short,
      log-packed log (fields_of_log h entries) small (ap bytes_for w ∙ last.0) stood (subst (λ q. field log q (gap q) ≡ 0) (sym w) last.2),
    )

-- Recordings

written_start : (buffer : List ℕ) (fs : List Field) → written buffer 0 fs ≡ packed fs ++ drop (bytes_for (span fs)) buffer
unfolding written
written_start buffer fs = grind (arith, field-zero, zero-add, packed_same)

-- the first bytes of a buffer
front_of : (fs : List Field) (rest : List ℕ) (n : ℕ) → bytes_for (span fs) ≡ n → take n (packed fs ++ rest) ≡ packed fs
front_of fs rest n e = grind (arith, take_at, length-packed)

pub whole_begun :
    (buffer after_all : List ℕ) (place : ℕ) (h : Header) → header_fits h ≡ true → place ≡ records_start → after_all ≡ written buffer 0 (header_fields h ++ end_fields) →
    Whole (state place after_all) h []
whole_begun buffer new place h fit ep e =
    let fs = header_fields h ++ end_fields in
    rw (ep, e) record {
      place = refl;
      bytes = ap (take 5) (written_start buffer fs) ∙ front_of fs (drop 5 buffer) 5 refl;
      reads = reads_back h [] fit tt (lit≤ tt);
    }

pub whole_added :
    (place next : ℕ) (buffer new : List ℕ) (entry : Entry) (h : Header) (entries : List Entry) → fits entry ≡ true → log_length (after place entry) ≤ most →
    next ≡ after place entry → new ≡ written buffer place (fields place entry ++ end_fields) → Whole (state place buffer) h entries → Whole (state next new) h (entries ++ entry ∷ [])
whole_added place next buffer new entry h entries fit short en e w =
    let known = packed_back (log_of h entries) h entries (small_packed (fields_of_log h entries)) w.reads in
    let all = all_fields records_start entries in
    let front = header_fields h ++ all in
    let fe = fields place entry in
    let at : place ≡ 0 + span front = w.place ∙ omega arith in
    let count : log_length place ≡ bytes_for (span (fields_of_log h entries)) = ap log_length w.place ∙ ap bytes_for (sym (span_log h entries)) in
    let old : buffer ≡ written buffer 0 (fields_of_log h entries) =
    sym (take-append-drop (log_length place) buffer)
    ∙ ap (λ x. x ++ drop (log_length place) buffer) w.bytes
    ∙ ap (λ n. log_of h entries ++ drop n buffer) count
    ∙ sym (written_start buffer (fields_of_log h entries)) in
    let push : all_fields records_start (entries ++ entry ∷ []) ≡ all ++ fe =
    all_fields_push records_start entries entry ∙ ap (λ q. all ++ fields q entry) (sym w.place) in
    let new_fields : front ++ (fe ++ end_fields) ≡ fields_of_log h (entries ++ entry ∷ []) =
    ap (λ x. header_fields h ++ x) (sym (append_assoc all fe end_fields) ∙ ap (λ x. x ++ end_fields) (sym push)) in
    let total : after place entry ≡ end_of (entries ++ entry ∷ []) = ap (λ q. after q entry) w.place ∙ end_push entries entry in
    let longer : span end_fields ≤ span (fe ++ end_fields) = omega (arith, span-append fe end_fields) in
    let fit_front : Fit front = fit_append (header_fields h) all (fit_header h known.0) (fit_all_fields records_start entries known.1) in
    let now : new ≡ written buffer 0 (fields_of_log h (entries ++ entry ∷ [])) =
    e
    ∙ ap (λ x. written x place (fe ++ end_fields)) old
    ∙ ap (λ q. written (written buffer 0 (front ++ end_fields)) q (fe ++ end_fields)) at
    ∙ written_over buffer 0 front end_fields (fe ++ end_fields) fit_front (lit< tt, tt) longer
    ∙ ap (written buffer 0) new_fields in
    let all_fit = all_fit_push entries entry known.1 fit in
    let length_is : bytes_for (span (fields_of_log h (entries ++ entry ∷ []))) ≡ log_length next =
    ap bytes_for (span_log h (entries ++ entry ∷ [])) ∙ ap log_length (sym total ∙ sym en) in
    record {
      place = en ∙ total;
      bytes = ap (take (log_length next)) (now ∙ written_start buffer (fields_of_log h (entries ++ entry ∷ [])))
          ∙ front_of (fields_of_log h (entries ++ entry ∷ [])) _ (log_length next) length_is;
      reads = reads_back h (entries ++ entry ∷ []) known.0 all_fit (subst (λ q. log_length q ≤ most) total short);
    }
