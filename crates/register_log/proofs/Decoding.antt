-- What stands in a log by its fields is read, and what is read stands there by its fields.
use Rattle.std.proofs.Common.{◌≡◌, ℕ, zero, suc, ◌+◌, ◌*◌, ◌^◌, ◌<◌, ◌≤◌, true, eqb, leb, List, [], ◌∷◌, ◌++◌, map, length, get_or, take, drop, Some, None, Ok, Err, Option, Result, sym, refl, ap, ◌∙◌, subst, add-zero, add_assoc, arith}
use Rattle.std.proofs.lemmas.List.{drop_more, length-take, length-drop}
use Rattle.std.proofs.lemmas.Bool.{and_from, and_parts, le-leb, leb-true, eqb-true, cond-true, cond_both}
use Rattle.register_log.specs.Fields.{Field, field, gap, bytes_for, span, number}
use Rattle.register_log.specs.Header.{length_fits}
use Rattle.register_log.specs.Reading.{Found, end, found, decode, answered, WhenFound, tagged, whole, padded, ends, payload_at}
use Rattle.register_log.specs.Record.{Entry, register, window, wait, block, values, fits, in_window, fields, octet, block_fits, address_fits, ticks_fit, bytes_fit}
use Rattle.register_log.specs.Recording.{after}
use Rattle.register_log.specs.declared.fault.Fault.{Fault}
use Rattle.register_log.specs.declared.fault.Fault.TheVariants.{Length, Cut, Tag, Range, Padding}
use Rattle.register_log.specs.declared.record.Record.{Record}
use Rattle.register_log.proofs.Fields.{field-zero, field-add, field_split, field_byte, field_below}
use Rattle.register_log.proofs.Packing.{Fit, number_below}
use Rattle.register_log.proofs.Records.{block_bounds, block_span}

-- the fields stand one after another from a place on
abbrev pub Stand : List ℕ → ℕ → List Field → Type 0
Stand log place [] = Unit {0}
Stand log place (f ∷ rest) = (field log place f.0 ≡ f.1) × Stand log (place + f.0) rest

pub stand-append : (log : List ℕ) (place : ℕ) (fs gs : List Field) → Stand log place (fs ++ gs) → Stand log place fs × Stand log (place + span fs) gs
stand-append log place [] gs h = (tt, subst (λ q. Stand log q gs) (sym (add-zero place)) h)
stand-append log place (f ∷ fs) gs h =
    let rest = stand-append log (place + f.0) fs gs h.1 in
    ((h.0, rest.0), subst (λ q. Stand log q gs) (add_assoc place f.0 (span fs)) rest.1)

pub stand_join : (log : List ℕ) (place : ℕ) (fs gs : List Field) → Stand log place fs → Stand log (place + span fs) gs → Stand log place (fs ++ gs)
stand_join log place [] gs h k = subst (λ q. Stand log q gs) (add-zero place) k
stand_join log place (f ∷ fs) gs h k =
    (h.0, stand_join log (place + f.0) fs gs h.1 (subst (λ q. Stand log q gs) (sym (add_assoc place f.0 (span fs))) k))

-- fields stand in a row just if their number does
pub stand_number : (log : List ℕ) (place : ℕ) (fs : List Field) → Fit fs → field log place (span fs) ≡ number fs → Stand log place fs
stand_number log place [] fit e = tt
stand_number log place (f ∷ fs) fit e =
    let parts = field_split log place f.0 (span fs) f.1 (number fs) e (number_below fs fit.1) in
    (parts.0, stand_number log (place + f.0) fs fit.1 parts.1)

pub number_stand : (log : List ℕ) (place : ℕ) (fs : List Field) → Stand log place fs → field log place (span fs) ≡ number fs
number_stand log place [] h = field-zero log place
number_stand log place (f ∷ fs) h =
    field-add log place f.0 (span fs) ∙ ap (λ x. x * 2 ^ span fs + field log (place + f.0) (span fs)) h.0 ∙ ap (λ x. f.1 * 2 ^ span fs + x) (number_stand log (place + f.0) fs h.1)

-- Fields are read

read_register :
    (log : List ℕ) (q a b : ℕ) → q + 15 ≤ 8 * length log → fits (register a b) ≡ true → Stand log q (fields q (register a b)) →
    whole log (q + 3) (tagged log (q + 3) (field log q 3)) ≡ Ok (found (register a b) (q + 15))
read_register log q a b l r h = grind arith

read_window :
    (log : List ℕ) (q o b : ℕ) → q + 23 ≤ 8 * length log → Stand log q (fields q (window o b)) →
    whole log (q + 3) (tagged log (q + 3) (field log q 3)) ≡ Ok (found (window o b) (q + 23))
read_window log q o b l h = grind arith

read_wait :
    (log : List ℕ) (q n : ℕ) → q + 19 ≤ 8 * length log → fits (wait n) ≡ true → Stand log q (fields q (wait n)) →
    whole log (q + 3) (tagged log (q + 3) (field log q 3)) ≡ Ok (found (wait n) (q + 19))
read_wait log q n l r h = grind arith

-- the bytes that stand in a log
octets_read :
    (log : List ℕ) (i : ℕ) (bytes : List ℕ) → ((k : ℕ) → get_or log k 0 < 256) → i + length bytes ≤ length log → Stand log (8 * i) (map octet bytes) →
    take (length bytes) (drop i log) ≡ bytes
octets_read log i [] small l h = refl
octets_read log i (b ∷ bytes) small l h =
    let next : 8 * i + 8 ≡ 8 * (i + 1) = omega arith in
    let rest = octets_read log (i + 1) bytes small (omega arith) (subst (λ q. Stand log q (map octet bytes)) next h.1) in
    let first : get_or log i 0 ≡ b = sym (field_byte log i (small i)) ∙ h.0 in
    let within : i < length log = omega arith in
    ap (take (suc (length bytes))) (drop_more log i 0 within)
    ∙ ap (λ x. x ∷ take (length bytes) (drop (i + 1) log)) first
    ∙ ap (λ x. b ∷ x) rest

read_payload :
    (log : List ℕ) (q o n : ℕ) (bytes : List ℕ) → ((k : ℕ) → get_or log k 0 < 256) → n ≡ length bytes → 1 ≤ length bytes → o + length bytes ≤ 4096 →
    q + gap q + 8 * length bytes ≤ 8 * length log → field log q (gap q) ≡ 0 → Stand log (q + gap q) (map octet bytes) →
    payload_at log q o n ≡ Ok (found (block o bytes) (q + gap q + 8 * length bytes))
read_payload log q o n bytes small en one ranged l z h = grind (arith, le-leb, octets_read)

read_block :
    (log : List ℕ) (q o : ℕ) (bytes : List ℕ) → ((k : ℕ) → get_or log k 0 < 256) → fits (block o bytes) ≡ true →
    q + 27 + gap (q + 27) + 8 * length bytes ≤ 8 * length log → Stand log q (fields q (block o bytes)) →
    whole log (q + 3) (tagged log (q + 3) (field log q 3)) ≡ Ok (found (block o bytes) (q + 27 + gap (q + 27) + 8 * length bytes))
read_block log q o bytes small r l h = grind (arith, block_bounds, le-leb, read_payload)

-- a record that stands in a log is found there
pub read_entry :
    (log : List ℕ) (q : ℕ) (entry : Entry) → ((k : ℕ) → get_or log k 0 < 256) → length_fits log ≡ true → fits entry ≡ true →
    after q entry ≤ 8 * length log → Stand log q (fields q entry) → decode log q ≡ Ok (found entry (after q entry))
read_entry log q (register a b) small long r l h = cond-true _ _ _ long ∙ read_register log q a b l r h
read_entry log q (window o b) small long r l h = cond-true _ _ _ long ∙ read_window log q o b l h
read_entry log q (wait n) small long r l h = cond-true _ _ _ long ∙ read_wait log q n l r h
read_entry log q (block o bytes) small long r l h =
    let s = block_span q o bytes in
    let e : q + 27 + gap (q + 27) + 8 * length bytes ≡ after q (block o bytes) = omega arith in
    cond-true _ _ _ long ∙ read_block log q o bytes small r (omega arith) h ∙ ap (λ x. Ok (found (block o bytes) x)) e

-- and so is the end
pub read_end :
    (log : List ℕ) (q : ℕ) → length_fits log ≡ true → bytes_for (q + 3) ≡ length log → field log q 3 ≡ 0 → field log (q + 3) (gap (q + 3)) ≡ 0 → decode log q ≡ Ok end
read_end log q long l t z = grind arith

-- what a log has at a place, by cases
pub decode_cases :
    (log : List ℕ) (q : ℕ) (P : Result Found Fault → Type 0) → ((fault : Fault) → P (Err fault)) →
    (field log q 3 ≡ 0 → ends log (q + 3) ≡ true → P (Ok end)) →
    (field log q 3 ≡ 1 → q + 15 ≤ 8 * length log → address_fits (field log (q + 3) 4) ≡ true →
    P (Ok (found (register (field log (q + 3) 4) (field log (q + 3 + 4) 8)) (q + 3 + 12)))) →
    (field log q 3 ≡ 2 → q + 23 ≤ 8 * length log → P (Ok (found (window (field log (q + 3) 12) (field log (q + 3 + 12) 8)) (q + 3 + 20)))) →
    (field log q 3 ≡ 3 → q + 19 ≤ 8 * length log → ticks_fit (field log (q + 3) 16) ≡ true → P (Ok (found (wait (field log (q + 3) 16)) (q + 3 + 16)))) →
    (field log q 3 ≡ 4 → (i o n : ℕ) → i ≡ bytes_for (q + 27) → o ≡ field log (q + 3) 12 → n ≡ field log (q + 3 + 12) 12 + 1 →
    block_fits o n ≡ true → padded log (q + 27) ≡ true → i + n ≤ length log → P (Ok (found (block o (take n (drop i log))) (8 * (i + n))))) →
    P (decode log q)
decode_cases log q P fails at_end at_register at_window at_wait at_block =
    let t = field log q 3 in
    let bits = 8 * length log in
    cond_both (length_fits log) _ _ P
    (λ long. cond_both (leb (q + 3) bits) (tagged log (q + 3) t) _ P
    (λ l.
    cond_both (eqb t 0) _ _ P (λ e. cond_both (ends log (q + 3)) _ _ P (at_end (eqb-true t 0 e)) (λ h. fails Padding)) (λ a.
    cond_both (eqb t 1) _ _ P (λ e. cond_both (leb (q + 3 + 12) bits) _ _ P
    (λ h.
    let room = leb-true (q + 3 + 12) bits h in
    cond_both (address_fits (field log (q + 3) 4)) _ _ P (at_register (eqb-true t 1 e) (omega arith)) (λ k. fails Range))
    (λ h. fails Cut)) (λ b.
    cond_both (eqb t 2) _ _ P (λ e. cond_both (leb (q + 3 + 20) bits) _ _ P
    (λ h. let room = leb-true (q + 3 + 20) bits h in at_window (eqb-true t 2 e) (omega arith))
    (λ h. fails Cut)) (λ c.
    cond_both (eqb t 3) _ _ P (λ e. cond_both (leb (q + 3 + 16) bits) _ _ P
    (λ h.
    let room = leb-true (q + 3 + 16) bits h in
    cond_both (ticks_fit (field log (q + 3) 16)) _ _ P (at_wait (eqb-true t 3 e) (omega arith)) (λ k. fails Range))
    (λ h. fails Cut)) (λ d.
    cond_both (eqb t 4) _ _ P (λ e. cond_both (leb (q + 3 + 24) bits) _ _ P
    (λ h.
    let s : q + 27 ≡ q + 3 + 24 = omega arith in
    let i = bytes_for (q + 27) in
    let o = field log (q + 3) 12 in
    let n : ℕ = field log (q + 3 + 12) 12 + 1 in
    subst (λ x. P (payload_at log x o n)) s
    (cond_both (block_fits o n) _ _ P
    (λ f. cond_both (padded log (q + 27)) _ _ P
    (λ z. cond_both (leb (8 * (i + n)) bits) _ _ P
    (λ k. let room = leb-true (8 * (i + n)) bits k in at_block (eqb-true t 4 e) i o n refl refl refl f z (omega arith))
    (λ k. fails Cut))
    (λ z. fails Padding))
    (λ f. fails Range)))
    (λ h. fails Cut)) (λ e. fails Tag))))))
    (λ l. fails Cut))
    (λ long. fails Length)

length_part : (log : List ℕ) (i n : ℕ) → i + n ≤ length log → length (take n (drop i log)) ≡ n
length_part log i n l = grind (arith, length-take, length-drop)

-- What is read stands there

-- what a log has where a record or the end is found
abbrev pub Sound : List ℕ → ℕ → Result Found Fault → Type 0
Sound log q (Ok end) = (bytes_for (q + 3) ≡ length log) × (field log q 3 ≡ 0) × (field log (q + 3) (gap (q + 3)) ≡ 0)
Sound log q (Ok (found entry next)) = (next ≡ after q entry) × Stand log q (fields q entry) × (next ≤ 8 * length log) × (fits entry ≡ true)
Sound log q (Err fault) = Unit {0}

octets_stand : (log : List ℕ) (i n : ℕ) → ((k : ℕ) → get_or log k 0 < 256) → i + n ≤ length log → Stand log (8 * i) (map octet (take n (drop i log)))
octets_stand log i zero small l = tt
octets_stand log i (suc n) small l =
    let within : i < length log = omega arith in
    let next : 8 * (i + 1) ≡ 8 * i + 8 = omega arith in
    let rest : Stand log (8 * i + 8) (map octet (take n (drop (i + 1) log))) =
    subst (λ q. Stand log q (map octet (take n (drop (i + 1) log)))) next (octets_stand log (i + 1) n small (omega arith)) in
    subst (λ bytes. Stand log (8 * i) (map octet (take (suc n) bytes))) (sym (drop_more log i 0 within)) (field_byte log i (small i), rest)

part_fits : (log : List ℕ) (i n : ℕ) → ((k : ℕ) → get_or log k 0 < 256) → i + n ≤ length log → bytes_fit (take n (drop i log)) ≡ true
unfolding bytes_fit
part_fits log i zero small l = refl
part_fits log i (suc n) small l =
    let within : i < length log = omega arith in
    let first = small i in
    let rest : bytes_fit (take n (drop (i + 1) log)) ≡ true = part_fits log (i + 1) n small (omega arith) in
    ap (λ bytes. bytes_fit (take (suc n) bytes)) (drop_more log i 0 within) ∙ and_from _ _ (le-leb (get_or log i 0) 255 (omega arith)) rest

byte_in_range : (log : List ℕ) (q : ℕ) → leb (field log q 8) 255 ≡ true
byte_in_range log q = grind (arith, field_below, le-leb)

pub sound : (log : List ℕ) (q : ℕ) → ((k : ℕ) → get_or log k 0 < 256) → Sound log q (decode log q)
sound log q small =
    decode_cases log q (Sound log q) (λ fault. tt)
    (λ t h.
    let parts = and_parts (padded log (q + 3)) (eqb (bytes_for (q + 3)) (length log)) h in
    (eqb-true (bytes_for (q + 3)) (length log) parts.1, t, eqb-true (field log (q + 3) (gap (q + 3))) 0 parts.0))
    (λ t l b. (omega arith, (t, (refl, (refl, tt))), omega arith, and_from _ _ b (byte_in_range log (q + 3 + 4))))
    (λ t l.
    let below = field_below log (q + 3) 12 in
    (omega arith, (t, (refl, (refl, tt))), omega arith, and_from _ _ (le-leb (field log (q + 3) 12 + 1) 4096 (omega arith)) (byte_in_range log (q + 3 + 12))))
    (λ t l b. (omega arith, (t, (refl, tt)), omega arith, b))
    (λ t i o n ei eo en a b l.
    let payload = take n (drop i log) in
    let count = length_part log i n l in
    let w : q + 3 + 12 + 12 ≡ q + 27 = omega arith in
    let boundary : 8 * i ≡ q + 3 + 12 + 12 + gap (q + 27) = omega arith in
    let z : field log (q + 3 + 12 + 12) (gap (q + 27)) ≡ 0 = ap (λ x. field log x (gap (q + 27))) w ∙ eqb-true (field log (q + 27) (gap (q + 27))) 0 b in
    let bytes : Stand log (q + 3 + 12 + 12 + gap (q + 27)) (map octet payload) = subst (λ x. Stand log x (map octet payload)) boundary (octets_stand log i n small l) in (
      omega (arith, block_span q o payload),
      (t, (sym eo, (omega arith, (z, bytes)))),
      omega arith,
      and_from _ _ (ap (block_fits o) count ∙ a) (part_fits log i n small l),
    ))

-- What is read lies within the window

abbrev InWindow : Result Found Fault → Type 0
InWindow (Ok end) = Unit {0}
InWindow (Ok (found entry next)) = in_window entry ≡ true
InWindow (Err fault) = Unit {0}

decode_within : (log : List ℕ) (q : ℕ) → InWindow (decode log q)
decode_within log q =
    decode_cases log q InWindow (λ fault. tt) (λ t h. tt) (λ t l b. refl)
    (λ t l. let below = field_below log (q + 3) 12 in le-leb (field log (q + 3) 12 + 1) 4096 (omega arith))
    (λ t l b. refl)
    (λ t i o n ei eo en a b l. ap (block_fits o) (length_part log i n l) ∙ a)

pub found_within :
    (log : List ℕ) (q next : ℕ) (answer : Result (Option Record) Fault) → answered answer next ≡ decode log q → WhenFound (λ r. in_window (values r) ≡ true) answer
found_within log q next (Ok (Some r)) e = subst InWindow (sym e) (decode_within log q)
found_within log q next (Ok None) e = tt
found_within log q next (Err fault) e = tt
