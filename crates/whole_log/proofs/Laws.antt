-- The laws about whole logs.
use Rattle.std.proofs.Common.{◌≡◌, ℕ, ◌+◌, ◌-◌, ◌<◌, ◌≤◌, true, false, cond, is_ok, ◌⊎◌, List, [], ◌∷◌, ◌++◌, length, get_or, drop, Some, None, Ok, Err, Option, Result, sym, refl, ap, ◌∙◌, subst, inl, inr, ⊎_elim, append_assoc, append-nil, arith}
use Rattle.std.proofs.lemmas.List.{take-append-drop, drop-drop, drop_at, length-append, length-drop}
use Rattle.std.proofs.lemmas.Bool.{and_from, and_parts, le-leb, leb-true}
use Rattle.register_log.specs.Contents.{Contents, contents, log_of, end_of, AllFit, Reads, Whole}
use Rattle.register_log.specs.Fields.{Field, span, bytes_for, written}
use Rattle.register_log.specs.Header.{header as header_of, header_fits, header_fields, records_start, most}
use Rattle.register_log.specs.Record.{Entry, fits, fields}
use Rattle.register_log.specs.Recording.{State, state, begun, added, after, end_fields, log_length, roomy}
use Rattle.register_log.specs.declared.fault.Fault.{Fault}
use Rattle.register_log.specs.declared.fault.Fault.TheVariants.{Range}
use Rattle.register_log.specs.declared.header.Header.{Header}
use Rattle.register_log.specs.declared.refusal.Refusal.{Refusal}
use Rattle.register_log.specs.declared.refusal.Refusal.TheVariants.{Log, NoRoom}
use Rattle.register_log.proofs.Packing.{length-packed, span-append}
use Rattle.register_log.proofs.Whole.{all_fit_push, whole_begun, whole_added, end_push, length-log, reads_back, packed_back, after_more}
use Rattle.whole_log.specs.Outcome.{Outcome, outcome, onward, closed, recorded, one_by_one, all_or_none, recording, copied, copied_under}
use Rattle.whole_log.specs.Law.{Begins, Recordable, HeaderRefused, RecordRefused, Cause, Recorded, Copied}

-- Buffers

-- the bytes after the fields stay, and so does the length
written_beyond :
    (buffer : List ℕ) (place : ℕ) (fs : List Field) → bytes_for (place + span fs) ≤ length buffer →
    (drop (bytes_for (place + span fs)) (written buffer place fs) ≡ drop (bytes_for (place + span fs)) buffer) × (length (written buffer place fs) ≡ length buffer)
unfolding written
written_beyond buffer place fs l = grind (arith, length-packed, drop_at, length-append, length-drop)

drop_further : (xs ys : List ℕ) (m n : ℕ) → m ≤ n → drop m xs ≡ drop m ys → drop n xs ≡ drop n ys
drop_further xs ys m n l e =
    let sum : m + (n - m) ≡ n = omega arith in
    ap (λ x. drop x xs) (sym sum) ∙ sym (drop-drop (n - m) m xs) ∙ ap (drop (n - m)) e ∙ drop-drop (n - m) m ys ∙ ap (λ x. drop x ys) sum

-- a recording on its way: what stands in the buffer of what it was
record Along (before : List ℕ) (h : Header) (done : List Entry) (s : State) : Type 0 where
  whole : Whole s h done
  recordable : Recordable (length before) h done
  beyond : drop (log_length s.place) s.buffer ≡ drop (log_length s.place) before
  long : length s.buffer ≡ length before

begins : (before : List ℕ) (h : Header) (done : List Entry) (s : State) → Along before h done s → Begins before s.buffer h done
begins before h done s a = grind (arith, length-log, take-append-drop)

-- Calls

BegunSays : List ℕ → Header → Result State Refusal → Type 0
BegunSays before h (Ok s) =
    (header_fits h ≡ true) × (roomy (length before) records_start ≡ true) × (s ≡ state records_start (written before 0 (header_fields h ++ end_fields)))
BegunSays before h (Err refusal) = HeaderRefused (length before) h refusal

begun_says : (before : List ℕ) (h : Header) → BegunSays before h (begun before h)
unfolding BegunSays
begun_says before h = grind arith

AddedSays : State → Entry → Result State Refusal → Type 0
AddedSays s entry (Ok next) =
    (fits entry ≡ true) × (roomy (length s.buffer) (after s.place entry) ≡ true)
    × (next ≡ state (after s.place entry) (written s.buffer s.place (fields s.place entry ++ end_fields)))
AddedSays s entry (Err refusal) =
    ((fits entry ≡ false) × (refusal ≡ Log Range)) ⊎ ((fits entry ≡ true) × (roomy (length s.buffer) (after s.place entry) ≡ false) × (refusal ≡ NoRoom))

added_says : (s : State) (entry : Entry) → AddedSays s entry (added s entry)
unfolding AddedSays
added_says s entry = grind arith

pub room_parts : (capacity place : ℕ) → roomy capacity place ≡ true → (log_length place ≤ capacity) × (log_length place ≤ most)
room_parts capacity place h = grind (arith, and_parts, leb-true)

-- bytes beyond the log stay, and so does the length
added_beyond :
    (s : State) (entry : Entry) → roomy (length s.buffer) (after s.place entry) ≡ true →
    let bytes : List ℕ = written s.buffer s.place (fields s.place entry ++ end_fields) in
    let size : ℕ = log_length (after s.place entry) in
    (drop size bytes ≡ drop size s.buffer) × (length bytes ≡ length s.buffer)
added_beyond s entry roomy_here =
    let fs = fields s.place entry ++ end_fields in
    let end = after s.place entry in
    let total : s.place + span fs ≡ end + 3 = omega (arith, span-append (fields s.place entry) end_fields) in
    let count : bytes_for (s.place + span fs) ≡ log_length end = ap bytes_for total in
    let room = room_parts (length s.buffer) end roomy_here in
    let rest = written_beyond s.buffer s.place fs (subst (λ n. n ≤ length s.buffer) (sym count) room.0) in
    (subst (λ n. drop n (written s.buffer s.place fs) ≡ drop n s.buffer) count rest.0, rest.1)

pub long_begun : (buffer : List ℕ) (h : Header) (s : State) → begun buffer h ≡ Ok s → length s.buffer ≡ length buffer
unfolding BegunSays
long_begun buffer h s e =
    let says = subst (BegunSays buffer h) e (begun_says buffer h) in
    let room = room_parts (length buffer) records_start says.1 in
    ap (λ x. length x.buffer) says.2 ∙ (written_beyond buffer 0 (header_fields h ++ end_fields) room.0).1

pub long_added : (s next : State) (entry : Entry) → added s entry ≡ Ok next → length next.buffer ≡ length s.buffer
unfolding AddedSays
long_added s next entry e =
    let says = subst (AddedSays s entry) e (added_says s entry) in
    ap (λ x. length x.buffer) says.2 ∙ (added_beyond s entry says.1).1

along_begun : (before : List ℕ) (h : Header) (s : State) → BegunSays before h (Ok s) → Along before h [] s
unfolding BegunSays
along_begun before h s says =
    let fs = header_fields h ++ end_fields in
    let room = room_parts (length before) records_start says.1 in
    let rest = written_beyond before 0 fs room.0 in
    let first : Along before h [] (state records_start (written before 0 fs)) = record {
      whole = whole_begun before (written before 0 fs) records_start h says.0 refl refl;
      recordable = (says.0, tt, says.1);
      beyond = rest.0;
      long = rest.1;
    } in
    subst (Along before h []) (sym says.2) first

along_added :
    (before : List ℕ) (h : Header) (done : List Entry) (entry : Entry) (s next : State) → Along before h done s → AddedSays s entry (Ok next) →
    Along before h (done ++ entry ∷ []) next
unfolding AddedSays
along_added before h done entry s next a says =
    let fs = fields s.place entry ++ end_fields in
    let end = after s.place entry in
    let room = room_parts (length s.buffer) end says.1 in
    let rest = added_beyond s entry says.1 in
    let last : end ≡ end_of (done ++ entry ∷ []) = ap (λ q. after q entry) a.whole.place ∙ end_push done entry in
    let roomy_now : roomy (length before) (end_of (done ++ entry ∷ [])) ≡ true =
    subst (λ n. roomy n (end_of (done ++ entry ∷ [])) ≡ true) a.long (subst (λ q. roomy (length s.buffer) q ≡ true) last says.1) in
    let one : Along before h (done ++ entry ∷ []) (state end (written s.buffer s.place fs)) = record {
      whole = whole_added s.place end s.buffer (written s.buffer s.place fs) entry h done says.0 room.1 refl refl a.whole;
      recordable = (a.recordable.0, all_fit_push done entry a.recordable.1 says.0, roomy_now);
      beyond = rest.0 ∙ drop_further s.buffer before (log_length s.place) (log_length end) (omega arith) a.beyond;
      long = rest.1 ∙ a.long;
    } in
    subst (Along before h (done ++ entry ∷ [])) (sym says.2) one

-- Lists of records

all_fit_at : (done : List Entry) (entry : Entry) (rest : List Entry) → AllFit (done ++ entry ∷ rest) → fits entry ≡ true
all_fit_at [] entry rest a = a.0
all_fit_at (x ∷ done) entry rest a = all_fit_at done entry rest a.1

append_one : (done : List Entry) (entry : Entry) (rest : List Entry) → (done ++ entry ∷ []) ++ rest ≡ done ++ entry ∷ rest
append_one done entry rest = append_assoc done (entry ∷ []) rest

-- a log of more records is no shorter
end_more : (entries rest : List Entry) → end_of entries ≤ end_of (entries ++ rest)
end_more entries [] = let same = ap end_of (append-nil entries) in omega arith
end_more entries (entry ∷ rest) =
    let first = end_push entries entry in
    let more = after_more (end_of entries) entry in
    let others = end_more (entries ++ entry ∷ []) rest in
    let same = ap end_of (append_one entries entry rest) in
    omega arith

room_less : (capacity p q : ℕ) → p ≤ q → roomy capacity q ≡ true → roomy capacity p ≡ true
room_less capacity p q l h = grind (arith, room_parts, and_from, le-leb)

-- what the single calls leave
record Singly (before : List ℕ) (h : Header) (entries : List Entry) (fault : Option Fault) (o : Outcome) : Type 0 where
  granted : Recordable (length before) h entries → fault ≡ None → o.answer ≡ Ok (length (log_of h entries))
  whole :
      (n : ℕ) → o.answer ≡ Ok n →
      (fault ≡ None) × Recordable (length before) h entries × (n ≡ length (log_of h entries)) × Begins before o.buffer h entries
  refused : (refusal : Refusal) → o.answer ≡ Err refusal → Cause (length before) h entries fault refusal

module _ (before : List ℕ) (h : Header) (fault : Option Fault) where
  closed_law :
      (f : Option Fault) (done : List Entry) (s : State) → Along before h done s → Singly before h done f (closed f s)
  closed_law None done s a =
      let count : log_length s.place ≡ length (log_of h done) = ap log_length a.whole.place ∙ sym (length-log h done) in
      record {
        granted = λ able none. ap Ok count;
        whole = λ n e. (refl, a.recordable, sym (let m : log_length s.place ≡ n = cc in m) ∙ count, begins before h done s a);
        refused = λ refusal e. cc;
      }
  closed_law (Some f) done s a = record {
    granted = λ able none. cc;
    whole = λ n e. cc;
    refused = λ refusal e. inr (inr (a.recordable, (f, refl, (let m : Log f ≡ refusal = cc in sym m))));
  }

  -- where a record is refused
  refused_law :
      (done : List Entry) (entry : Entry) (rest : List Entry) (s : State) (refusal : Refusal) → Along before h done s → AddedSays s entry (Err refusal) →
      Singly before h (done ++ entry ∷ rest) fault (outcome (Err refusal) s.buffer)
  unfolding AddedSays
  refused_law done entry rest s refusal a says =
      let end : after s.place entry ≡ end_of (done ++ entry ∷ []) = ap (λ q. after q entry) a.whole.place ∙ end_push done entry in
      let cause : RecordRefused (length before) done entry refusal =
      ⊎_elim (λ u. inl u) (λ v. inr (v.0, subst (λ n. roomy n (end_of (done ++ entry ∷ [])) ≡ false) a.long (subst (λ q. roomy (length s.buffer) q ≡ false) end v.1), v.2)) says in
      record {
        granted = λ able none.
            let fine = all_fit_at done entry rest able.1 in
            let less : end_of (done ++ entry ∷ []) ≤ end_of (done ++ entry ∷ rest) = subst (λ es. end_of (done ++ entry ∷ []) ≤ end_of es) (append_one done entry rest) (end_more (done ++ entry ∷ []) rest) in
            let roomy_here = room_less (length before) (end_of (done ++ entry ∷ [])) (end_of (done ++ entry ∷ rest)) less able.2 in
            ⊎_elim (λ u. cc) (λ v. cc) cause;
        whole = λ n e. cc;
        refused = λ other e.
            let same : refusal ≡ other = cc in
            inr (inl (done, entry, rest, refl, a.recordable, subst (RecordRefused (length before) done entry) same cause));
      }

  recorded_law :
      (rest : List Entry) (done : List Entry) (s : State) → Along before h done s → Singly before h (done ++ rest) fault (recorded rest fault s)
  recorded_law [] done s a = subst (λ es. Singly before h es fault (closed fault s)) (sym (append-nil done)) (closed_law fault done s a)
  recorded_law (entry ∷ rest) done s a = by_outcome (added s entry) (added_says s entry) (λ next b. recorded_law rest (done ++ entry ∷ []) next b)
    where
      by_outcome :
          (o : Result State Refusal) → AddedSays s entry o →
          ((next : State) → Along before h (done ++ entry ∷ []) next → Singly before h ((done ++ entry ∷ []) ++ rest) fault (recorded rest fault next)) →
          Singly before h (done ++ entry ∷ rest) fault (onward (recorded rest fault) s.buffer o)
      by_outcome (Ok next) says ih =
          subst (λ es. Singly before h es fault (recorded rest fault next)) (append_one done entry rest) (ih next (along_added before h done entry s next a says))
      by_outcome (Err refusal) says ih = refused_law done entry rest s refusal a says

singly_law : (before : List ℕ) (h : Header) (entries : List Entry) (fault : Option Fault) → Singly before h entries fault (one_by_one before h entries fault)
unfolding BegunSays
singly_law before h entries fault = by_outcome (begun before h) (begun_says before h)
  where
    by_outcome : (o : Result State Refusal) → BegunSays before h o → Singly before h entries fault (onward (recorded entries fault) before o)
    by_outcome (Ok s) says = recorded_law before h fault entries [] s (along_begun before h s says)
    by_outcome (Err refusal) says = record {
      granted = λ able none.
          let start : records_start ≤ end_of entries = omega arith in
          let enough = room_less (length before) records_start (end_of entries) start able.2 in
          ⊎_elim (λ u. cc) (λ v. cc) says;
      whole = λ n e. cc;
      refused = λ other e. let same : refusal ≡ other = cc in inl (subst (HeaderRefused (length before) h) same says);
    }

-- many calls as one
pub whole_kept : (before : List ℕ) (o : Outcome) (n : ℕ) → o.answer ≡ Ok n → (all_or_none before o).buffer ≡ o.buffer
whole_kept before o n e = ap (λ r. cond (is_ok r) o.buffer before) e

pub none_kept : (before : List ℕ) (o : Outcome) (refusal : Refusal) → o.answer ≡ Err refusal → (all_or_none before o).buffer ≡ before
none_kept before o refusal e = ap (λ r. cond (is_ok r) o.buffer before) e

pub record_law : (before : List ℕ) (h : Header) (entries : List Entry) (fault : Option Fault) → Recorded before h entries fault (recording before h entries fault)
record_law before h entries fault =
    let o = one_by_one before h entries fault in
    let law = singly_law before h entries fault in
    record {
      granted = law.granted;
      whole = λ n e.
          let w = law.whole n e in
          (w.0, w.1, w.2, (whole_kept before o n e ∙ w.3.0, w.3.1));
      refused = λ refusal e. (law.refused refusal e, none_kept before o refusal e);
    }

-- Copies

same_ok : {A E : Type 0} {x y : A} → ◌≡◌ {A = Result A E} (Ok x) (Ok y) → x ≡ y
same_ok e = cc

pub copy_law : (log before : List ℕ) → ((k : ℕ) → get_or log k 0 < 256) → Copied log before (copied log before)
copy_law log before small =
    let under : (h : Header) → header_of log ≡ Ok h → copied log before ≡ recording before h (contents log).entries (contents log).fault = λ h e. ap (copied_under log before) e in
    let law : (h : Header) → header_of log ≡ Ok h → Recorded before h (contents log).entries (contents log).fault (copied log before) =
    λ h e. subst (Recorded before h (contents log).entries (contents log).fault) (sym (under h e)) (record_law before h (contents log).entries (contents log).fault) in
    let accepted : (h : Header) (entries : List Entry) → Reads log h entries → Recorded before h entries None (copied log before) =
    λ h entries r. subst (λ (c : Contents). Recorded before h c.entries c.fault (copied log before)) r.1 (law h r.0) in
    record {
      same = λ h entries r l.
          let known = packed_back log h entries small r in
          let count : length (log_of h entries) ≡ length log = ap length (sym known.3) in
          let size : log_length (end_of entries) ≡ length log = sym (length-log h entries) ∙ count in
          let short = known.2 in
          let room : roomy (length before) (end_of entries) ≡ true =
          and_from _ _ (le-leb (log_length (end_of entries)) (length before) (omega arith)) (le-leb (log_length (end_of entries)) most (omega arith)) in
          let told = (accepted h entries r).granted (known.0, known.1, room) refl in
          let w = (accepted h entries r).whole (length (log_of h entries)) told in
          (told ∙ ap Ok count, w.3.0 ∙ ap (λ x. x ++ drop (length x) before) (sym known.3));
      one = λ h entries r.
          let known = packed_back log h entries small r in
          let short = known.2 in (
            known.0,
            known.1,
            known.3,
            λ k others fit all e.
                let size : log_length (end_of others) ≡ length log = sym (length-log k others) ∙ ap length (sym e) in
                let back : Reads log k others = subst (λ x. Reads x k others) (sym e) (reads_back k others fit all (omega arith)) in
                (same_ok (sym back.0 ∙ r.0), ap (λ (c : Contents). c.entries) (sym back.1 ∙ r.1)),
          );
      refused = λ refusal e. by_header (header_of log) refusal e;
      header = λ fault e. ap (λ x. (copied_under log before x).answer) e;
      recorded = law;
    }
  where
    by_header : (r : Result Header Fault) → (refusal : Refusal) → (copied_under log before r).answer ≡ Err refusal → (copied_under log before r).buffer ≡ before
    by_header (Ok h) refusal e = none_kept before (one_by_one before h (contents log).entries (contents log).fault) refusal e
    by_header (Err fault) refusal e = refl

-- a log whose recording is granted: its length, which the buffer has, and what is left
pub copy_granted :
    (log before : List ℕ) (h : Header) (n : ℕ) → ((k : ℕ) → get_or log k 0 < 256) → header_of log ≡ Ok h →
    (one_by_one before h (contents log).entries (contents log).fault).answer ≡ Ok n →
    (n ≡ length log) × (length log ≤ length before) × (copied log before ≡ outcome (Ok n) (log ++ drop (length log) before))
copy_granted log before h n small e g =
    let c = contents log in
    let law = record_law before h c.entries c.fault in
    let w = law.whole n g in
    let reads : Reads log h c.entries = (e, ap (λ f. record { entries = c.entries; fault = f }) w.0) in
    let known = packed_back log h c.entries small reads in
    let count : n ≡ length log = w.2 ∙ ap length (sym known.3) in
    let size : log_length (end_of c.entries) ≡ n = sym (length-log h c.entries) ∙ sym w.2 in
    let room = room_parts (length before) (end_of c.entries) w.1.2 in
    let bytes : (recording before h c.entries c.fault).buffer ≡ log ++ drop (length log) before =
    w.3.0 ∙ ap (λ x. x ++ drop (length x) before) (sym known.3) in (
      count,
      omega arith,
      ap (copied_under log before) e ∙ ap (λ r. outcome r (recording before h c.entries c.fault).buffer) g ∙ ap (outcome (Ok n)) bytes,
    )
