use Rattle.std.proofs.Common.{◌≡◌, ℕ, Ok, sym, ap, ◌∙◌, arith}
use Rattle.std.proofs.lemmas.Result.{err_from_is_err_and}
use Rattle.register_log.specs.Contents.{Contents, contents}
use Rattle.register_log.specs.Reading.{found, decode}
use Rattle.register_log.specs.Record.{values}
use Rattle.whole_log.proofs.Runs.{rest_of, header_long, rest_start, found_later}
use Rattle.whole_log.proofs.Measuring.{measured, measured_granted, measured_refused, measured_begun, measured_end, measured_fault, measured_at, answer_measured}
use Rattle.whole_log.proofs.measure_log.Goals as goal
use Rattle.whole_log.proofs.measure_log.Goals.{In-Some}

pub loop-record-init : goal.loop-record-init
loop-record-init c =
    let log = c.args.log.now in
    let small = λ (k : ℕ). (c.type_inv.log k).fits in
    let long = header_long log c.args.header c.requires in
    let first = ap (rest_of log) c.new-reader.ensures.place ∙ rest_start log small long in (
      c.new-reader.ensures.log,
      ap (λ (x : Contents). measured c.args.capacity x.entries x.fault c.in_ok-layout.layout.place) first
          ∙ measured_begun c.args.capacity c.args.header (contents log).entries (contents log).fault c.in_ok-layout.layout.place c.in_ok-layout.ensures,
    )

pub returns : goal.returns
returns c = λ buffer l.
    let log = c.args.log.now in
    let small = λ (k : ℕ). (c.type_inv.log k).fits in
    let told = rw c.in_default.is at c.in_ok-record.ensures.found in
    let i = c.loop-record.invariant in
    let last = c.length.ensures in
    let all = answer_measured c.args.capacity buffer c.args.header (contents log).entries (contents log).fault l in
    grind (arith, measured_at, measured_end)

pub returns-in_err-record : goal.returns-in_err-record
returns-in_err-record c = λ buffer l.
    let log = c.args.log.now in
    let small = λ (k : ℕ). (c.type_inv.log k).fits in
    let told = c.in_err-record.ensures.found in
    let i = c.loop-record.invariant in
    let p = err_from_is_err_and c.from_residual-in_err-record.result c.from_residual-in_err-record.ensures.1 in
    let all = answer_measured c.args.capacity buffer c.args.header (contents log).entries (contents log).fault l in
    grind (arith, measured_at, measured_fault)

-- the record that was found
met : (c : In-Some) → decode c.args.log.now c.loop-record.reader.place ≡ Ok (found (values c.in-Some.record) c.next.new.self.place)
met c =
    let told = rw c.in-Some.is at c.in_ok-record.ensures.found in
    sym (told ∙ ap (λ x. decode x c.loop-record.reader.place) c.loop-record.invariant.0)

pub loop-record-smaller : goal.loop-record-smaller
loop-record-smaller c =
    found_later c.args.log.now (λ k. (c.type_inv.log k).fits) c.loop-record.reader.place c.next.new.self.place (values c.in-Some.record)
    (met (goal.at.loop-record-smaller c).In-Some)

pub loop-record-preserved : goal.loop-record-preserved
loop-record-preserved c =
    let log = c.args.log.now in
    let next = c.next.new.self.place in
    let entry = values c.in-Some.record in
    let e = c.in_ok-add.ensures in
    let d = met (goal.at.loop-record-preserved c).In-Some in (
      c.next.ensures.log ∙ c.loop-record.invariant.0,
      sym
          (sym c.loop-record.invariant.1
          ∙ measured_at log (λ k. (c.type_inv.log k).fits) c.loop-record.reader.place (Ok (found entry next)) d c.args.capacity c.loop-record.layout.place
          ∙ measured_granted c.args.capacity entry (rest_of log next).entries (rest_of log next).fault c.loop-record.layout.place c.add.new.self.place (sym e.answer) e.after),
    )

pub returns-in_err-add : goal.returns-in_err-add
returns-in_err-add c = λ buffer l.
    let log = c.args.log.now in
    let next = c.next.new.self.place in
    let entry = values c.in-Some.record in
    let place = c.loop-record.layout.place in
    let p = err_from_is_err_and c.from_residual-in_err-add.result c.from_residual-in_err-add.ensures.1 in
    let e = c.in_err-add.ensures in
    let d = met (goal.at.returns-in_err-add c).In-Some in
    let left = measured_at log (λ k. (c.type_inv.log k).fits) c.loop-record.reader.place (Ok (found entry next)) d c.args.capacity place in
    let last = measured_refused c.args.capacity entry (rest_of log next).entries (rest_of log next).fault place c.in_err-add.field-0.0 (sym e.answer) in
    let all = answer_measured c.args.capacity buffer c.args.header (contents log).entries (contents log).fault l in
    let i = c.loop-record.invariant in
    cc
