use Rattle.std.proofs.Common.{None, sym, ◌∙◌, ap, arith}
use Rattle.std.specs.Option.{option_map}
use Rattle.std.proofs.lemmas.List.{drop_all}
use Rattle.std.proofs.lemmas.Result.{err_from_is_err_and}
use Rattle.register_log.specs.Record.{values}
use Rattle.whole_log.proofs.Runs.{next_entry, no_entry}
use Rattle.whole_log.proofs.Measuring.{measured_granted, measured_refused, measured_begun, measured_end, answer_measured}
use Rattle.whole_log.proofs.measure.Goals as goal
use Rattle.whole_log.proofs.measure.Goals.{in-Some+in_ok-add, in_default}

pub loop-index-init : goal.loop-index-init
loop-index-init g c = measured_begun c.args.capacity c.args.header (g.R.Records.entries c.args.records) None c.in_ok-layout.layout.place c.in_ok-layout.ensures

pub returns-in_err-add : goal.returns-in_err-add
returns-in_err-add g c = λ buffer l.
    let entries = g.R.Records.entries c.args.records in
    let p = err_from_is_err_and c.from_residual-in_err-add.result c.from_residual-in_err-add.ensures.1 in
    let e = c.in_err-add.ensures in
    let i = c.loop-index.invariant in
    let next = next_entry entries c.loop-index.index (values c.in-Some.record) c.in-Some.ensures in
    let all = answer_measured c.args.capacity buffer c.args.header entries None l in
    grind (arith, measured_refused)

pub loop-index-preserved : goal.loop-index-preserved
loop-index-preserved g c =
    let entries = g.R.Records.entries c.args.records in
    let i = c.loop-index.invariant in
    elim c.match-at.branch [
      | in-Some+in_ok-add w ↦
          let next = next_entry entries c.loop-index.index (values w.in-Some.record) w.in-Some.ensures in
          let e = w.in_ok-add.ensures in
          let r = w.layout-is in
          grind (arith, measured_granted)
      | in_default w ↦
          let past = no_entry entries c.loop-index.index (sym (ap (option_map values) w.in_default.is) ∙ c.at.ensures) in
          absurd (omega (arith, c.loop-index-test.true, c.count-index-end.ensures))
    ]

pub returns : goal.returns
returns g c = λ buffer l.
    let entries = g.R.Records.entries c.args.records in
    let i = c.loop-index.invariant in
    let all = answer_measured c.args.capacity buffer c.args.header entries None l in
    let last = c.length.ensures in
    grind (arith, drop_all, measured_end)
