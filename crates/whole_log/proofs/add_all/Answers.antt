use Rattle.std.proofs.Common.{sym, ◌∙◌, ap, arith}
use Rattle.std.specs.Option.{option_map}
use Rattle.std.proofs.lemmas.Result.{err_from_is_err_and}
use Rattle.register_log.specs.Record.{values}
use Rattle.whole_log.proofs.Runs.{recorded_granted, recorded_refused, next_entry, no_entry}
use Rattle.whole_log.proofs.add_all.Goals as goal
use Rattle.whole_log.proofs.add_all.Goals.{in-Some+in_ok-add, in_default}

pub returns-in_err-add : goal.returns-in_err-add
returns-in_err-add g c =
    let entries = g.R.Records.entries c.args.records in
    let p = err_from_is_err_and c.from_residual.result c.from_residual.ensures.1 in
    let e = c.in_err-add.ensures in
    let i = c.loop-index.invariant in
    let next = next_entry entries c.loop-index.index (values c.in-Some.record) c.in-Some.ensures in
    grind (arith, recorded_refused)

pub loop-index-preserved : goal.loop-index-preserved
loop-index-preserved g c =
    let entries = g.R.Records.entries c.args.records in
    let i = c.loop-index.invariant in
    elim c.match-at.branch [
      | in-Some+in_ok-add w ↦
          let next = next_entry entries c.loop-index.index (values w.in-Some.record) w.in-Some.ensures in
          let e = w.in_ok-add.ensures in
          let r = w.recording-is in
          let b = w.buffer-is in
          grind (arith, recorded_granted)
      | in_default w ↦
          let past = no_entry entries c.loop-index.index (sym (ap (option_map values) w.in_default.is) ∙ c.at.ensures) in
          let within = c.loop-index-test.true in
          let end = c.count-index-end.ensures in
          grind arith
    ]
