use Rattle.std.proofs.Common.{◌≡◌, None, refl, sym, subst, rules}
use Rattle.whole_log.specs.Law.{Recorded}
use Rattle.whole_log.specs.Outcome.{outcome, recording}
use Rattle.whole_log.proofs.Laws.{record_law}
use Rattle.whole_log.proofs.record.Goals as goal

pub returns-in_err-measure-clause-law : goal.returns-in_err-measure-clause-law
returns-in_err-measure-clause-law g c =
    let before = c.args.buffer.now in
    let entries = g.R.Records.entries c.args.records in
    let looked = c.measure.ensures before refl in
    let told : outcome c.from_residual.result before ≡ recording before c.args.header entries None = search rules in
    subst (Recorded before c.args.header entries None) (sym told) (record_law before c.args.header entries None)

pub returns-clause-law : goal.returns-clause-law
returns-clause-law g c =
    let before = c.args.buffer.now in
    let entries = g.R.Records.entries c.args.records in
    let looked = c.measure.ensures before refl in
    let told : outcome c.write.result c.write.new.buffer ≡ recording before c.args.header entries None = search rules in
    subst (Recorded before c.args.header entries None) (sym told) (record_law before c.args.header entries None)
