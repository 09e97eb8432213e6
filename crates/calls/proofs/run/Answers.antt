use Rattle.std.proofs.Common.{◌≡◌, ap, ap₂, ◌∙◌}
use Rattle.std.proofs.lemmas.List.{drop_more, drop_all}
use Rattle.wave.specs.Means.{means}
use Rattle.chip.specs.Chip.{state}
use Rattle.chip.specs.Port.{State}
use Rattle.calls.specs.Law.{new as new-chip}
use Rattle.calls.specs.declared.Call.TheVariants.{Reset}
use Rattle.calls.proofs.Switching.{law}
use Rattle.calls.proofs.run.Goals as goal

pub loop-call-preserved : goal.loop-call-preserved
loop-call-preserved g c =
    let p = c.perform.ensures in
    let before = rw (drop_more c.args.calls.now c.loop-call.call-index Reset c.loop-call-test.true) at c.loop-call.invariant in
    (cc, cc, cc, c.perform.ensures.same_borrows ∙ c.loop-call.invariant.3)

pub returns : goal.returns
returns g c =
    let begun : state g.M.Source.bytes g.M.Store.takes c.new-chip.result ≡ new-chip (means g.M.Source.bytes g.M.Store.takes c.args.memory) c.args.setup =
    ap₂ {C = State} (λ r m. record { registers = r; memory = means g.M.Source.bytes g.M.Store.takes m })
    c.new-chip.ensures.registers c.new-chip.ensures.memory in
    let went = rw (drop_all c.loop-call.call-index c.args.calls.now c.loop-call-test.false, begun) at c.loop-call.invariant in
    record {
      after = went.0;
      frame = went.1;
      buffer = went.2;
      law = law _ _ _;
      same_borrows = c.loop-call.invariant.3 ∙ ap g.M.Store.borrows c.new-chip.ensures.memory;
    }
