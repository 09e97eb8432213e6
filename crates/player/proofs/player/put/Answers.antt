use Rattle.std.proofs.Common.{rules, arith}
use Rattle.std.proofs.lemmas.List.{drop_more}
use Rattle.player.specs.Step.{put}
use Rattle.player.proofs.player.put.Goals as goal

pub returns-in_err-map_err-clause-put : goal.returns-in_err-map_err-clause-put
unfolding put
returns-in_err-map_err-clause-put g c =
    let before = rw (drop_more c.args.bytes.now c.loop-byte.byte-index 0 c.loop-byte-test.true) at c.loop-byte.invariant.1 in
    λ place. let h = before place in search rules

pub loop-byte-preserved : goal.loop-byte-preserved
unfolding put
loop-byte-preserved g c =
    let before = rw (drop_more c.args.bytes.now c.loop-byte.byte-index 0 c.loop-byte-test.true) at c.loop-byte.invariant.1 in
    (omega arith, λ place. let h = before place in search rules, search rules)
