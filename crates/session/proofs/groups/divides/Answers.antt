use Rattle.std.proofs.Common.{sym, ◌∙◌, refl, below_more, arith}
use Rattle.std.proofs.lemmas.Bool.{false≢true}
use Rattle.session.proofs.Bits.{all_bytes}
use Rattle.session.proofs.groups.divides.Goals as goal

pub returns-then-holders-ne1 : goal.returns-then-holders-ne1
returns-then-holders-ne1 c = (
  λ no. absurd (false≢true no),
  λ divides. absurd (c.if-holders-ne1.true (c.holders.ensures ∙ divides.once c.loop-k.k c.loop-k-test.true)),
)

pub loop-k-preserved : goal.loop-k-preserved
loop-k-preserved c = below_more _ _ c.loop-k.invariant (sym c.holders.ensures ∙ c.if-holders-ne1.false)

pub returns : goal.returns
returns c = (
  λ yes. record { bytes = all_bytes c.args.groups.now (λ i. omega (arith, c.type_inv.groups i)); once = λ k h. c.loop-k.invariant k (omega (arith, c.loop-k-test.false)) },
  λ divides. refl,
)
