use Rattle.std.proofs.Common.{◌≡◌, ◌≤◌, ◌++◌, length, drop, Ok, refl, sym, subst, ap, ◌∙◌, rules, arith}
use Rattle.std.proofs.lemmas.List.{length-take}
use Rattle.whole_log.specs.Law.{Copied}
use Rattle.whole_log.specs.Outcome.{outcome, copied}
use Rattle.whole_log.proofs.Laws.{copy_law, copy_granted}
use Rattle.whole_log.proofs.copy.Goals as goal
use Rattle.whole_log.proofs.copy.Goals.{In_ok-length}

pub returns-in_err-length-clause-law : goal.returns-in_err-length-clause-law
returns-in_err-length-clause-law c =
    let log = c.args.log.now in
    let before = c.args.buffer.now in
    let told : outcome c.from_residual-in_err-length.result before ≡ copied log before = search rules in
    subst (Copied log before) (sym told) (copy_law log before (λ k. (c.type_inv.log k).fits))

-- what a granted copy leaves
done :
    (c : In_ok-length) → let log = c.args.log.now in let before = c.args.buffer.now in let n = c.in_ok-length.length in
    (n ≡ length log) × (length log ≤ length before) × (copied log before ≡ outcome (Ok n) (log ++ drop (length log) before))
done c =
    copy_granted c.args.log.now c.args.buffer.now c.in_ok-header.header c.in_ok-length.length (λ k. (c.type_inv.log k).fits) (sym c.in_ok-header.ensures)
    (sym (c.in_ok-length.ensures c.args.buffer.now refl))

pub slice_bounds-copy_from_slice-end : goal.slice_bounds-copy_from_slice-end
slice_bounds-copy_from_slice-end c = let d = done (goal.at.slice_bounds-copy_from_slice-end c).In_ok-length in omega arith

pub slice_bounds-copy_from_slice-end-2 : goal.slice_bounds-copy_from_slice-end-2
slice_bounds-copy_from_slice-end-2 c = let d = done (goal.at.slice_bounds-copy_from_slice-end-2 c).In_ok-length in grind (arith, length-take)

pub copy_from_slice-requires : goal.copy_from_slice-requires
copy_from_slice-requires c = let d = done (goal.at.copy_from_slice-requires c).In_ok-length in grind (arith, length-take)

pub returns-clause-outcome : goal.returns-clause-outcome
returns-clause-outcome c =
    let d = done (goal.at.returns-clause-outcome c).In_ok-length in
    ap (outcome (Ok c.in_ok-length.length)) (ap (λ xs. xs ++ drop c.in_ok-length.length c.args.buffer.now) c.copy_from_slice.ensures.after ∙ ap (λ n. c.args.log.now ++ drop n c.args.buffer.now) d.0) ∙ sym d.2

pub returns-clause-law : goal.returns-clause-law
returns-clause-law c =
    let log = c.args.log.now in
    let before = c.args.buffer.now in
    subst (Copied log before) (sym (returns-clause-outcome c)) (copy_law log before (λ k. (c.type_inv.log k).fits))
