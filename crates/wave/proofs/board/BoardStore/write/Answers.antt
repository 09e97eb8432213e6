use Rattle.std.proofs.Common.{◌-◌, ◌<◌, ◌≤◌, refl, sym, ap, ◌∙◌, arith}
use Rattle.outcome.specs.Outcome.{granted}
use Rattle.wave.specs.Memory.{Memory, most, size, store, written}
use Rattle.wave.specs.Means.{means}
use Rattle.wave.specs.Board.{board, cut_off}
use Rattle.wave.proofs.Joins.{granted_first, written_first, second_left, granted_second, written_second, second_reached, board_past, second_far, cut_first, cut_second}
use Rattle.wave.proofs.Writes.{store_past, written_past}
use Rattle.wave.proofs.board.BoardStore.write.Goals as goal

pub returns-then-place-size : goal.returns-then-place-size
returns-then-place-size g c =
    let m : Memory = means g.A.Source.bytes g.A.Store.takes c.args.self.now.first in
    let n : Memory = means g.B.Source.bytes g.B.Store.takes c.args.self.now.second in
    let short : size m ≤ most = omega arith in
    let here : c.args.place < size m = omega arith in
    record {
      answer = c.write.ensures.answer ∙ sym (granted_first m n c.args.place c.args.byte short here);
      after = ap (λ x. board x n) c.write.ensures.after ∙ sym (written_first m n c.args.place c.args.byte short here);
      first = c.write.ensures.after;
      second = sym (second_left m n c.args.place c.args.byte short here);
      cut_off = ap (λ x. cut_off x.bytes n.bytes) c.write.ensures.after ∙ cut_first m n.bytes c.args.place c.args.byte;
      first_borrows = c.write.ensures.same_borrows;
      second_borrows = refl;
    }

pub returns-then-place-lt-MOST : goal.returns-then-place-lt-MOST
returns-then-place-lt-MOST g c =
    let m : Memory = means g.A.Source.bytes g.A.Store.takes c.args.self.now.first in
    let n : Memory = means g.B.Source.bytes g.B.Store.takes c.args.self.now.second in
    let there : size m ≤ c.args.place = omega arith in
    let near : c.args.place < most = omega arith in
    let left = c.size-size.ensures.exact in
    let after = c.write-then-place-lt-MOST.ensures.after ∙ ap (λ s. written n (c.args.place - s) c.args.byte) left in
    record {
      answer =
          c.write-then-place-lt-MOST.ensures.answer
          ∙ ap (λ s. granted (store n (c.args.place - s) c.args.byte)) left
          ∙ sym (granted_second m n c.args.place c.args.byte there near);
      after = ap (board m) after ∙ sym (written_second m n c.args.place c.args.byte there near);
      first = sym (written_past m c.args.place c.args.byte there);
      second = after ∙ sym (second_reached m n c.args.place c.args.byte there near);
      cut_off = ap (λ x. cut_off m.bytes x.bytes) after ∙ cut_second m.bytes n (c.args.place - size m) c.args.byte (omega arith);
      first_borrows = refl;
      second_borrows = c.write-then-place-lt-MOST.ensures.same_borrows;
    }

pub returns-else-place-lt-MOST : goal.returns-else-place-lt-MOST
returns-else-place-lt-MOST g c =
    let m : Memory = means g.A.Source.bytes g.A.Store.takes c.args.self.now.first in
    let n : Memory = means g.B.Source.bytes g.B.Store.takes c.args.self.now.second in
    let there : size m ≤ c.args.place = omega arith in
    let far : most ≤ c.args.place = omega arith in
    record {
      answer = sym (ap granted (store_past (board m n) c.args.place c.args.byte (board_past m n c.args.place c.args.byte far)));
      after = sym (written_past (board m n) c.args.place c.args.byte (board_past m n c.args.place c.args.byte far));
      first = sym (written_past m c.args.place c.args.byte there);
      second = sym (second_far m n c.args.place c.args.byte far);
      cut_off = refl;
      first_borrows = refl;
      second_borrows = refl;
    }
