-- The RAM at the front of a board.
use Rattle.std.proofs.Common.{◌≡◌, ℕ, List, ◌∷◌, ◌++◌, length, take, min, sym, ap, ap₂, ◌∙◌}
use Rattle.std.proofs.lemmas.List.{take-append-drop, take-take}
use Rattle.std.proofs.Math.Seq.{take-append_seam}
use Rattle.wave.specs.Memory.{most, Loan}
use Rattle.wave.specs.Lent.{used, used_within, beyond, ram, rom}
use Rattle.wave.specs.Board.{joined, board}
use Rattle.wave.specs.Memory.{Memory}
use Rattle.chip.specs.Port.{State}
use Rattle.chip.specs.declared.registers.Registers.{Registers}
use Rattle.wave.proofs.Limits.{used_length}
use Rattle.player.specs.Step.{Stand}
use Rattle.exported.specs.Plays.{begun, playing}
use Rattle.exported.specs.declared.frames.Totals.{Totals}
use Rattle.exported.specs.declared.frames.Words.{Words}

abbrev pub state : Registers → Memory → State
state r m = record { registers = r; memory = m }

pub front : (lent second : List ℕ) → used lent ≡ take (length (used lent)) (joined (used lent) second)
unfolding joined used
front lent second =
    let a : List ℕ = take most lent in
    sym (take-take (length a) most (a ++ second) (used_within lent) ∙ take-append_seam a second)

-- a chip over what its memory was made of
pub resumed :
    (r s : Registers) (a b c d : List ℕ) → r ≡ s → a ≡ c → b ≡ d →
    state r (board (ram a) (rom b)) ≡ state s (board (ram c) (rom d))
resumed r s a b c d e f g = ap₂ (λ x m. state x m) e (ap₂ (λ x y. board (ram x) (rom y)) f g)

-- playing that starts alike
pub same_start :
    (log other : List ℕ) (c d : State) (p q : Stand) (totals : List Totals) (words : List Words) → log ≡ other → c ≡ d → p ≡ q →
    playing log (begun c p totals words) ≡ playing other (begun d q totals words)
same_start log other c d p q totals words e f g =
    ap (λ l. playing l (begun c p totals words)) e
    ∙ ap₂ (λ x y. playing other (begun x y totals words)) f g

-- Lent RAM, of which a memory uses the front

pub same_beyond : (x y : Loan) (r s : List Loan) → x ∷ r ≡ y ∷ s → x.beyond ≡ y.beyond
same_beyond x y r s e = cc

-- after a call that left what is beyond
pub lent_again :
    (before after second bytes : List ℕ) → beyond after ≡ beyond before → joined (used after) second ≡ bytes →
    after ≡ take (length (used after)) bytes ++ beyond before
unfolding used beyond
lent_again before after second bytes e f =
    sym (take-append-drop most after)
    ∙ ap₂ ◌++◌ (front after second ∙ ap (λ bs. take (length (take most after)) bs) f) e

-- lent bytes stay as many
pub as_many :
    (lent after bytes rest : List ℕ) → length after ≡ length lent → after ≡ take (length (used after)) bytes ++ rest →
    after ≡ take (length (used lent)) bytes ++ rest
as_many lent after bytes rest l e =
    e ∙ ap (λ n. take n bytes ++ rest) (used_length after ∙ ap (min most) l ∙ sym (used_length lent))
