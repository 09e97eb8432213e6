-- Calls one by one: a list with one call more.
use Rattle.std.proofs.Common.{◌≡◌, ℕ, List, [], ◌∷◌, ◌++◌, refl}
use Rattle.voice.specs.Frame.{Frame}
use Rattle.chip.specs.Port.{State}
use Rattle.calls.specs.Calls.{after, framed, buffered, after_all, framed_all, buffered_all}
use Rattle.calls.specs.declared.Call.{Call}

pub after_push : (cs : List Call) (c : Call) (s : State) → after_all (cs ++ c ∷ []) s ≡ after c (after_all cs s)
after_push [] c s = refl
after_push (d ∷ cs) c s = after_push cs c (after d s)

pub framed_push :
    (cs : List Call) (c : Call) (s : State) (f : Frame) →
    framed_all (cs ++ c ∷ []) s f ≡ framed c (after_all cs s) (framed_all cs s f)
framed_push [] c s f = refl
framed_push (d ∷ cs) c s f = framed_push cs c (after d s) (framed d s f)

pub buffered_push :
    (cs : List Call) (c : Call) (s : State) (b : List ℕ) →
    buffered_all (cs ++ c ∷ []) s b ≡ buffered c (after_all cs s) (buffered_all cs s b)
buffered_push [] c s b = refl
buffered_push (d ∷ cs) c s b = buffered_push cs c (after d s) (buffered d s b)
