-- Texts that are written one after another.
use Rattle.std.proofs.Common.{◌≡◌, ℕ, List, ◌++◌, Option, Some, None, append_assoc, ap, ◌∙◌, subst, sym}
use Rattle.std.specs.Io.KnownBytes.{Appends}

pub appends_more : (a b c : Option (List ℕ)) (x y : List ℕ) → Appends a b x → Appends b c y → Appends a c (x ++ y)
appends_more None b c x y h k = tt
appends_more (Some p) None c x y h k = absurd h
appends_more (Some p) (Some q) None x y h k = absurd k
appends_more (Some p) (Some q) (Some r) x y h k = k ∙ ap (λ t. t ++ y) h ∙ append_assoc p x y

-- a piece of a text, and then what follows it
pub appends_piece :
    (a b c : Option (List ℕ)) (text piece following : List ℕ) → text ≡ piece ++ following → Appends a b piece → Appends b c following → Appends a c text
appends_piece a b c text piece following e h k = subst (Appends a c) (sym e) (appends_more a b c piece following h k)
