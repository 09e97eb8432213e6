-- Voices changed in place, one or all of them.
use Rattle.std.proofs.Common.{◌≡◌, ℕ, zero, suc, ◌+◌, ◌<◌, ◌≤◌, cond, eqb, List, [], ◌∷◌, length, get_or, set, sym, refl, ap, ◌∙◌, add-zero, arith}
use Rattle.std.proofs.lemmas.List.{set_past, ext_get_or, length-set, get_or-set_same, get_or-set_other}
use Rattle.std.proofs.lemmas.Bool.{cases_eq}
use Rattle.std.proofs.lemmas.Bool.Decides.{nat_tests}
use Rattle.voice.specs.Voice.{fresh}
use Rattle.voice.specs.declared.voice.Voice.{Voice}
use Rattle.chip.specs.Registers.{each, chosen}

-- Each voice, from the first on

pub each-each : (f g : ℕ → Voice → Voice) (k : ℕ) (vs : List Voice) → each f k (each g k vs) ≡ each (λ i v. f i (g i v)) k vs
each-each f g k [] = refl
each-each f g k (v ∷ vs) = cc (each-each f g (suc k) vs)

pub each_alike :
    (f g : ℕ → Voice → Voice) → ((i : ℕ) (v : Voice) → f i v ≡ g i v) → (k : ℕ) (vs : List Voice) → each f k vs ≡ each g k vs
each_alike f g h k [] = refl
each_alike f g h k (v ∷ vs) = cc (h k v, each_alike f g h (suc k) vs)

-- Voices by their numbers

pub each_length : (rule : ℕ → Voice → Voice) (k : ℕ) (vs : List Voice) → length (each rule k vs) ≡ length vs
each_length rule k [] = refl
each_length rule k (v ∷ vs) = ap suc (each_length rule (suc k) vs)

pub each_at :
    (rule : ℕ → Voice → Voice) (k j : ℕ) (vs : List Voice) → j < length vs →
    get_or (each rule k vs) j fresh ≡ rule (k + j) (get_or vs j fresh)
each_at rule k j [] h = absurd (omega arith)
each_at rule k zero (v ∷ vs) h = ap (λ n. rule n v) (sym (add-zero k))
each_at rule k (suc j) (v ∷ vs) h =
    let e : suc k + j ≡ k + suc j = omega arith in
    each_at rule (suc k) j vs (omega arith) ∙ ap (λ n. rule n (get_or vs j fresh)) e

-- a list whose voices are those that the rule makes
pub each_from :
    (rule : ℕ → Voice → Voice) (vs ws : List Voice) → length ws ≡ length vs →
    ((k : ℕ) → k < length vs → get_or ws k fresh ≡ rule k (get_or vs k fresh)) → ws ≡ each rule 0 vs
each_from rule vs ws l h =
    ext_get_or fresh ws (each rule 0 vs) (l ∙ sym (each_length rule 0 vs))
    (λ k b.
    let within : k < length vs = omega arith in
    let e : 0 + k ≡ k = omega arith in
    h k within ∙ sym (each_at rule 0 k vs within ∙ ap (λ n. rule n (get_or vs k fresh)) e))

-- One voice

pub one_set :
    (rule : Voice → Voice) (n k : ℕ) (vs : List Voice) (w : Voice) → k ≡ n → w ≡ rule (get_or vs k fresh) → set vs k w ≡ chosen n rule vs
one_set rule n k vs w e p =
    each_from (λ i v. cond (eqb i n) (rule v) v) vs (set vs k w) (length-set vs k w)
    (λ i h. grind (arith, nat_tests, get_or-set_same, get_or-set_other, cases_eq i n))

pub one_past : (rule : Voice → Voice) (n : ℕ) (vs : List Voice) → length vs ≤ n → vs ≡ chosen n rule vs
one_past rule n vs h = sym (set_past vs n (rule (get_or vs n fresh)) h) ∙ one_set rule n n vs _ refl refl
