-- What a voice reads, and where it lands.
use Rattle.std.proofs.Common.{◌≡◌, ℕ, Bool, true, List, Some}
use Rattle.voice.specs.Voice.{Contribution, landing, look, heard, onward, sounded, tick}
use Rattle.voice.specs.declared.voice.Voice.{Voice}

-- a voice that is on, step by step
module _ (bytes : List ℕ) (v : Voice) (on : Bool) (first p byte : ℕ) (latest : Contribution) where
  pub ticked_from :
      on ≡ true → first ≡ onward v.settings v.phase → p ≡ landing bytes v.settings first →
      byte ≡ look bytes (landing bytes v.settings first) →
      latest ≡ heard v.settings byte → record { settings = v.settings; phase = Some p; latest = latest } ≡ tick bytes on v
  unfolding sounded
  ticked_from o f l b h = rw (o, h, b, l, f)
