-- What a look-up returns, of a set of ids or of what was chosen by one.
use Rattle.std.specs.Prelude.{◌≡◌}

-- it returns this, and changes nothing that counts
pub record LooksUp {V T : Type 0} (answer : T) (before now : V) (result : T) : Type 0 where
  pub found : result ≡ answer
  pub same : now ≡ before
