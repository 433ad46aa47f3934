use Rattle.std.proofs.Common.{◌≡◌, ℕ, List, Bool, true, false, sym, ◌∙◌, refl}
use Rattle.std.specs.Prelude.{Result, Ok, Err, MatchResult, is_ok, IsUtf8}
use Rattle.std.specs.Str.{is_utf8}
use Rattle.std.proofs.lemmas.Str.{IsUtf8-from_is_utf8, is_utf8-from_IsUtf8}
use Rattle.osm_text.proofs.quoted.is_utf8.Goals as goal

not_utf8 : (bytes : List ℕ) (b : Bool) → is_utf8 bytes ≡ b → ¬ (IsUtf8 bytes) → false ≡ b
not_utf8 bytes true e never = absurd (never (IsUtf8-from_is_utf8 bytes e))
not_utf8 bytes false e never = refl

tested : {T E : Type 0} (P : T → Type 0) (bytes : List ℕ) (r : Result T E) → MatchResult r (λ s. P s × IsUtf8 bytes) (λ _. ¬ (IsUtf8 bytes)) → is_ok r ≡ is_utf8 bytes
tested P bytes (Ok s) h = sym (is_utf8-from_IsUtf8 bytes h.1)
tested P bytes (Err e) h = not_utf8 bytes (is_utf8 bytes) refl h

pub returns : goal.returns
returns c = c.is_ok.ensures.value ∙ tested (λ s. s.now ≡ c.args.bytes.now) c.args.bytes.now c.from_utf8.result c.from_utf8.ensures
