-- What a keyed hasher holds after bytes that come in pieces.
use Rattle.std.proofs.Common.{◌≡◌, ℕ, List, [], ◌++◌, refl, sym}
use Rattle.std.proofs.lemmas.List.Sums.{fold-append}
use Rattle.std.specs.Hash.DefaultHasher as sip
use Rattle.std.specs.declared.hash.DefaultHasher.{DefaultHasher}

pub written_none : (s : DefaultHasher) → s ≡ sip.write s []
unfolding sip.write
written_none s = refl

pub written_more : (s : DefaultHasher) (bytes more : List ℕ) → sip.write (sip.write s bytes) more ≡ sip.write s (bytes ++ more)
unfolding sip.write
written_more s bytes more = sym (fold-append sip.write_byte s bytes more)
