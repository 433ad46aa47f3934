-- What the functions on lists give if the code's tests passed.
use Rattle.std.proofs.Common.{◌≡◌, ℕ, ◌+◌, ◌<◌, ◌≤◌, List, [], ◌++◌, Option, Some, None, Ok, Err, length, take, drop, refl, sym, ap, ◌∙◌, subst, length-append, arith}
use Rattle.std.proofs.lemmas.Bool.Decides.{nat_tests}
use Rattle.std.proofs.lemmas.List.{take_all, take_at, drop_at}
use Rattle.pbf_wire.specs.declared.fault.Fault.{Fault}
use Rattle.pbf_wire.specs.declared.fault.Reason.TheVariants.{BlobCut}
use Rattle.pbf_frame.specs.declared.frame.FrameKind.{FrameKind}
use Rattle.pbf_frame.specs.declared.frame.FrameKind.TheVariants as kind
use Rattle.pbf_frame.specs.Devices.{prepend, Passes}
use Rattle.pbf_wire.specs.Faults.{fault}
use Rattle.pbf_frame.specs.Reads.{Skips, GaveBlob}
use Rattle.pbf_frame.specs.Steps.{bytes_at}
use Rattle.pbf_frame.proofs.KnownBytes.{prepend_more}
use Rattle.pbf_frame.proofs.Passed.{passes_more}

pub bytes_at_ok : (cut : Fault) (n : ℕ) (read bytes : List ℕ) → read ≡ take n bytes → n ≤ length read → bytes_at cut n bytes ≡ Ok (read, drop n bytes)
unfolding bytes_at
bytes_at_ok cut n read bytes is long = rw (← is) (grind (arith, nat_tests))

-- if the bytes begin with these
pub bytes_at_front : (cut : Fault) (n : ℕ) (read rest : List ℕ) → length read ≡ n → bytes_at cut n (read ++ rest) ≡ Ok (read, rest)
bytes_at_front cut n read rest long = grind (arith, bytes_at_ok, take_at, drop_at)

-- if there are fewer
pub bytes_at_short : (cut : Fault) (n : ℕ) (bytes : List ℕ) → length bytes < n → bytes_at cut n bytes ≡ Err cut
unfolding bytes_at
bytes_at_short cut n bytes short = rw (take_all n bytes (omega arith)) (grind (arith, nat_tests))

-- more bytes are skipped
pub skips_more : (p q r : ℕ → List ℕ → Type 0) (before now after : Option (List ℕ)) (a m n : ℕ) (ys : List ℕ) → Skips p q before now a → now ≡ prepend ys after → Passes q ys r → length ys ≡ m → a + m ≡ n → Skips p r before after n
skips_more p q r before now after a m n ys so_far gone passed long total = record {
  skipped = so_far.skipped ++ ys;
  long = length-append so_far.skipped ys ∙ (let e : length so_far.skipped + length ys ≡ n = omega (arith, so_far.long, long, total) in e);
  gone = prepend_more before now after so_far.skipped ys so_far.gone gone;
  passed = passes_more p q r so_far.skipped ys so_far.passed passed;
}

known_parts : (new : Option (List ℕ)) (b bytes : List ℕ) → Some bytes ≡ prepend b new → (rest : List ℕ) × (bytes ≡ b ++ rest) × (new ≡ Some rest)
known_parts None b bytes e = (let bad : ⊥ = cc in absurd bad)
known_parts (Some rest) b bytes e = (rest, (let same : bytes ≡ b ++ rest = cc in same), refl)

pub still_untold : (old new : Option (List ℕ)) (b : List ℕ) → old ≡ prepend b new → old ≡ None → new ≡ None
still_untold old new b e none = grind arith

pub gave_skipped : (k : FrameKind) (size at : ℕ) (held : List ℕ) (p q : ℕ → List ℕ → Type 0) (old new : Option (List ℕ)) → k ≡ kind.Other → Skips p q old new size → held ≡ [] → GaveBlob k size at held p q old new
gave_skipped k size at held p q old new other skips empty = subst (λ (x : FrameKind). GaveBlob x size at held p q old new) (sym other) record {
  blob = skips.skipped;
  long = skips.long;
  holds = empty;
  passed = skips.passed;
  given = λ bytes is.
      let (rest, parts, left) = known_parts new skips.skipped bytes (sym is ∙ skips.gone) in
      (rest, ap (λ (l : List ℕ). bytes_at (fault at BlobCut) size l) parts ∙ bytes_at_front (fault at BlobCut) size skips.skipped rest skips.long, left);
  untold = still_untold old new skips.skipped skips.gone;
}
