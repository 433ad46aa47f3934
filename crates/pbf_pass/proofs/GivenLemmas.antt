-- What holds of the bytes that went through a device holds of those that it reports.
use Rattle.std.proofs.Common.{arith}
use Rattle.std.proofs.Common.{◌≡◌, ◌+◌, ◌*◌, inl, inr, ℕ, false, List, [], ◌∷◌, Option, Some, None, refl, sym, ap, subst}
use Rattle.std.proofs.lemmas.List.{append-nil}
use Rattle.osm_entity.specs.Entity.{EntitySpec}
use Rattle.pbf_frame.specs.declared.device.Feed as feed
use Rattle.pbf_frame.specs.Devices.{prepend, IsAtEnd}
use Rattle.pbf_frame.specs.Transfers.{Supplied}
use Rattle.pbf_frame.specs.declared.reader.FrameReader.{FrameReader}
use Rattle.pbf_frame.specs.Next.{place_of, had_header_of}
use Rattle.pbf_frame.specs.Verdict.{Verdict, Says, judged_known}
use Rattle.pbf_frame.proofs.Parting.{none_some}
use Rattle.pbf_pass.specs.declared.pass.Pass.{Pass}
use Rattle.pbf_pass.specs.Given.{GaveFile, judged_from}
use Rattle.pbf_pass.specs.Hashing.{HasCounted, HoldsBytes, IsDigestOf, Mark, below_log, check_number, digest_by, hash_log, mark_by}
use Rattle.pbf_pass.specs.declared.hashing.PassCheck.{PassCheck}
use Rattle.pbf_pass.specs.declared.hashing.PassCheck.TheVariants as check
use Rattle.pbf_pass.specs.declared.hashing.PassHasher.{PassHasher}
use Rattle.pbf_pass.specs.Judged.{judged_file}
use Rattle.pbf_pass.specs.Pass.{TakesFile}

-- these are the bytes, if any are reported
abbrev pub Tells : Option (List ℕ) → List ℕ → Type 0
Tells known file = (b : List ℕ) → known ≡ Some b → file ≡ b

pub tells_all : (old new : Option (List ℕ)) (file : List ℕ) → old ≡ prepend file new → IsAtEnd new → Tells old file
tells_all old new file h3 h4 z0 z1 = grind (arith, none_some, append-nil)

-- the digest of the bytes, if they are reported
abbrev pub IsDigest : Option (List ℕ) → Mark → Type 0
IsDigest known digest = (b : List ℕ) → known ≡ Some b → IsDigestOf digest b

-- ---- the logs of a pass's feed

same_check : (c d : PassCheck) → check_number c ≡ check_number d → c ≡ d
same_check check.None check.None is = refl
same_check check.None check.Sha256 is = (let bad : ⊥ = omega (arith, is) in absurd bad)
same_check check.None (check.Keyed k) is = (let bad : ⊥ = omega (arith, is) in absurd bad)
same_check check.Sha256 check.None is = (let bad : ⊥ = omega (arith, is) in absurd bad)
same_check check.Sha256 check.Sha256 is = refl
same_check check.Sha256 (check.Keyed k) is = (let bad : ⊥ = omega (arith, is) in absurd bad)
same_check (check.Keyed j) check.None is = (let bad : ⊥ = omega (arith, is) in absurd bad)
same_check (check.Keyed j) check.Sha256 is = (let bad : ⊥ = omega (arith, is) in absurd bad)
same_check (check.Keyed j) (check.Keyed k) is = ap check.Keyed (omega (arith, is))

module _ (below : ℕ → List ℕ → Type 0) (hasher : PassHasher) (count : ℕ) where
  -- nothing was hashed by its check
  pub hashed_from : (c : PassCheck) → hasher.check ≡ c → HoldsBytes hasher [] → HasCounted below hasher count (hash_log c) []
  hashed_from c is holds = inr (ap (λ (d : PassCheck). 2 * check_number d + 1) (sym is), holds)

  -- these bytes were
  pub hashed_to : (c : PassCheck) (b : List ℕ) → HasCounted below hasher count (hash_log c) b → (hasher.check ≡ c) × HoldsBytes hasher b
  hashed_to c b (inl (m, is, _)) = (let bad : ⊥ = omega (arith, is) in absurd bad)
  hashed_to c b (inr (is, holds)) = (same_check hasher.check c (omega (arith, is)), holds)

  -- they are those of the device below
  pub below_from : (m : ℕ) (b : List ℕ) → below m b → HasCounted below hasher count (below_log m) b
  below_from m b passed = inl (m, refl, passed)

  pub below_to : (m : ℕ) (b : List ℕ) → HasCounted below hasher count (below_log m) b → below m b
  below_to m b (inl (n, is, passed)) = subst (λ (l : ℕ). below l b) (omega (arith, is)) passed
  below_to m b (inr (is, _)) = (let bad : ⊥ = omega (arith, is) in absurd bad)

  -- a digest of what its hasher holds is one by its check
  pub digest_hashed : (c : PassCheck) (digest b : List ℕ) → ((a : List ℕ) → HoldsBytes hasher a → digest ≡ digest_by hasher.check a) → HasCounted below hasher count (hash_log c) b → IsDigestOf (mark_by c digest) b
  digest_hashed c digest b says passed = subst (λ (d : PassCheck). digest ≡ digest_by d b) (hashed_to c b passed).0 (says b (hashed_to c b passed).1)

-- what is said of them is said of the ones that are reported
pub says_told : (known : Option (List ℕ)) (file : List ℕ) (v : Verdict) → Tells known file → Says (judged_file (Some file)) v → Says (judged_file known) v
says_told known file v h3 h4 = grind arith

module _ {F : Type 0} (f : feed.Ghosts F) (old new : F) (digest : Mark) where
  pub tells_file : (holds : List ℕ → Type 0) (given : GaveFile f old new digest holds) → Tells (f.remaining old) given.file
  tells_file holds given = tells_all (f.remaining old) (f.remaining new) given.file given.supplied.gave.told given.supplied.end

  -- what holds of the file that was given holds of the one that is reported
  pub told_holds : (holds : List ℕ → Type 0) (b : List ℕ) → GaveFile f old new digest holds → f.remaining old ≡ Some b → holds b
  told_holds holds b given is = subst holds (tells_file holds given b is) given.holding

  pub told_digest : (holds : List ℕ → Type 0) → GaveFile f old new digest holds → IsDigest (f.remaining old) digest
  told_digest holds given b is = subst (λ (l : List ℕ). IsDigestOf digest l) (tells_file holds given b is) given.digest_is

  pub told_says : (holds : List ℕ → Type 0) (v : Verdict) (given : GaveFile f old new digest holds) → Says (judged_file (Some given.file)) v → Says (judged_file (f.remaining old)) v
  told_says holds v given says = says_told (f.remaining old) given.file v (tells_file holds given) says

-- what holds of the bytes that a fresh reader's feed gave holds of the file
pub holds_of_file : {F : Type 0} (reader : FrameReader F) (file : List ℕ) (holds : Option Verdict → Type 0) → had_header_of reader ≡ false → place_of reader ≡ 0 → holds (judged_from reader file) → holds (judged_known false 0 (Some file))
holds_of_file reader file holds had place holding = grind arith

-- a file was given, and so more holds of it
pub gave_file_less : {F : Type 0} (f : feed.Ghosts F) (old new : F) (digest : Mark) (holds less : List ℕ → Type 0) → ((file : List ℕ) → holds file → less file) → GaveFile f old new digest holds → GaveFile f old new digest less
gave_file_less f old new digest holds less step given = grind (arith, step given.file given.holding)

-- references are the same below one that is
pub same_below : {N : Type 0} (first other : N) (below also : List N) → first ∷ below ≡ other ∷ also → below ≡ also
same_below first other below also e = cc

-- the same of devices that are equal
pub supplied_as : {F : Type 0} (f : feed.Ghosts F) (first old last new : F) (file : List ℕ) → first ≡ old → last ≡ new → Supplied f first file last → Supplied f old file new
supplied_as f first old last new file e e2 supplied = subst (λ x. Supplied f x file new) e (subst (λ x. Supplied f first file x) e2 supplied)

pub takes_told : {S : Type 0} (gathered : S → EntitySpec → S) (known : Option (List ℕ)) (file : List ℕ) (before now : S) (pass : Pass) → Tells known file → TakesFile gathered (judged_file (Some file)) before now pass → TakesFile gathered (judged_file known) before now pass
takes_told gathered known file before now pass tells p = grind (arith, says_told known file (p.frames, None) tells p.says)
