-- What a call promises for a file that all its feeds supply, from what went through its devices.
use Rattle.std.proofs.Common.{arith, Bool, true, false, ◌≡◌, ◌⊎◌, inl, inr, ℕ, List, [], ◌∷◌, ◌++◌, Option, Some, map, subst, refl, sym, ◌∙◌}
use Rattle.pbf_frame.specs.declared.device.Drain as drain
use Rattle.pbfcut.specs.Calls.{AllSupply, DrainUse, FeedUse, GaveBy, GaveEach, GaveEachOrNot, GaveOrNot, IfSame, TookBy, supply_of}
use Rattle.pbf_pass.specs.Given.{Took}
use Rattle.pbfcut.specs.Receipts.{Wrote}
use Rattle.pbfcut.specs.Repeat.{SameDigest}
use Rattle.pbf_pass.proofs.GivenLemmas.{Tells, IsDigest, tells_file, told_digest, gave_file_less}
use Rattle.pbf_pass.specs.Hashing.{Mark, mark_by}
use Rattle.pbf_pass.specs.declared.hashing.PassCheck.TheVariants.{Sha256}

pub took_weaker : {D : Type 0} (d : drain.Ghosts D) (old new : D) (P Q : List ℕ → Type 0) → ((written : List ℕ) → P written → Q written) → Took d old new P → Took d old new Q
took_weaker d old new P Q weaker took = record { written = took.written; added = took.added; holding = weaker took.written took.holding }

-- ---- digests

pub same_digest : (first other : Option (List ℕ)) (digest : List ℕ) → IsDigest first (mark_by Sha256 digest) → IsDigest other (mark_by Sha256 digest) → SameDigest first other
same_digest first other digest one two b c is too = sym (one b is) ∙ two c too

-- ---- a feed that may not have been read

module _ (second : FeedUse) (digest : Mark) where
  -- what follows of the file that a later feed gave follows of the earlier one too, if the later feed was not read
  pub gave_or_not : (spared : Bool) (file : List ℕ) (holds : List ℕ → Type 0) (told : Type 0) → ((c : List ℕ) → holds c → told) → GaveOrNot second spared digest file holds → told
  gave_or_not spared file holds told h4 h5 = grind arith

  pub gave_or_less : (spared : Bool) (file : List ℕ) (holds less : List ℕ → Type 0) → ((c : List ℕ) → holds c → less c) → GaveOrNot second spared digest file holds → GaveOrNot second spared digest file less
  gave_or_less spared file holds less h4 h5 = grind (arith, gave_file_less)

  pub gave_all : (spared : Bool) (file : List ℕ) (holds : List ℕ → Type 0) → spared ≡ false → GaveOrNot second spared digest file holds → GaveBy second digest holds
  gave_all spared file holds none given = subst (λ (s : Bool). GaveOrNot second s digest file holds) none given

  -- of feeds that report the same bytes
  pub told_or_not : (spared : Bool) (first : Option (List ℕ)) (file b : List ℕ) (holds : List ℕ → Type 0) → Tells first file → first ≡ Some b → supply_of second ≡ Some b → GaveOrNot second spared digest file holds → holds b
  told_or_not false first file b holds tells is also given = subst holds (tells_file second.ghosts second.old second.new digest holds given b also) given.holding
  told_or_not true first file b holds tells is also none = subst holds (tells b is) none.1

-- a feed that was read supplied bytes of the digest
pub second_digest : (second : FeedUse) (digest : List ℕ) (first : Option (List ℕ)) (file : List ℕ) (holds : List ℕ → Type 0) → IsDigest first (mark_by Sha256 digest) → (spared : Bool) → GaveOrNot second spared (mark_by Sha256 digest) file holds → SameDigest first (supply_of second) ⊎ (second.new ≡ second.old)
second_digest second digest first file holds same false given = inl (same_digest first (supply_of second) digest same (told_digest second.ghosts second.old second.new (mark_by Sha256 digest) holds given))
second_digest second digest first file holds same true none = inr none.0

-- ---- what was written

pub each_less : (feeds : List FeedUse) (digest : Mark) (P Q : List (List ℕ) → Type 0) → ((files : List (List ℕ)) → P files → Q files) → GaveEach feeds digest P → GaveEach feeds digest Q
each_less [] digest P Q step given = step [] given
each_less (one ∷ more) digest P Q step given = gave_file_less one.ghosts one.old one.new digest _ _ (λ file. each_less more digest (λ files. P (file ∷ files)) (λ files. Q (file ∷ files)) (λ files. step (file ∷ files))) given

-- later feeds that have the bytes of the first to give gave the same file
took_each : {D : Type 0} (feeds : List FeedUse) (out : DrainUse D) (digest : Mark) (b : List ℕ) (holds : List ℕ → Type 0) → AllSupply b (map supply_of feeds) → GaveEach feeds digest (λ files. TookBy out (λ written. IfSame b files (holds written))) → TookBy out holds
took_each [] out digest b holds supply given = given
took_each (one ∷ more) out digest b holds supply given =
    took_each more out digest b holds supply.1 (each_less more digest _ _ (λ files took. took_weaker out.ghosts out.old out.new _ _ (λ written same. same (sym (tells_file one.ghosts one.old one.new digest _ given b supply.0))) took) given.holding)

some_same : (b c : List ℕ) → Some b ≡ Some c → b ≡ c
some_same b c e = cc

-- feeds that may have been spared, and that have the bytes of the first to give, count as ones that gave them
told_each : (spare : List FeedUse) (digest : Mark) (spared : Bool) (b : List ℕ) (holds : List (List ℕ) → Type 0) → AllSupply b (map supply_of spare) → GaveEachOrNot spare spared digest b holds → holds (map (λ _. b) spare)
told_each [] digest spared b holds supply given = given
told_each (one ∷ more) digest spared b holds supply given =
    told_each more digest spared b (λ files. holds (b ∷ files)) supply.1 (told_or_not one digest spared (Some b) b b (λ file. GaveEachOrNot more spared digest b (λ files. holds (file ∷ files))) (λ c is. some_same b c is) refl supply.0 given)

all_same : (spare : List FeedUse) (files : List (List ℕ)) (b : List ℕ) (holds : Type 0) → IfSame b (map (λ _. b) spare ++ files) holds → IfSame b files holds
all_same [] files b holds same = same
all_same (one ∷ more) files b holds same = all_same more files b holds (same refl)

pub took_of : {D : Type 0} (first : FeedUse) (spare later : List FeedUse) (out : DrainUse D) (digest : Mark) (spared : Bool) (holds : List ℕ → List ℕ → Type 0) (b : List ℕ) → Wrote first spare later out digest spared holds
    → supply_of first ≡ Some b → AllSupply b (map supply_of spare) → AllSupply b (map supply_of later) → TookBy out (holds b)
took_of first spare later out digest spared holds b one is some more =
    let rest = subst (λ (file : List ℕ). GaveEachOrNot spare spared digest file (λ some. GaveEach later digest (λ files. TookBy out (λ written. IfSame file (some ++ files) (holds file written))))) (tells_file first.ghosts first.old first.new digest _ one b is) one.holding.1 in
    took_each later out digest b (holds b) more (each_less later digest _ _ (λ files took. took_weaker out.ghosts out.old out.new _ _ (λ written same. all_same spare files b (holds b written) same) took) (told_each spare digest spared b _ some rest))
