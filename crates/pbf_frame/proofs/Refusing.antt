-- What was read if bytes are refused, put together.
use Rattle.std.proofs.Common.{◌≡◌, ◌⊎◌, inl, inr, ℕ, ◌+◌, ◌<◌, ◌≤◌, ◌==◌, nat_lt, nat_le, Bool, true, false, List, ◌++◌, length, Option, Some, None, Result, Ok, Err, refl, sym, ap, ◌∙◌, subst, append_assoc, length-append, arith}
use Rattle.std.specs.Prelude.{IfSome}
use Rattle.std.proofs.lemmas.Bool.Decides.{nat_tests}
use Rattle.std.proofs.lemmas.List.{append-nil, take_at, take_all}
use Rattle.byteorder.specs.Endian.{big_number}
use Rattle.pbf_wire.specs.declared.fault.Fault.{Fault}
use Rattle.pbf_wire.specs.declared.fault.Reason.TheVariants.{PrefixCut, HeaderLong, HeaderCut, BlobCut}
use Rattle.pbf_wire.specs.Faults.{fault}
use Rattle.pbf_wire.specs.Least.{least}
use Rattle.pbf_frame.specs.declared.frame.FrameKind.{FrameKind}
use Rattle.pbf_frame.specs.declared.frame.FrameKind.TheVariants as kind
use Rattle.pbf_frame.specs.declared.header.Head.{Head}
use Rattle.pbf_frame.specs.declared.header.TheConstants.{HEADER_LIMIT}
use Rattle.pbf_frame.specs.declared.stop.Stop.{Stop}
use Rattle.pbf_frame.specs.declared.stop.Stop.TheVariants.{Refused}
use Rattle.pbf_frame.specs.Blob.{blob_fault}
use Rattle.pbf_frame.specs.Devices.{prepend, Passes, IsAtEnd, given_prefix}
use Rattle.pbf_frame.specs.declared.frame.TheConstants.{FILE_LIMIT}
use Rattle.pbf_frame.specs.Frames.{order_faults, next_of}
use Rattle.pbf_frame.specs.Refusals.{Refuses, RefusedBy}
use Rattle.pbf_frame.specs.Steps.{bytes_at, prefix_at, header_after, known_blob_of, blob_of, head_of}
use Rattle.pbf_frame.proofs.FrontLemmas.{bytes_at_front}
use Rattle.pbf_frame.proofs.FrameLemmas.{prefix_refused, header_refused, blob_refused}
use Rattle.pbf_frame.proofs.KnownBytes.{prepend_more}
use Rattle.pbf_frame.proofs.Longest.{prefix_whole}
use Rattle.pbf_frame.proofs.Parting.{HeaderParts, header_whole, some_same}
use Rattle.pbf_frame.proofs.Passed.{passes_more}

-- ---- of any judgement

-- more was read, and then bytes are refused
pub refuses_more : (first then : List ℕ → Type 0) (before mid now : ℕ → List ℕ → Type 0) (old between new : Option (List ℕ)) (read : List ℕ) → old ≡ prepend read between → Passes before read mid → ((bytes : List ℕ) → then bytes → first (read ++ bytes)) → Refuses then mid now between new → Refuses first before now old new
refuses_more first then before mid now old between new read told passed step refuses = record {
  read = read ++ refuses.read;
  told = prepend_more old between new read refuses.read told refuses.told;
  logged = passes_more before mid now read refuses.read passed refuses.logged;
  faulty = faulty refuses.faulty;
} where
  faulty : (((rest : List ℕ) → then (refuses.read ++ rest)) ⊎ (IsAtEnd new × then refuses.read)) → (((rest : List ℕ) → first ((read ++ refuses.read) ++ rest)) ⊎ (IsAtEnd new × first (read ++ refuses.read)))
  faulty (inl always) = inl (λ rest. subst first (sym (append_assoc read refuses.read rest)) (step (refuses.read ++ rest) (always rest)))
  faulty (inr (ended, is)) = inr (ended, step refuses.read is)

-- bytes that are faulty by one judgment are so by another that it implies
pub faulty_as : (first then : List ℕ → Type 0) (read : List ℕ) (left : Option (List ℕ)) → ((bytes : List ℕ) → then bytes → first bytes) → (((rest : List ℕ) → then (read ++ rest)) ⊎ (IsAtEnd left × then read)) → (((rest : List ℕ) → first (read ++ rest)) ⊎ (IsAtEnd left × first read))
faulty_as first then read left step (inl always) = inl (λ rest. step (read ++ rest) (always rest))
faulty_as first then read left step (inr (ended, is)) = inr (ended, step read is)

refuses_as : (first then : List ℕ → Type 0) (before now : ℕ → List ℕ → Type 0) (old new : Option (List ℕ)) → ((bytes : List ℕ) → then bytes → first bytes) → Refuses then before now old new → Refuses first before now old new
refuses_as first then before now old new step refuses = record {
  read = refuses.read;
  told = refuses.told;
  logged = refuses.logged;
  faulty = faulty_as first then refuses.read new step refuses.faulty;
}

-- if the feed reports its bytes, they are faulty
pub refused_told : (at_fault : List ℕ → Type 0) (before now : ℕ → List ℕ → Type 0) (old new : Option (List ℕ)) (bytes : List ℕ) → Refuses at_fault before now old new → old ≡ Some bytes → at_fault bytes
refused_told at_fault before now old new bytes refuses is = told new refuses.faulty (sym is ∙ refuses.told) where
  told : (left : Option (List ℕ)) → (((rest : List ℕ) → at_fault (refuses.read ++ rest)) ⊎ (IsAtEnd left × at_fault refuses.read)) → Some bytes ≡ prepend refuses.read left → at_fault bytes
  told None faulty e = (let bad : ⊥ = cc in absurd bad)
  told (Some rest) (inl always) e = subst at_fault (sym (some_same _ _ e)) (always rest)
  told (Some rest) (inr (ended, faulty)) e = subst at_fault (sym (some_same _ _ e ∙ ap (λ (l : List ℕ). refuses.read ++ l) ended ∙ append-nil refuses.read)) faulty

-- ---- of the bytes before a header

pub prefix_short : (h : Bool) (p : ℕ) (bytes : List ℕ) → 0 < length bytes → length bytes < 4 → prefix_at h p bytes ≡ Err (fault p PrefixCut)
unfolding prefix_at
prefix_short h p bytes some short = grind (arith, nat_tests, take_all)

pub prefix_large : (h : Bool) (p : ℕ) (prefix rest : List ℕ) → length prefix ≡ 4 → HEADER_LIMIT ≤ big_number 4 prefix → prefix_at h p (prefix ++ rest) ≡ Err (fault p HeaderLong)
unfolding prefix_at
prefix_large h p prefix rest long large =
    let some : (length (prefix ++ rest) == 0) ≡ false = grind (arith, nat_tests, length-append prefix rest, long) in
    let enough : nat_lt (length prefix) 4 ≡ false = grind (arith, nat_tests, long) in
    let above : nat_le HEADER_LIMIT (big_number 4 prefix) ≡ true = grind (arith, nat_tests, large) in
    rw (some, take_at prefix rest 4 long, enough, above) refl

-- ---- of a header

module _ (h : Bool) (p : ℕ) (prefix : List ℕ) where
  pub header_unfit : (header rest : List ℕ) (e : Fault) → length header ≡ big_number 4 prefix → head_of (p + 4) header ≡ Err e → header_after h p prefix (header ++ rest) ≡ Err e
  unfolding header_after
  header_unfit header rest e long is = rw (bytes_at_front (fault p HeaderCut) (big_number 4 prefix) header rest long, is) refl

  pub header_misplaced : (header rest : List ℕ) (head : Head) (e : Fault) → length header ≡ big_number 4 prefix → head_of (p + 4) header ≡ Ok head → least (order_faults (Some FILE_LIMIT) h p head.kind (p + 4 + length header + head.size)) ≡ Some e → header_after h p prefix (header ++ rest) ≡ Err e
  unfolding header_after
  header_misplaced header rest head e long says is = rw (bytes_at_front (fault p HeaderCut) (big_number 4 prefix) header rest long, says, is) refl

-- ---- of a blob

pub blob_unfit : (size at : ℕ) (blob rest : List ℕ) (e : Fault) → length blob ≡ size → blob_fault at blob ≡ Some e → known_blob_of size at (blob ++ rest) ≡ Err e
unfolding known_blob_of
blob_unfit size at blob rest e long is = rw (bytes_at_front (fault at BlobCut) size blob rest long, is) refl

-- ---- what a function refuses

module _ (before now : ℕ → List ℕ → Type 0) (old new : Option (List ℕ)) (read : List ℕ) where
  -- at the end of the feed
  pub at_end : (at_fault : List ℕ → Type 0) → old ≡ prepend read new → Passes before read now → IsAtEnd new → at_fault read → Refuses at_fault before now old new
  at_end at_fault told passed ended is = record { read = read; told = told; logged = passed; faulty = inr (ended, is) }

  -- whatever follows
  pub whatever_follows : (at_fault : List ℕ → Type 0) → old ≡ prepend read new → Passes before read now → ((rest : List ℕ) → at_fault (read ++ rest)) → Refuses at_fault before now old new
  whatever_follows at_fault told passed always = record { read = read; told = told; logged = passed; faulty = inl always }

-- another stop than a refusal, or a refusal that is one of what it is part of
pub refused_more : {A B : Type 0} (first : List ℕ → Result A Fault) (then : List ℕ → Result B Fault) (before mid now : ℕ → List ℕ → Type 0) (old between new : Option (List ℕ)) (read : List ℕ) (stop : Stop) → old ≡ prepend read between → Passes before read mid
    → ((bytes : List ℕ) (e : Fault) → then bytes ≡ Err e → first (read ++ bytes) ≡ Err e) → RefusedBy then mid now between new stop → RefusedBy first before now old new stop
refused_more first then before mid now old between new read (Refused e) told passed step refused = refuses_more (λ b. first b ≡ Err e) (λ b. then b ≡ Err e) before mid now old between new read told passed (λ b is. step b e is) refused
refused_more first then before mid now old between new read stop told passed step refused = tt

pub refused_as : {A B : Type 0} (first : List ℕ → Result A Fault) (then : List ℕ → Result B Fault) (before now : ℕ → List ℕ → Type 0) (old new : Option (List ℕ)) (stop : Stop)
    → ((bytes : List ℕ) (e : Fault) → then bytes ≡ Err e → first bytes ≡ Err e) → RefusedBy then before now old new stop → RefusedBy first before now old new stop
refused_as first then before now old new (Refused e) step refused = refuses_as (λ b. first b ≡ Err e) (λ b. then b ≡ Err e) before now old new (λ b is. step b e is) refused
refused_as first then before now old new stop step refused = tt

-- a blob of another type
pub refused_other : (k : FrameKind) (size at : ℕ) (before now : ℕ → List ℕ → Type 0) (old new : Option (List ℕ)) (stop : Stop) → k ≡ kind.Other → RefusedBy (bytes_at (fault at BlobCut) size) before now old new stop → RefusedBy (blob_of k size at) before now old new stop
refused_other k size at before now old new stop other refused = subst (λ (x : FrameKind). RefusedBy (blob_of x size at) before now old new stop) (sym other) refused

-- ---- of a frame

-- the bytes before a header were read
pub record PrefixRead (before mid : ℕ → List ℕ → Type 0) (old between : Option (List ℕ)) (prefix : List ℕ) : Type 0 where
  pub told : old ≡ prepend prefix between
  pub logged : Passes before prefix mid
  pub long : length prefix ≡ 4
  pub small : big_number 4 prefix < HEADER_LIMIT

pub prefix_read : (before mid : ℕ → List ℕ → Type 0) (old between given : Option (List ℕ)) (prefix : List ℕ) → given ≡ Some prefix → old ≡ prepend (given_prefix given) between → Passes before (given_prefix given) mid
    → IfSome given (λ (p : List ℕ). (length p ≡ 4) × (big_number 4 p < HEADER_LIMIT)) → PrefixRead before mid old between prefix
prefix_read before mid old between given prefix is told passed small =
    let fits = subst (λ (o : Option (List ℕ)). IfSome o (λ (p : List ℕ). (length p ≡ 4) × (big_number 4 p < HEADER_LIMIT))) is small in
    record {
      told = told ∙ ap (λ (o : Option (List ℕ)). prepend (given_prefix o) between) is;
      logged = subst (λ (o : Option (List ℕ)). Passes before (given_prefix o) mid) is passed;
      long = fits.0;
      small = fits.1;
    }

module _ (h : Bool) (p : ℕ) (before : ℕ → List ℕ → Type 0) (old : Option (List ℕ)) (stop : Stop) where
  pub refused_prefix : (now : ℕ → List ℕ → Type 0) (new : Option (List ℕ)) → RefusedBy (prefix_at h p) before now old new stop → RefusedBy (next_of h p) before now old new stop
  refused_prefix now new refused = refused_as (next_of h p) (prefix_at h p) before now old new stop (λ b e is. prefix_refused h p b e is) refused

  module _ (prefix : List ℕ) (mid : ℕ → List ℕ → Type 0) (between : Option (List ℕ)) (first : PrefixRead before mid old between prefix) where
    pub refused_header : (now : ℕ → List ℕ → Type 0) (new : Option (List ℕ)) → RefusedBy (header_after h p prefix) mid now between new stop → RefusedBy (next_of h p) before now old new stop
    refused_header now new refused = refused_more (next_of h p) (header_after h p prefix) before mid now old between new prefix stop first.told first.logged
        (λ b e is. header_refused h p (prefix ++ b) prefix b e (prefix_whole h p prefix b first.long first.small) is) refused

    pub refused_blob : (next now : ℕ → List ℕ → Type 0) (left new : Option (List ℕ)) (header : List ℕ) (head : Head) → between ≡ prepend header left → Passes mid header next → length header ≡ big_number 4 prefix → head_of (p + 4) header ≡ Ok head
        → least (order_faults (Some FILE_LIMIT) h p head.kind (p + 4 + length header + head.size)) ≡ None → RefusedBy (blob_of head.kind head.size (p + 4 + length header)) next now left new stop → RefusedBy (next_of h p) before now old new stop
    refused_blob next now left new header head told passed spelled says ordered refused =
        refused_more (next_of h p) (blob_of head.kind head.size (p + 4 + length header)) before next now old left new (prefix ++ header) stop (prepend_more old between left prefix header first.told told) (passes_more before mid next prefix header first.logged passed) step refused where
          parts : (b : List ℕ) → HeaderParts h p prefix (header ++ b) header b head
          parts b = record { split = refl; long = spelled; says = says; ordered = ordered }

          step : (b : List ℕ) (e : Fault) → blob_of head.kind head.size (p + 4 + length header) b ≡ Err e → next_of h p ((prefix ++ header) ++ b) ≡ Err e
          step b e is = ap (λ (l : List ℕ). next_of h p l) (append_assoc prefix header b)
              ∙ blob_refused h p (prefix ++ (header ++ b)) prefix (header ++ b) header b head e (prefix_whole h p prefix (header ++ b) first.long first.small) (header_whole h p prefix (header ++ b) header b head (parts b)) is
