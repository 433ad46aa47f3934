-- A file's conversion, from what its passes say.
use Rattle.std.proofs.Common.{arith, ◌≡◌, ℕ, List, [], ◌∷◌, Option, Some, None, subst, refl, sym, ap, ◌∙◌}
use Rattle.std.specs.List.{filter}
use Rattle.osm_entity.specs.Entity.{EntitySpec}
use Rattle.osm_pack.specs.Cuts.{written_file}
use Rattle.pbf_header.specs.Header.{HeaderSpec}
use Rattle.pbf_frame.specs.Devices.{IsFront}
use Rattle.pbf_frame.specs.Frames.{FrameSpec}
use Rattle.pbf_frame.specs.Verdict.{Verdict, Says}
use Rattle.pbf_frame.proofs.KnownBytes.{append_none}
use Rattle.pbf_block.specs.declared.counts.Counts.{Counts}
use Rattle.pbf_pass.specs.declared.pass.Pass.{Pass}
use Rattle.pbfcut.specs.Theorem.{IsConverted}
use Rattle.pbfcut.specs.Converting.{answer_bytes, conversion, CanBeWritten}
use Rattle.pbf_pass.specs.HeaderLimit.{header_limit, judged_writable, held_header}
use Rattle.pbf_pass.specs.Counting.{stored_entities}
use Rattle.pbf_pass.specs.Judged.{judged_file}
use Rattle.pbfcut.specs.Kept.{conversion_of, IsWritable}
use Rattle.pbf_pass.proofs.GivenLemmas.{Tells}
use Rattle.pbf_pass.proofs.LimitLemmas.{held_is, judged_sound}
use Rattle.pbfcut.proofs.KeptLaw.{same_verdict, conversion_kept}
use Rattle.pbfcut.specs.Pick.{everything, take_of}
use Rattle.pbfcut.specs.Write.{Packed, PacksFront}
use Rattle.pbf_pass.specs.Pass.{TakesFile, file_header}

-- ---- what is known

-- nothing went out
pub nothing_out : (old : Option (List ℕ)) (whole : List ℕ) → IsFront old old whole
nothing_out old whole = record { count = 0; taken = sym (append_none old) }

pub known_says : (b : List ℕ) (v : Verdict) → Says (judged_file (Some b)) v → judged_file (Some b) ≡ Some v
known_says b v says = ap (λ (w : Verdict). Some w) says

-- ---- everything

all_picked : (es : List EntitySpec) → filter everything es ≡ es
all_picked [] = refl
all_picked (e ∷ es) = ap (λ (l : List EntitySpec). e ∷ l) (all_picked es)

take_everything : take_of None ≡ everything
unfolding take_of
take_everything = refl

pub everything_picked : (es : List EntitySpec) → filter (take_of None) es ≡ es
everything_picked es = ap (λ p. filter p es) take_everything ∙ all_picked es

-- ---- a whole call

-- what a pass over these bytes says of their header
pub record Passed (b : List ℕ) (pass : Pass) (h : HeaderSpec) : Type 0 where
  pub frames : List FrameSpec
  pub judged : judged_file (Some b) ≡ Some (frames, None)
  pub writable : judged_writable (Some b) ≡ Some (frames, None)
  pub header : file_header frames ≡ Some (pass.header_at, h)

pub passed : {S : Type 0} (gathered : S → EntitySpec → S) (before now : S) (b : List ℕ) (pass : Pass) (h : HeaderSpec) (known : Option Verdict) → known ≡ judged_file (Some b) → TakesFile gathered known before now pass → held_header pass ≡ Some (pass.header_at, h) → header_limit (held_header pass) ≡ None → Passed b pass h
passed gathered before now b pass h known is p held within =
    let judged = known_says b (p.frames, None) (subst (λ (k : Option Verdict). Says k (p.frames, None)) is p.says) in
    let same = held_is (file_header p.frames) pass p.header in
    record {
      frames = p.frames;
      judged = judged;
      writable = judged_sound b p.frames judged (ap header_limit (sym same) ∙ within);
      header = sym same ∙ held;
    }

-- the bytes that are to be written
answer_is : (frames : List FrameSpec) (at : ℕ) (h : HeaderSpec) → file_header frames ≡ Some (at, h) → written_file h (filter (take_of None) (stored_entities frames)) ≡ answer_bytes (frames, None)
answer_is frames at h e = ap (λ (l : List EntitySpec). written_file h l) (everything_picked (stored_entities frames)) ∙ ap (λ (o : Option (ℕ × HeaderSpec)). conversion o (stored_entities frames)) (sym e)

pub converted : (b : List ℕ) (pass : Pass) (h : HeaderSpec) (counts : Counts) (known : Option Verdict) (written : List ℕ) → known ≡ judged_file (Some b) → Passed b pass h → Packed (take_of None) h counts known written
    → IsConverted b counts written
converted b pass h counts known written is p went = grind (arith, went p.frames (is ∙ p.judged), same_verdict b p.frames p.writable, answer_is p.frames pass.header_at h p.header, conversion_kept b (ap (λ (v : Verdict). v.1) (same_verdict b p.frames p.writable)), everything_picked (stored_entities p.frames))

-- what the first pass says of its file
pub passed_sound : (b : List ℕ) (pass : Pass) (h : HeaderSpec) → Passed b pass h → IsWritable b
passed_sound b pass h p = ap (λ (v : Verdict). v.1) (same_verdict b p.frames p.writable)

pub can_told : (known : Option (List ℕ)) (file : List ℕ) → Tells known file → IsWritable file → CanBeWritten (judged_writable known)
can_told None file tells sound = ([], tt)
can_told (Some b) file tells sound = grind (arith, tells b refl)

pub converts_front : (b : List ℕ) (pass : Pass) (h : HeaderSpec) (known : Option Verdict) (old new : Option (List ℕ)) → known ≡ judged_file (Some b) → Passed b pass h → PacksFront (take_of None) h known old new → IsFront old new (conversion_of b)
converts_front b pass h known old new is p front = grind (arith, answer_is p.frames pass.header_at h p.header, same_verdict b p.frames p.writable, front p.frames (is ∙ p.judged))
