-- A frame read part by part is the next frame of the bytes.
use Rattle.std.proofs.Common.{◌≡◌, ℕ, ◌+◌, Bool, true, List, Option, Some, None, Result, Ok, Err, length, refl, sym, ap, ◌∙◌, subst}
use Rattle.std.specs.Prelude.{unwrap_or}
use Rattle.pbf_wire.specs.declared.fault.Fault.{Fault}
use Rattle.pbf_frame.specs.declared.frame.FrameKind.{FrameKind}
use Rattle.pbf_frame.specs.declared.header.Head.{Head}
use Rattle.pbf_frame.specs.declared.frame_parts.BufferedFrame.{BufferedFrame}
use Rattle.pbf_frame.specs.Devices.{IsAtEnd, Passes}
use Rattle.pbf_wire.specs.Least.{least}
use Rattle.pbf_wire.specs.Occurrence.{◌>>=◌, items, found}
use Rattle.pbf_wire.specs.Reading.{last_of}
use Rattle.pbf_wire.specs.Wire.{wire}
use Rattle.pbf_frame.specs.declared.header.TheConstants.{DATASIZE, HEADER_KINDS}
use Rattle.pbf_frame.specs.Header.{frame_type_at, head_says, header_faults, kind_named, size_of}
use Rattle.pbf_frame.specs.Frames.{next_of}
use Rattle.pbf_frame.specs.Reads.{Gives, GaveBlob, GaveFrame, GaveEnd, BufferHolds}
use Rattle.pbf_frame.specs.Sound.{IsFrame}
use Rattle.pbf_frame.specs.Steps.{unless, head_of, prefix_at, header_after, blob_of, after_prefix, steps_of}
use Rattle.pbf_frame.proofs.Passed.{passes_three}
use Rattle.pbf_frame.proofs.Stepping.{after_blob, after_header, as_some, frame_steps, after_some, after_none, next_is_steps}

pub next_steps : (h : Bool) (p : ℕ) (bytes : List ℕ) → next_of h p bytes ≡ (prefix_at h p bytes >>= after_prefix h p)
unfolding steps_of
next_steps h p bytes = next_is_steps h p bytes

-- ---- the next frame from its parts

module _ (h : Bool) (p : ℕ) (bytes : List ℕ) where
  pub prefix_refused : (e : Fault) → prefix_at h p bytes ≡ Err e → next_of h p bytes ≡ Err e
  prefix_refused e is = next_steps h p bytes ∙ ap (λ r. r >>= after_prefix h p) is

  prefix_none : (rest : List ℕ) → prefix_at h p bytes ≡ Ok (None, rest) → next_of h p bytes ≡ Ok (None, rest)
  prefix_none rest is = next_steps h p bytes ∙ ap (λ r. r >>= after_prefix h p) is ∙ after_none h p rest

  prefix_some : (prefix rest : List ℕ) → prefix_at h p bytes ≡ Ok (Some prefix, rest) → next_of h p bytes ≡ (header_after h p prefix rest >>= after_header p prefix >>= as_some)
  prefix_some prefix rest is = next_steps h p bytes ∙ ap (λ r. r >>= after_prefix h p) is ∙ after_some h p prefix rest ∙ ap (λ r. r >>= as_some) (frame_steps h p prefix rest)

  pub header_refused : (prefix rest : List ℕ) (e : Fault) → prefix_at h p bytes ≡ Ok (Some prefix, rest) → header_after h p prefix rest ≡ Err e → next_of h p bytes ≡ Err e
  header_refused prefix rest e is then = prefix_some prefix rest is ∙ ap (λ r. r >>= after_header p prefix >>= as_some) then

  header_some : (prefix rest header left : List ℕ) (head : Head) → prefix_at h p bytes ≡ Ok (Some prefix, rest) → header_after h p prefix rest ≡ Ok ((header, head), left) → next_of h p bytes ≡ (blob_of head.kind head.size (p + 4 + length header) left >>= after_blob p prefix ((header, head), left) >>= as_some)
  header_some prefix rest header left head is then = prefix_some prefix rest is ∙ ap (λ r. r >>= after_header p prefix >>= as_some) then

  pub blob_refused : (prefix rest header left : List ℕ) (head : Head) (e : Fault) → prefix_at h p bytes ≡ Ok (Some prefix, rest) → header_after h p prefix rest ≡ Ok ((header, head), left) → blob_of head.kind head.size (p + 4 + length header) left ≡ Err e → next_of h p bytes ≡ Err e
  blob_refused prefix rest header left head e is then lastly = header_some prefix rest header left head is then ∙ ap (λ r. r >>= after_blob p prefix ((header, head), left) >>= as_some) lastly

  pub blob_some : (prefix rest header left blob last : List ℕ) (head : Head) → prefix_at h p bytes ≡ Ok (Some prefix, rest) → header_after h p prefix rest ≡ Ok ((header, head), left) → blob_of head.kind head.size (p + 4 + length header) left ≡ Ok (blob, last)
      → next_of h p bytes ≡ Ok (Some (record { offset = p; prefix = prefix; header = header; blob = blob }), last)
  blob_some prefix rest header left blob last head is then lastly = header_some prefix rest header left head is then ∙ ap (λ r. r >>= after_blob p prefix ((header, head), left) >>= as_some) lastly

-- ---- what a header says

pub err_ok : {A : Type 0} (f : Fault) (x : A) → ◌≡◌ {A = Result A Fault} (Err f) (Ok x) → ⊥
err_ok f x e = cc

-- if nothing is wrong, what follows is given
pub unless_ok : {A : Type 0} (o : Option Fault) (later : Result A Fault) (x : A) → unless o later ≡ Ok x → (o ≡ None) × (later ≡ Ok x)
unless_ok None later x e = (refl, e)
unless_ok (Some f) later x e = absurd (err_ok f x e)

pub head_parts : (at : ℕ) (header : List ℕ) (head : Head) → head_of at header ≡ Ok head
    → (wire HEADER_KINDS (items at header) ≡ None) × (least (header_faults at header) ≡ None) × (head.kind ≡ kind_named (frame_type_at at header)) × (head.size ≡ unwrap_or (size_of (last_of DATASIZE (found (items at header)))) 0)
unfolding head_of
head_parts at header head e =
    let (wired, e1) = unless_ok (wire HEADER_KINDS (items at header)) _ head e in
    let (sound, e2) = unless_ok (least (header_faults at header)) _ head e1 in
    let same : head_says at header ≡ head = cc in
    (wired, sound, sym (ap (λ (x : Head). x.kind) same), sym (ap (λ (x : Head). x.size) same))

-- ---- the same of a feed that may not report its bytes

abbrev GivesPrefix : Bool → ℕ → Option (List ℕ) → Option (List ℕ) → Option (List ℕ) → Type 0
GivesPrefix h p old new o = Gives o old new (prefix_at h p)

pub prefix_given : (h : Bool) (p : ℕ) (o to old new : Option (List ℕ)) → o ≡ to → GivesPrefix h p old new o → GivesPrefix h p old new to
prefix_given h p o to old new is given = subst (λ (x : Option (List ℕ)). GivesPrefix h p old new x) is given

abbrev GivesHeader : Bool → ℕ → List ℕ → List ℕ → Option (List ℕ) → Option (List ℕ) → Head → Type 0
GivesHeader h p prefix header old new head = Gives (header, head) old new (header_after h p prefix)

module _ (h : Bool) (p : ℕ) where
  pub gave_end : (before now : ℕ → List ℕ → Type 0) (old new : Option (List ℕ)) → GivesPrefix h p old new None → (old ≡ None → new ≡ None) → IsAtEnd new → h ≡ true → ((log : ℕ) (b : List ℕ) → before log b → now log b) → GaveEnd h p before now old new
  gave_end before now old new given untold ended had passed = record {
    given = λ bytes is. let (rest, gives, left) = given bytes is in (rest, prefix_none h p bytes rest gives, left);
    untold = untold;
    end = ended;
    header_given = had;
    passed = passed;
  }

  pub gave_frame : (prefix header held : List ℕ) (head : Head) (seen : BufferedFrame) (q0 q1 q2 q3 : ℕ → List ℕ → Type 0) (old mid next new : Option (List ℕ)) → GivesPrefix h p old mid (Some prefix) → (old ≡ None → mid ≡ None) → GivesHeader h p prefix header mid next head → (mid ≡ None → next ≡ None)
      → head_of (p + 4) header ≡ Ok head → (blob : GaveBlob head.kind head.size (p + 4 + length header) held q2 q3 next new)
      → IsFrame h p (record { offset = p; prefix = prefix; header = header; blob = blob.blob }) → Passes q0 prefix q1 → Passes q1 header q2
      → seen.offset ≡ p → seen.kind ≡ head.kind → seen.size ≡ head.size → seen.blob_at ≡ p + 4 + length header → GaveFrame h p header held seen q0 q3 old new
  gave_frame prefix header held head seen q0 q1 q2 q3 old mid next new given untold then untold_then says lastly is_frame one two offset kind size at =
      let kind_is : head.kind ≡ kind_named (frame_type_at (p + 4) header) = (head_parts (p + 4) header head says).2 in
      record {
        frame = record { offset = p; prefix = prefix; header = header; blob = lastly.blob };
        is_seen = record {
          offset = offset;
          header_is = refl;
          place = at;
          kind_is = kind ∙ kind_is;
          size_is = size ∙ sym lastly.long;
          holds = subst (λ (k : FrameKind). BufferHolds k (p + 4 + length header) lastly.blob held) kind_is lastly.holds;
        };
        offset = refl;
        is_frame = is_frame;
        passed = passes_three q0 q1 q2 q3 prefix header lastly.blob one two lastly.passed;
        given = λ bytes is.
            let (rest, gives, left) = given bytes is in
            let (more, gives_more, left_more) = then rest left in
            let (last, gives_last, left_last) = lastly.given more left_more in
            (last, blob_some h p bytes prefix rest header more lastly.blob last head gives gives_more gives_last, left_last);
        untold = λ none. lastly.untold (untold_then (untold none));
      }
