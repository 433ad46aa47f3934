-- A file that is written is read as its header and its entities.
use Rattle.std.proofs.Common.{◌≡◌, ℕ, ◌+◌, ◌<◌, ◌≤◌, nat_le, Bool, true, false, List, [], ◌∷◌, ◌++◌, length, Option, Some, None, refl, sym, ap, ◌∙◌, subst, arith}
use Rattle.std.specs.Prelude.{if◌then◌else◌}
use Rattle.std.specs.List.{flat_map, last_or, AllByRecursion}
use Rattle.std.specs.Option.{option_map}
use Rattle.std.proofs.lemmas.Bool.Decides.{nat_tests}
use Rattle.std.proofs.lemmas.List.Sums.{sum_by-cons}
use Rattle.pbf_wire.specs.declared.fault.Fault.{Fault}
use Rattle.pbf_wire.specs.declared.fault.Reason.TheVariants.{EntityLarge}
use Rattle.pbf_wire.specs.Faults.{fault}
use Rattle.osm_entity.specs.Entity.{EntitySpec}
use Rattle.osm_entity.specs.Ranges.{EntityFits, EntityTyped}
use Rattle.osm_entity.specs.Weight.{text_weight, entity_weight}
use Rattle.pbf_frame.specs.declared.frame.FrameKind.{FrameKind}
use Rattle.pbf_frame.specs.declared.frame.FrameKind.TheVariants as kind
use Rattle.pbf_frame.specs.Frames.{FrameSpec, frame_end, frame_kind, frame_payload, frame_payload_at, is_header}
use Rattle.pbf_frame.specs.Sound.{IsFrameWithin, AreFramesWithin, had_after}
use Rattle.pbf_frame.specs.Verdict.{Verdict, judged_within, with_frame_first, joined_frames}
use Rattle.pbf_frame.specs.Writing.{written_at}
use Rattle.pbf_frame.proofs.AnyLength.{whole_file}
use Rattle.pbf_frame.proofs.ReadBack.{written_is_frame, written_kind, written_payload, written_bytes}
use Rattle.pbf_header.specs.Header.{HeaderSpec}
use Rattle.pbf_block.specs.WrittenBlock.{is_block, block_message}
use Rattle.pbf_header.specs.WrittenHeader.{HeaderFits, header_message, header_out_for_convert}
use Rattle.pbf_header.proofs.HeaderLaw.{header_short, light_read, light_sound}
use Rattle.pbf_block.proofs.LengthLaw.{block_fits}
use Rattle.pbf_block.proofs.WrittenLaw.{written_sound, written_read}
use Rattle.osm_pack.specs.Cuts.{cuts, block_frame, header_frame, written_file}
use Rattle.osm_pack.proofs.CutLaws.{cuts_joined, cuts_kept}
use Rattle.osm_pack.proofs.CutLemmas.{kept_bounds}
use Rattle.osm_pack.proofs.OpenLemmas.{alone}
use Rattle.pbf_pass.specs.HeaderLimit.{header_limit, with_limit, limited}
use Rattle.pbf_pass.specs.Counting.{entities_in, frame_entities, stored_entities}
use Rattle.pbfcut.specs.Kept.{verdict_within, header_read}
use Rattle.pbf_pass.specs.Judged.{fault_in, payload_fault, sound_first, sound_front, fully}
use Rattle.pbf_pass.specs.Pass.{headers_in, frame_headers, file_header}
use Rattle.pbf_pass.specs.Payload.{header_block, primitive_block, payload_as, payload_of}
use Rattle.pbf_header.specs.declared.write.TheConstants.{MOST_HEADER_TEXT}
use Rattle.osm_entity.specs.declared.weight.TheConstants.{HIGHEST_WEIGHT}
use Rattle.pbf_wire.proofs.AllLemmas.{all_left, all_right}

-- ---- what a file says

-- what is read is this header and these entities, which can be written again
pub record IsFileOf (read : Verdict) (h : HeaderSpec) (es : List EntitySpec) : Type 0 where
  pub frames : List FrameSpec
  pub verdict : read ≡ (frames, None)
  pub place : ℕ
  pub placed : file_header frames ≡ Some (place, h)
  pub entities : stored_entities frames ≡ es

module _ (read : Verdict) (h : HeaderSpec) (es : List EntitySpec) (is : IsFileOf read h es) where
  pub is_sound : read.1 ≡ None
  is_sound = ap (λ (v : Verdict). v.1) is.verdict

  pub header_is : header_read read ≡ Some h
  header_is = ap header_read is.verdict ∙ ap (λ (o : Option (ℕ × HeaderSpec)). option_map (λ p. p.1) o) is.placed

  pub entities_are : stored_entities read.0 ≡ es
  entities_are = ap (λ (v : Verdict). stored_entities v.0) is.verdict ∙ is.entities

-- ---- one frame

known_data : kind.Data ≡ kind.Other → ⊥
known_data e = cc

known_header : kind.Header ≡ kind.Other → ⊥
known_header e = cc

payload_written : (place : ℕ) (k : FrameKind) (message : List ℕ) → (k ≡ kind.Other → ⊥) → length message < 33554432 → payload_of (written_at place k message) ≡ payload_as k (frame_payload_at (written_at place k message)) message
payload_written place k message known short =
    let f = written_at place k message in
    ap (λ (x : FrameKind). payload_as x (frame_payload_at f) (frame_payload f)) (written_kind place k message known short) ∙ ap (payload_as k (frame_payload_at f)) (written_payload place k message known short)

-- ---- the frame of a block

-- entities that share a block as it is written
pub record IsWritten (block : List EntitySpec) : Type 0 where
  pub together : is_block block ≡ true
  pub fit : AllByRecursion EntityFits block
  pub typed : AllByRecursion EntityTyped block

abbrev block_at : ℕ → List EntitySpec → FrameSpec
block_at place block = written_at place kind.Data (block_message block)

module _ (place : ℕ) (block : List EntitySpec) (is : IsWritten block) where
  block_payload : payload_of (block_at place block) ≡ primitive_block (frame_payload_at (block_at place block)) (block_message block)
  block_payload = payload_written place kind.Data (block_message block) known_data (block_fits block is.together)

  block_is_frame : IsFrameWithin None true place (block_at place block)
  block_is_frame = written_is_frame place kind.Data (block_message block) known_data (block_fits block is.together) None true refl

  block_sound : payload_fault (block_at place block) ≡ None
  block_sound = ap fault_in block_payload ∙ written_sound block is.together is.fit is.typed (frame_payload_at (block_at place block))

  block_entities : frame_entities (block_at place block) ≡ block
  block_entities = ap entities_in block_payload ∙ written_read block is.together is.fit is.typed (frame_payload_at (block_at place block))

  block_headers : frame_headers (block_at place block) ≡ []
  block_headers = ap headers_in block_payload

-- ---- the frames of blocks

-- one after the other, the first at this place
abbrev blocks_at : ℕ → List (List EntitySpec) → List FrameSpec
blocks_at place [] = []
blocks_at place (block ∷ blocks) = block_at place block ∷ blocks_at (frame_end (block_at place block)) blocks

blocks_joined : (place : ℕ) (blocks : List (List EntitySpec)) → joined_frames (blocks_at place blocks) ≡ flat_map block_frame blocks
blocks_joined place [] = refl
blocks_joined place (block ∷ blocks) = grind (arith, written_bytes place kind.Data (block_message block), blocks_joined (frame_end (block_at place block)) blocks)

blocks_are_frames : (place : ℕ) (blocks : List (List EntitySpec)) → AllByRecursion IsWritten blocks → AreFramesWithin None true place (blocks_at place blocks)
blocks_are_frames place [] are = tt
blocks_are_frames place (block ∷ blocks) are = (block_is_frame place block are.0, blocks_are_frames (frame_end (block_at place block)) blocks are.1)

blocks_sound : (place : ℕ) (blocks : List (List EntitySpec)) → AllByRecursion IsWritten blocks → sound_front (blocks_at place blocks) None ≡ (blocks_at place blocks, None)
blocks_sound place [] are = refl
blocks_sound place (block ∷ blocks) are = grind (arith, block_sound place block are.0, blocks_sound (frame_end (block_at place block)) blocks are.1)

blocks_stored : (place : ℕ) (blocks : List (List EntitySpec)) → AllByRecursion IsWritten blocks → stored_entities (blocks_at place blocks) ≡ flat_map (λ block. block) blocks
blocks_stored place [] are = refl
blocks_stored place (block ∷ blocks) are = grind (arith, block_entities place block are.0, blocks_stored (frame_end (block_at place block)) blocks are.1)

blocks_headers : (place : ℕ) (blocks : List (List EntitySpec)) → AllByRecursion IsWritten blocks → flat_map frame_headers (blocks_at place blocks) ≡ []
blocks_headers place [] are = refl
blocks_headers place (block ∷ blocks) are = grind (arith, block_headers place block are.0, blocks_headers (frame_end (block_at place block)) blocks are.1)

-- ---- the blocks of entities

light : (es : List EntitySpec) → AllByRecursion EntityFits es → AllByRecursion (λ e. entity_weight e ≤ HIGHEST_WEIGHT) es
light [] fits = tt
light (e ∷ es) fits = (omega (arith, (kept_bounds (e ∷ []) (alone e fits.0)).1, sum_by-cons entity_weight e []), light es fits.1)

each_written : (blocks : List (List EntitySpec)) → AllByRecursion (λ block. is_block block ≡ true) blocks → AllByRecursion EntityFits (flat_map (λ block. block) blocks) → AllByRecursion EntityTyped (flat_map (λ block. block) blocks)
    → AllByRecursion IsWritten blocks
each_written [] are fits typed = tt
each_written (block ∷ blocks) are fits typed =
    let later = flat_map (λ block. block) blocks in (
      record { together = are.0; fit = all_left EntityFits block later fits; typed = all_left EntityTyped block later typed },
      each_written blocks are.1 (all_right EntityFits block later fits) (all_right EntityTyped block later typed),
    )

cuts_written : (es : List EntitySpec) → AllByRecursion EntityFits es → AllByRecursion EntityTyped es → AllByRecursion IsWritten (cuts es)
cuts_written es fits typed =
    let all = sym (cuts_joined es) in
    each_written (cuts es) (cuts_kept es (light es fits)) (subst (λ (l : List EntitySpec). AllByRecursion EntityFits l) all fits) (subst (λ (l : List EntitySpec). AllByRecursion EntityTyped l) all typed)

-- ---- the whole file

header_stays : (frames : List FrameSpec) → had_after true frames ≡ true
header_stays [] = refl
header_stays (f ∷ frames) = header_stays frames

module _ (h : HeaderSpec) (es : List EntitySpec) (fits : HeaderFits (header_out_for_convert h)) (short : text_weight h.source + text_weight h.url ≤ MOST_HEADER_TEXT) (fit : AllByRecursion EntityFits es) (typed : AllByRecursion EntityTyped es) where
  abbrev message : List ℕ
  message = header_message (header_out_for_convert h)

  abbrev first : FrameSpec
  first = written_at 0 kind.Header message

  abbrev later : List FrameSpec
  later = blocks_at (frame_end first) (cuts es)

  abbrev file_frames : List FrameSpec
  file_frames = first ∷ later

  message_short : length message < 33554432
  message_short = header_short (header_out_for_convert h) fits short

  first_kind : frame_kind first ≡ kind.Header
  first_kind = written_kind 0 kind.Header message known_header message_short

  first_payload : payload_of first ≡ header_block (frame_payload_at first) message
  first_payload = payload_written 0 kind.Header message known_header message_short

  first_sound : payload_fault first ≡ None
  first_sound = ap fault_in first_payload ∙ light_sound (frame_payload_at first) (header_out_for_convert h) fits short

  first_entities : frame_entities first ≡ []
  first_entities = ap entities_in first_payload

  abbrev placed : ℕ × HeaderSpec
  placed = (frame_payload_at first, header_out_for_convert h)

  first_headers : frame_headers first ≡ placed ∷ []
  first_headers =
      ap headers_in first_payload ∙ ap (λ (g : HeaderSpec). let p : ℕ × HeaderSpec = (frame_payload_at first, g) in p ∷ []) (light_read (frame_payload_at first) (header_out_for_convert h) fits short)

  written : AllByRecursion IsWritten (cuts es)
  written = cuts_written es fit typed

  joined_all : joined_frames file_frames ≡ written_file h es
  joined_all = ap (λ (l : List ℕ). l ++ joined_frames later) (written_bytes 0 kind.Header message) ∙ ap (λ (l : List ℕ). header_frame h ++ l) (blocks_joined (frame_end first) (cuts es))

  are_frames : AreFramesWithin None false 0 file_frames
  are_frames = (
    written_is_frame 0 kind.Header message known_header message_short None false refl,
    subst (λ (k : FrameKind). AreFramesWithin None (is_header k) (frame_end first) later) (sym first_kind) (blocks_are_frames (frame_end first) (cuts es) written),
  )

  had_header : had_after false file_frames ≡ true
  had_header = ap (λ (k : FrameKind). had_after (is_header k) later) first_kind ∙ header_stays later

  file_judged : judged_within None false 0 (written_file h es) ≡ (file_frames, None)
  file_judged = ap (judged_within None false 0) (sym joined_all) ∙ whole_file None false 0 file_frames are_frames had_header

  file_sound : fully (file_frames, None) ≡ (file_frames, None)
  file_sound = ap (λ (o : Option Fault). sound_first o first (sound_front later None)) first_sound ∙ ap (λ (v : Verdict). with_frame_first first v) (blocks_sound (frame_end first) (cuts es) written)

  file_stored : stored_entities file_frames ≡ es
  file_stored = ap (λ (l : List EntitySpec). l ++ stored_entities later) first_entities ∙ (blocks_stored (frame_end first) (cuts es) written ∙ cuts_joined es)

  file_placed : file_header file_frames ≡ Some placed
  file_placed =
      ap (λ (l : List (ℕ × HeaderSpec)). last_or None (l ++ flat_map frame_headers later)) first_headers ∙ ap (λ (l : List (ℕ × HeaderSpec)). last_or None (placed ∷ l)) (blocks_headers (frame_end first) (cuts es) written)

  -- ---- with the limit of its header

  header_within : header_limit (file_header file_frames) ≡ None
  header_within =
      let light : nat_le (text_weight h.source + text_weight h.url) MOST_HEADER_TEXT ≡ true = grind (arith, nat_tests, short) in
      ap header_limit file_placed ∙ ap (λ (b : Bool). if b then None else Some (fault placed.0 EntityLarge)) light

  file_limited : verdict_within None (written_file h es) ≡ (file_frames, None)
  file_limited =
      ap (λ (v : Verdict). limited (fully v)) file_judged ∙ (ap limited file_sound ∙ ap (λ (o : Option Fault). with_limit o file_frames) header_within)

  -- it is a file of what was written
  pub written_is_file : IsFileOf (verdict_within None (written_file h es)) (header_out_for_convert h) es
  written_is_file = record { frames = file_frames; verdict = file_limited; place = frame_payload_at first; placed = file_placed; entities = file_stored }

  pub file_read : ((verdict_within None (written_file h es)).1 ≡ None) × (header_read (verdict_within None (written_file h es)) ≡ Some (header_out_for_convert h)) × (stored_entities (verdict_within None (written_file h es)).0 ≡ es)
  file_read =
      let out = header_out_for_convert h in
      (is_sound _ out es written_is_file, header_is _ out es written_is_file, entities_are _ out es written_is_file)
