-- What is written for a file without a fault is read as what was to be written, and for it the same bytes are written again.
use Rattle.std.proofs.Common.{◌≡◌, ℕ, ◌+◌, ◌≤◌, Bool, true, false, List, [], ◌∷◌, ◌++◌, length, map, Option, Some, None, refl, sym, ap, ◌∙◌, subst, arith}
use Rattle.std.specs.Prelude.{if◌then◌else◌, unwrap_or}
use Rattle.std.specs.List.{flat_map, last_or, AllByRecursion}
use Rattle.std.specs.Option.{IfSome}
use Rattle.std.proofs.lemmas.Bool.{leb-true}
use Rattle.pbf_wire.specs.declared.fault.Fault.{Fault}
use Rattle.pbf_wire.specs.declared.fault.Reason.TheVariants.{EntityLarge}
use Rattle.pbf_wire.specs.Faults.{fault}
use Rattle.osm_area.specs.Area.{AreaSpec, IsAreaWithin}
use Rattle.osm_entity.specs.Entity as entity
use Rattle.osm_entity.specs.Entity.{EntitySpec}
use Rattle.osm_entity.specs.Ranges.{EntityFits, EntityTyped}
use Rattle.osm_entity.specs.Weight.{text_weight}
use Rattle.osm_ways.specs.Selection.{Strategy, IsWider, extract}
use Rattle.osm_ways.specs.Seen.{seen_entity, seen_decoded}
use Rattle.osm_ways.proofs.Decoding.{seen_alike}
use Rattle.osm_ways.proofs.Boxes.{seen_entity-within}
use Rattle.osm_ways.proofs.Extracts.{extract_of_larger, extract_twice, extract_viewed}
use Rattle.pbf_block.specs.declared.counts.Counts.{Counts}
use Rattle.pbf_frame.specs.declared.frame.FrameKind.TheVariants as kind
use Rattle.pbf_frame.specs.declared.frame.TheConstants.{FILE_LIMIT}
use Rattle.pbf_frame.specs.Frames.{FrameSpec}
use Rattle.pbf_frame.specs.Verdict.{Verdict, judged, judged_within}
use Rattle.pbf_frame.specs.Writing.{written_frame}
use Rattle.pbf_frame.proofs.AnyLength.{same_within}
use Rattle.pbf_header.specs.Header.{HeaderSpec}
use Rattle.pbf_header.specs.WrittenHeader.{edges_of, header_message, header_out_for_box, header_out_for_convert, EdgesTyped, HeaderFits}
use Rattle.pbf_block.proofs.FitsLaw.{entities_fit, entities_typed}
use Rattle.pbf_header.proofs.HeaderLaw.{out_fits}
use Rattle.pbf_header.proofs.HeaderLemmas.{header_out_twice}
use Rattle.pbf_header.proofs.ReadHeaderLaw.{header_fits}
use Rattle.osm_pack.specs.Cuts.{written_entities, written_file}
use Rattle.pbf_wire.proofs.AllLemmas.{all_append, all_filter}
use Rattle.pbf_pass.proofs.SoundLemmas.{ends_well}
use Rattle.pbfcut.specs.Converting.{answer_bytes}
use Rattle.pbf_pass.specs.HeaderLimit.{header_limit, has_short_texts, with_limit, limited, judged_writable}
use Rattle.pbf_pass.specs.Counting.{entities_in, frame_entities, stored_entities}
use Rattle.pbfcut.specs.Extracting.{extract_bytes, kept_entities}
use Rattle.pbf_pass.specs.Judged.{fault_in, payload_fault, sound_first, sound_front, fully}
use Rattle.pbfcut.specs.Kept.{verdict_within, verdict_on, IsWritable, conversion_of, extract_of}
use Rattle.pbfcut.specs.Theorem.{IsConversion, IsExtract, IsExtraction, IsCanonical}
use Rattle.pbf_pass.specs.Pass.{headers_in, frame_headers, file_header}
use Rattle.pbf_pass.specs.Payload.{Payload, payload_of}
use Rattle.pbfcut.proofs.FileLaw.{IsFileOf, is_sound, header_is, entities_are, written_is_file}
use Rattle.pbf_header.specs.declared.write.TheConstants.{MOST_HEADER_TEXT}

-- ---- the payloads of a file without a fault

abbrev IsSound : FrameSpec → Type 0
IsSound f = payload_fault f ≡ None

first_sound : (o : Option Fault) (f : FrameSpec) (v : Verdict) → payload_fault f ≡ o → (sound_first o f v).1 ≡ None → (v.1 ≡ None → AllByRecursion IsSound v.0) → AllByRecursion IsSound (sound_first o f v).0
first_sound o f v h3 h4 h5 = grind arith

front_sound : (frames : List FrameSpec) (ending : Option Fault) → (sound_front frames ending).1 ≡ None → AllByRecursion IsSound (sound_front frames ending).0
front_sound [] ending e = tt
front_sound (f ∷ frames) ending e = first_sound (payload_fault f) f (sound_front frames ending) refl e (front_sound frames ending)

payload_fits : (p : Payload) → fault_in p ≡ None → AllByRecursion EntityFits (entities_in p)
payload_fits p h1 = grind (arith, entities_fit)

payload_typed : (p : Payload) → AllByRecursion EntityTyped (entities_in p)
payload_typed p = grind (arith, entities_typed)

all_fit : (frames : List FrameSpec) → AllByRecursion IsSound frames → AllByRecursion EntityFits (stored_entities frames)
all_fit [] sound = tt
all_fit (f ∷ frames) sound = all_append EntityFits (frame_entities f) (stored_entities frames) (payload_fits (payload_of f) sound.0) (all_fit frames sound.1)

all_typed : (frames : List FrameSpec) → AllByRecursion EntityTyped (stored_entities frames)
all_typed [] = tt
all_typed (f ∷ frames) = all_append EntityTyped (frame_entities f) (stored_entities frames) (payload_typed (payload_of f)) (all_typed frames)

-- ---- its header

abbrev Placed : Type 0
Placed = ℕ × HeaderSpec

abbrev HeadFits : Placed → Type 0
HeadFits p = HeaderFits (header_out_for_convert p.1)

payload_headers : (p : Payload) → AllByRecursion HeadFits (headers_in p)
payload_headers p = grind (arith, header_fits)

all_headers : (frames : List FrameSpec) → AllByRecursion HeadFits (flat_map frame_headers frames)
all_headers [] = tt
all_headers (f ∷ frames) = all_append HeadFits (frame_headers f) (flat_map frame_headers frames) (payload_headers (payload_of f)) (all_headers frames)

last_fits : (ps : List Placed) (before : Option Placed) → AllByRecursion HeadFits ps → IfSome before HeadFits → IfSome (last_or before ps) HeadFits
last_fits [] before all h = h
last_fits (p ∷ ps) before all h = last_fits ps (Some p) all.1 all.0

-- the header of a file that can be written again
record HasHeader (found : Option Placed) : Type 0 where
  place : ℕ
  header : HeaderSpec
  is : found ≡ Some (place, header)
  short : text_weight header.source + text_weight header.url ≤ MOST_HEADER_TEXT
  fits : HeaderFits (header_out_for_convert header)

within : (b : Bool) (place : ℕ) → (if b then None else Some (fault place EntityLarge)) ≡ None → b ≡ true
within b place h2 = grind arith

has_header : (found : Option Placed) → header_limit found ≡ None → IfSome found HeadFits → HasHeader found
has_header None e h = absurd (cc)
has_header (Some p) e h =
    let weight = text_weight p.1.source + text_weight p.1.url in
    record { place = p.0; header = p.1; is = refl; short = leb-true weight MOST_HEADER_TEXT (within (has_short_texts p.1) p.0 e); fits = h }

-- ---- the limit of the header

record Passes (v : Verdict) : Type 0 where
  sound : v.1 ≡ None
  same : limited v ≡ (v.0, None)
  limit : header_limit (file_header v.0) ≡ None

passes_with : (frames : List FrameSpec) (o : Option Fault) → header_limit (file_header frames) ≡ o → (with_limit o frames).1 ≡ None → Passes (frames, None)
passes_with frames o h2 h3 = grind arith

passes : (v : Verdict) → (limited v).1 ≡ None → Passes v
passes v h1 = grind (arith, passes_with)

-- ---- a file that can be written again

-- of this header and of these entities a file can be written
record CanWrite (h : HeaderSpec) (es : List EntitySpec) : Type 0 where
  fits : HeaderFits (header_out_for_convert h)
  short : text_weight h.source + text_weight h.url ≤ MOST_HEADER_TEXT
  fit : AllByRecursion EntityFits es
  typed : AllByRecursion EntityTyped es

record IsReadable (file : List ℕ) : Type 0 where
  header : HeaderSpec
  entities : List EntitySpec
  is : IsFileOf (verdict_on file) header entities
  can : CanWrite header entities

readable : (file : List ℕ) → IsWritable file → IsReadable file
readable file sound =
    let front = judged false 0 file in
    let v = fully front in
    let p = passes v sound in
    let found = has_header (file_header v.0) p.limit (last_fits (flat_map frame_headers v.0) None (all_headers v.0) tt) in
    record {
      header = found.header;
      entities = stored_entities v.0;
      is = record { frames = v.0; verdict = p.same; place = found.place; placed = found.is; entities = refl };
      can = record { fits = found.fits; short = found.short; fit = all_fit v.0 (front_sound front.0 front.1 p.sound); typed = all_typed v.0 };
    }

written_out_is_file : (h : HeaderSpec) (es : List EntitySpec) → CanWrite h es → IsFileOf (verdict_within None (written_file h es)) (header_out_for_convert h) es
written_out_is_file h es can = written_is_file h es can.fits can.short can.fit can.typed

module _ (read : Verdict) (h : HeaderSpec) (es : List EntitySpec) (is : IsFileOf read h es) where
  converted_is : answer_bytes read ≡ written_file h es
  converted_is = grind arith

  extracted_is : (by : Strategy) (area : AreaSpec) → extract_bytes by area read ≡ written_file (header_out_for_box area.bounds h) (kept_entities by area es)
  extracted_is by area = grind arith

pub same_verdict : (file : List ℕ) (frames : List FrameSpec) → judged_writable (Some file) ≡ Some (frames, None) → verdict_on file ≡ (frames, None)
same_verdict file frames is = ap (λ (o : Option Verdict). unwrap_or o (frames, None)) is

-- ---- a file of any length that keeps to the limit

pub same_as_a_file : (bytes : List ℕ) → length bytes ≤ FILE_LIMIT → (verdict_within None bytes).1 ≡ None → verdict_on bytes ≡ verdict_within None bytes
same_as_a_file bytes low none =
    let v = judged_within None false 0 bytes in
    ap (λ (v : Verdict). limited (fully v)) (same_within FILE_LIMIT false 0 bytes (omega (arith, low)) (ends_well v.0 v.1 (passes (fully v) none).sound))

-- ---- a conversion

written_for_out : (h : HeaderSpec) (es : List EntitySpec) → written_file (header_out_for_convert h) es ≡ written_file h es
written_for_out h es = ap (λ (g : HeaderSpec). written_frame kind.Header (header_message g) ++ written_entities es) (header_out_twice h.bbox h.bbox h)

-- it means the same, and its conversion is the same bytes
pub record IsKept (read : Verdict) (written : List ℕ) : Type 0 where
  pub conversion : IsConversion read (verdict_within None written)
  pub again : answer_bytes (verdict_within None written) ≡ written

conversion_written : (read : Verdict) (h : HeaderSpec) (es : List EntitySpec) → IsFileOf read h es → CanWrite h es → IsKept read (written_file h es)
conversion_written read h es is can =
    let again = written_out_is_file h es can in
    let out = header_out_for_convert h in
    let written = verdict_within None (written_file h es) in
    record {
      conversion = grind (arith, is_sound written out es again, header_is written out es again, header_is read h es is, entities_are written out es again, entities_are read h es is);
      again = converted_is written out es again ∙ written_for_out h es;
    }

pub conversion_kept : (file : List ℕ) → IsWritable file → IsKept (verdict_on file) (conversion_of file)
conversion_kept file sound =
    let r = readable file sound in
    let e = converted_is (verdict_on file) r.header r.entities r.is in
    subst (λ (w : List ℕ). IsKept (verdict_on file) w) (sym e) (conversion_written (verdict_on file) r.header r.entities r.is r.can)

-- ---- an extract

-- what is kept of stored entities is what is kept of what they mean, and of it the same is kept again
record IsSelection (by : Strategy) (area : AreaSpec) : Type 0 where
  pub fit : (es : List EntitySpec) → AllByRecursion EntityFits es → AllByRecursion EntityFits (kept_entities by area es)
  pub typed : (es : List EntitySpec) → AllByRecursion EntityTyped es → AllByRecursion EntityTyped (kept_entities by area es)
  pub twice : (es : List EntitySpec) → kept_entities by area (kept_entities by area es) ≡ kept_entities by area es
  pub meaning : (es : List EntitySpec) → map entity.decoded (kept_entities by area es) ≡ extract by (seen_decoded by.whole area) (map entity.decoded es)

is_selection : (by : Strategy) (area : AreaSpec) → IsSelection by area
is_selection by area = grind (arith, all_filter EntityFits, all_filter EntityTyped, extract_twice by (seen_entity by.whole area), extract_viewed by entity.decoded (seen_entity by.whole area) (seen_decoded by.whole area) (seen_alike by.whole area), seen_alike by.whole area)

module _ (by : Strategy) (area : AreaSpec) (edges : EdgesTyped (edges_of area.bounds)) where
  selection : IsSelection by area
  selection = is_selection by area

  -- it means the extract, and its extract is the same bytes
  pub record IsKeptExtract (read : Verdict) (written : List ℕ) : Type 0 where
    pub extract : IsExtract by area read (verdict_within None written)
    pub again : extract_bytes by area (verdict_within None written) ≡ written

  can_extract : (h : HeaderSpec) (es : List EntitySpec) → CanWrite h es → CanWrite (header_out_for_box area.bounds h) (kept_entities by area es)
  can_extract h es can = grind (arith, out_fits (Some (edges_of area.bounds)) (header_out_for_box area.bounds h) edges can.fits.timestamp can.fits.sequence, edges_of area.bounds, selection.fit es can.fit, selection.typed es can.typed)

  extract_written : (read : Verdict) (h : HeaderSpec) (es : List EntitySpec) → IsFileOf read h es → CanWrite h es → IsKeptExtract read (written_file (header_out_for_box area.bounds h) (kept_entities by area es))
  extract_written read h es is can =
      let out = header_out_for_box area.bounds h in
      let kept = kept_entities by area es in
      let written = verdict_within None (written_file out kept) in
      let once : header_out_for_convert out ≡ out = header_out_twice (Some (edges_of area.bounds)) (Some (edges_of area.bounds)) h in
      let again = subst (λ (g : HeaderSpec). IsFileOf written g kept) once (written_out_is_file out kept (can_extract h es can)) in
      let entities = entities_are written out kept again ∙ ap (kept_entities by area) (sym (entities_are read h es is)) in
      record {
        extract = grind (arith, is_sound written out kept again, header_is written out kept again, header_is read h es is, selection.meaning (stored_entities read.0));
        again = extracted_is written out kept again by area ∙ (ap (λ (g : HeaderSpec). written_file g (kept_entities by area kept)) once ∙ ap (λ (l : List EntitySpec). written_file out l) (selection.twice es));
      }

  pub extract_kept : (file : List ℕ) → IsWritable file → IsKeptExtract (verdict_on file) (extract_of by area file)
  extract_kept file sound =
      let r = readable file sound in
      let e = extracted_is (verdict_on file) r.header r.entities r.is by area in
      subst (λ (w : List ℕ). IsKeptExtract (verdict_on file) w) (sym e) (extract_written (verdict_on file) r.header r.entities r.is r.can)

  -- an extract that needs no more than what this one keeps is the same of it as of the file
  pub extract_of_extract : (fewer : Strategy) (other : AreaSpec) → ((es : List EntitySpec) → kept_entities fewer other (kept_entities by area es) ≡ kept_entities fewer other es) → (file : List ℕ) → IsWritable file → extract_bytes fewer other (verdict_within None (extract_of by area file)) ≡ extract_of fewer other file
  extract_of_extract fewer other enough file sound =
      let r = readable file sound in
      let out = header_out_for_box area.bounds r.header in
      let kept = kept_entities by area r.entities in
      let written = verdict_within None (written_file out kept) in
      let once : header_out_for_convert out ≡ out = header_out_twice (Some (edges_of area.bounds)) (Some (edges_of area.bounds)) r.header in
      let again = subst (λ (g : HeaderSpec). IsFileOf written g kept) once (written_out_is_file out kept (can_extract r.header r.entities r.can)) in
      ap (λ (w : List ℕ). extract_bytes fewer other (verdict_within None w)) (extracted_is (verdict_on file) r.header r.entities r.is by area)
      ∙ (extracted_is written out kept again fewer other
      ∙ (ap (λ (g : HeaderSpec). written_file g (kept_entities fewer other kept)) (header_out_twice (Some (edges_of other.bounds)) (Some (edges_of area.bounds)) r.header)
      ∙ (ap (λ (l : List EntitySpec). written_file (header_out_for_box other.bounds r.header) l) (enough r.entities)
      ∙ sym (extracted_is (verdict_on file) r.header r.entities r.is fewer other))))

  -- and so it is of the bytes that two runs wrote
  pub run_of_run : (fewer : Strategy) (other : AreaSpec) → ((es : List EntitySpec) → kept_entities fewer other (kept_entities by area es) ≡ kept_entities fewer other es) → (file part cut : List ℕ) → length part ≤ FILE_LIMIT → IsWritable file → IsCanonical (extract_bytes by area) file part → IsCanonical (extract_bytes fewer other) part cut → cut ≡ extract_of fewer other file
  run_of_run fewer other enough file part cut low sound first second = grind (arith, extract_kept file sound, same_as_a_file part low (subst (λ (w : List ℕ). (verdict_within None w).1 ≡ None) (sym first.is) (extract_kept file sound).extract.sound), extract_of_extract fewer other enough file sound)

-- ---- two runs

-- an extract by a strategy that is no wider, and by a smaller area
pub smaller_extract : (narrow wide : Strategy) → IsWider narrow wide → (area small : AreaSpec) → IsAreaWithin small area → (es : List EntitySpec) → kept_entities narrow small (kept_entities wide area es) ≡ kept_entities narrow small es
smaller_extract narrow wide wider area small h es = extract_of_larger narrow wide wider (seen_entity narrow.whole small) (seen_entity wide.whole area) (seen_entity-within narrow.whole wide.whole wider.whole small area h) es

pub runs_compose : (narrow wide : Strategy) → IsWider narrow wide → (area small : AreaSpec) → EdgesTyped (edges_of area.bounds) → IsAreaWithin small area → (file part cut : List ℕ) (counts fewer : Counts) → length part ≤ FILE_LIMIT
    → IsExtraction wide area file counts part → IsExtraction narrow small part fewer cut → cut ≡ extract_of narrow small file
runs_compose narrow wide wider area small typed h file part cut counts fewer low first second =
    run_of_run wide area typed narrow small (smaller_extract narrow wide wider area small h) file part cut low first.0.sound first.1 second.1
