-- What the pass that writes has packed, and what went out if it stopped.
use Rattle.std.proofs.Common.{◌≡◌, ◌⊎◌, ℕ, ◌≤◌, List, [], ◌∷◌, ◌++◌, append-nil, false, Option, Some, None, subst, inl, inr, refl, sym, ap, ap₂, ◌∙◌, arith}
use Rattle.std.specs.List.{AllByRecursion, filter}
use Rattle.osm_entity.specs.Entity.{EntitySpec}
use Rattle.osm_entity.specs.Ranges.{EntityFits}
use Rattle.osm_pack.specs.Cuts.{written_file, written_entities}
use Rattle.osm_pack.specs.Packing.{Packing, IsPacking}
use Rattle.osm_pack.specs.Stops.{IsPackStop}
use Rattle.pbf_header.specs.Header.{HeaderSpec}
use Rattle.pbf_block.specs.declared.counts.Counts.{Counts}
use Rattle.pbf_frame.specs.declared.frame.FrameKind.{FrameKind}
use Rattle.pbf_frame.specs.declared.frame.FrameKind.TheVariants as kind
use Rattle.pbf_frame.specs.declared.device.Feed as feed
use Rattle.pbf_frame.specs.declared.device.Drain as drain
use Rattle.pbf_frame.specs.declared.stop.Stop.{Stop}
use Rattle.pbf_frame.specs.Devices.{HasRisen, append, IsFront}
use Rattle.pbf_frame.specs.Frames.{FrameSpec}
use Rattle.pbf_frame.specs.Verdict.{Verdict, judged_known, with_first_known, VerdictAfter}
use Rattle.pbf_frame.proofs.Beginnings.{front_whole}
use Rattle.pbf_frame.proofs.Parting.{none_some}
use Rattle.pbf_frame.proofs.VerdictLemmas.{gone_more}
use Rattle.pbf_pass.specs.Unjudged.{IsSound, StopsAtFrame, StopsUnjudged, ReadsFaulty}
use Rattle.pbf_pass.specs.Counting.{counts_of, stored_entities}
use Rattle.pbf_pass.specs.Judged.{fault_in, fully, fully_known, judged_file}
use Rattle.pbf_pass.specs.Payload.{Payload, payload_as, payload_of}
use Rattle.pbf_pass.specs.Refused.{RefusesRest}
use Rattle.pbf_pass.specs.Stops.{Caused}
use Rattle.pbf_pass.proofs.GivenLemmas.{Tells}
use Rattle.pbf_pass.proofs.SoundLemmas.{sound_first_ones, sound_last, all_sound, rest_sound}
use Rattle.pbf_pass.specs.Visit.{Takes, StopRule, Visited, StopsVisit, RefusesVisit}
use Rattle.pbf_pass.proofs.UnjudgedLemmas.{stops_visited, faulty_visited}
use Rattle.pbf_pass.proofs.VisitLemmas.{visited_to}
use Rattle.pbfcut.specs.Pick.{Pick, HasPacked, BeginsAll, StopsAmong, picked_in}
use Rattle.pbfcut.specs.Write.{PacksUnjudgedPayload, FailsAtUnjudgedPayload, PacksUnjudgedFrame, FailsAtFrame, PacksNext, FailsAtNext, Packed, PacksFront}
use Rattle.pbfcut.proofs.PickingLemmas.{picked_one, front_of, begins_packed, none_gone}

-- ---- the whole file

-- the whole is a prefix of itself
pub packed_front : (pick : Pick) (h : HeaderSpec) (counts : Counts) (known : Option Verdict) (old new : Option (List ℕ)) (written : List ℕ) → Packed pick h counts known written → new ≡ append old written → PacksFront pick h known old new
packed_front pick h counts known old new written p taken frames is = front_whole old new (written_file h (filter pick (stored_entities frames))) (taken ∙ ap (append old) (p frames is).is)

-- the same of the file that is reported
pub packed_told : (pick : Pick) (h : HeaderSpec) (counts : Counts) (known : Option (List ℕ)) (file written : List ℕ) → Tells known file → Packed pick h counts (judged_file (Some file)) written → Packed pick h counts (judged_file known) written
packed_told pick h counts known file written h6 h7 z0 z1 = grind (arith, none_some)

pub front_told : (pick : Pick) (h : HeaderSpec) (known : Option (List ℕ)) (file : List ℕ) (old new : Option (List ℕ)) → Tells known file → PacksFront pick h (judged_file (Some file)) old new → PacksFront pick h (judged_file known) old new
front_told pick h known file old new h6 h7 z0 z1 = grind (arith, none_some)

-- ---- why it stops

-- at a payload that isn't judged
pub fails_at_unjudged_payload : {D S H : Type 0} (d : drain.Ghosts D) (number : ℕ) (pick : Pick) (p : Payload) (es : List EntitySpec) (old new : Packing D S H) (s : Stop) → (fault_in p ≡ None → AllByRecursion EntityFits es) → (fault_in p ≡ None → filter pick es ≡ picked_in pick p)
    → StopsAmong d number pick es old new s → FailsAtUnjudgedPayload d number pick p old new s
fails_at_unjudged_payload d number pick p es old new s fits same stops = grind arith

-- a failure of the last frame is one of the loop
pub fails_in_last_frame : (number first before now : ℕ) (f : FrameSpec) (s : Stop) → first ≤ before → Caused (λ e. ⊥) ⊥ (HasRisen before now) (λ pass. (pass ≡ number) × (IsSound f → ⊥)) s → StopsAtFrame number (HasRisen first now) f s
fails_in_last_frame number first before now f s h6 h7 = grind arith

-- ---- a payload of which nothing is packed

-- one that isn't a PrimitiveBlock holds nothing
pub none_picked : (pick : Pick) (k : FrameKind) (at : ℕ) (m : List ℕ) → (k ≡ kind.Header) ⊎ (k ≡ kind.Other) → picked_in pick (payload_as k at m) ≡ []
none_picked pick k at m h4 = grind arith

pub packs_none : {D S H : Type 0} (d : drain.Ghosts D) (pick : Pick) (p : Payload) (packer : Packing D S H) (counts : Counts) → IsPacking packer → picked_in pick p ≡ [] → PacksUnjudgedPayload d pick p packer packer counts counts
packs_none d pick p packer counts packing none = record {
  es = [];
  are = λ sound. sym none;
  packs = record { packed = λ start done h. none_gone d start done packer h };
  going = packing;
  counted = λ done is. is ∙ ap counts_of (sym (append-nil done));
}

-- ---- frames that were packed

-- these entities were packed and counted; of frames without a fault they are those that are picked
pub record PackedFrames {D S H : Type 0} (d : drain.Ghosts D) (pick : Pick) (start : D) (fs : List FrameSpec) (counts : Counts) (packer : Packing D S H) : Type 0 where
  pub es : List EntitySpec
  pub are : AllByRecursion IsSound fs → es ≡ filter pick (stored_entities fs)
  pub packed : HasPacked d start es packer
  pub counted : counts ≡ counts_of es

-- what went out, if frames follow that aren't packed
front_before : {D : Type 0} (d : drain.Ghosts D) (pick : Pick) (start : D) (first mid : Option Verdict) (fs all : List FrameSpec) (es : List EntitySpec) (taken : Option (List ℕ)) → VerdictAfter first fs mid → (AllByRecursion IsSound fs → es ≡ filter pick (stored_entities fs)) → (AllByRecursion IsSound fs → BeginsAll (d.taken start) es taken) → fully_known first ≡ Some (all, None)
    → IsFront (d.taken start) taken (written_entities (filter pick (stored_entities all)))
front_before d pick start first mid fs all es taken gone are begins is =
    let (rest, follows, split, sound) = rest_sound first mid fs all gone is in
    let here = sound_first_ones fs rest.0 (subst (λ (l : List FrameSpec). AllByRecursion IsSound l) split sound) in
    front_of pick (d.taken start) taken fs rest.0 (all, None) split (subst (λ (l : List EntitySpec). BeginsAll (d.taken start) l taken) (are here) (begins here))

module _ {D S H : Type 0} (d : drain.Ghosts D) (pick : Pick) (start : D) where
  pub frames_more : (fs : List FrameSpec) (f : FrameSpec) (before now : Counts) (old new : Packing D S H) → PackedFrames d pick start fs before old → PacksUnjudgedFrame d pick old new before now f → PackedFrames d pick start (fs ++ f ∷ []) now new
  frames_more fs f before now old new so_far p = grind (arith, ap₂ (λ (a b : List EntitySpec). a ++ b), sound_first_ones fs (f ∷ []), sound_last fs f, picked_one pick fs f, p.packs.packed start so_far.es so_far.packed, p.counted so_far.es so_far.counted)

  -- at the end of a file these are all
  pub frames_all : (h : HeaderSpec) (fs : List FrameSpec) (before now : Counts) (packer : Packing D S H) (p : PackedFrames d pick start fs before packer) → now ≡ before → Packed pick h now (Some (fully (fs, None))) (written_file h p.es)
  frames_all h fs before now packer p stays frames is = grind (arith, all_sound fs frames is, p.are ((all_sound fs frames is).1))

  -- the last block, of a file without a fault
  pub last_front : (fs all : List FrameSpec) (counts : Counts) (packer : Packing D S H) (taken : Option (List ℕ)) (p : PackedFrames d pick start fs counts packer) → IsFront (d.taken start) taken (written_entities p.es) → Some (fully (fs, None)) ≡ Some (all, None)
      → IsFront (d.taken start) taken (written_entities (filter pick (stored_entities all)))
  last_front fs all counts packer taken p front is = grind (arith, all_sound fs all is, d.taken start, p.are ((all_sound fs all is).1))

-- ---- of a visitor that packs

module _ {V D S H : Type 0} (d : drain.Ghosts D) (to : V → Packing D S H) (counts : V → Counts) (pick : V → Pick) (number : V → ℕ) (took : Takes V)
    (is : (old new : V) (f : FrameSpec) → took old f new → PacksNext d (pick old) (to old) (to new) (counts old) (counts new) f × (pick new ≡ pick old) × (number new ≡ number old))
    (before : V) (chosen : Pick) (picks : pick before ≡ chosen) where
  pub record HasWritten (fs : List FrameSpec) (now : V) : Type 0 where
    pub frames : PackedFrames d chosen (to before).drain fs (counts now) (to now)
    pub same : pick now ≡ chosen
    pub number_same : number now ≡ number before
    pub drain_counts : d.failures (to before).drain ≤ d.failures (to now).drain

  pub has_written : (fs : List FrameSpec) (now : V) → Visited took before fs now → HasPacked d (to before).drain [] (to before) → counts before ≡ counts_of [] → HasWritten fs now
  has_written fs now visited none zero = visited_to took HasWritten (λ gone f mid last so_far one.
      let h = is mid last f one in record {
        frames = frames_more d chosen (to before).drain gone f (counts mid) (counts last) (to mid) (to last) so_far.frames (subst (λ (p : Pick). PacksUnjudgedFrame d p (to mid) (to last) (counts mid) (counts last) f) so_far.same h.0.packs);
        same = h.1 ∙ so_far.same;
        number_same = h.2 ∙ so_far.number_same;
        drain_counts = omega (arith, so_far.drain_counts, h.0.keeps.drain_kept.counts);
      }) fs [] before now record { frames = record { es = []; are = λ sound. refl; packed = none; counted = zero }; same = picks; number_same = refl; drain_counts = omega arith } visited

  module _ (failed : StopRule V) (known : Option Verdict) (read : Type 0) (now : V) (stop : Stop) (fails : (mid : V) (f : FrameSpec) (s : Stop) → failed mid f now s → FailsAtNext d (number mid) (pick mid) (to mid) (to now) f s) (stopped : StopsVisit took failed known read before now stop) (none : HasPacked d (to before).drain [] (to before)) (zero : counts before ≡ counts_of []) where
    pub front_written : (all : List FrameSpec) → fully_known known ≡ Some (all, None) → IsFront (d.taken (to before).drain) (d.taken (to now).drain) (written_entities (filter chosen (stored_entities all)))
    front_written all known_is = of stopped where
      of : StopsVisit took failed known read before now stop → IsFront (d.taken (to before).drain) (d.taken (to now).drain) (written_entities (filter chosen (stored_entities all)))
      of (inl s) =
          let h = (has_written s.frames now s.visited none zero).frames in
          front_before d chosen (to before).drain known s.rest s.frames all h.es (d.taken (to now).drain) s.gone h.are (λ sound. begins_packed d (to before).drain h.es (to now) h.packed) known_is
      of (inr s) =
          let w = has_written s.frames s.mid s.visited none zero in
          let h = w.frames in
          let f = s.frame in
          let failing = subst (λ (p : Pick). FailsAtFrame d (number s.mid) p (to s.mid) (to now) f stop) w.same (fails s.mid f stop s.failing).fails in
          front_before d chosen (to before).drain known s.rest (s.frames ++ f ∷ []) all (h.es ++ picked_in chosen (payload_of f)) (d.taken (to now).drain) (gone_more known (with_first_known f s.rest) s.rest s.frames f s.gone refl)
          (λ sound. ap (λ (l : List EntitySpec). l ++ picked_in chosen (payload_of f)) (h.are (sound_first_ones s.frames (f ∷ []) sound)) ∙ sym (picked_one chosen s.frames f))
          (λ sound. (failing.begins (sound_last s.frames f sound)).begun (to before).drain h.es h.packed) known_is

    pub stops_written : (first : ℕ) → first ≤ d.failures (to before).drain → StopsUnjudged (number before) (fully_known known) read (HasRisen first (d.failures (to now).drain)) stop
    stops_written first counted = stops_visited number took (λ old new f one. (is old new f one).2) failed known read _ before now stop (λ fs mid f s visited failing.
        let counted_here : first ≤ d.failures (to mid).drain = omega (arith, counted, (has_written fs mid visited none zero).drain_counts) in
        fails_in_last_frame (number mid) _ _ _ f s counted_here (fails mid f s failing).fails.cause) stopped

    pub counts_written : d.failures (to before).drain ≤ d.failures (to now).drain
    counts_written = of stopped where
      of : StopsVisit took failed known read before now stop → d.failures (to before).drain ≤ d.failures (to now).drain
      of (inl s) = (has_written s.frames now s.visited none zero).drain_counts
      of (inr s) = omega (arith, (has_written s.frames s.mid s.visited none zero).drain_counts, (fails s.mid s.frame stop s.failing).keeps.drain_kept.counts)

  -- what the feed gave has a fault
  pub faulty_written : {F : Type 0} (f : feed.Ghosts F) (first last : F) (failed : StopRule V) (now : V) (stop : Stop) (fails : (mid : V) (f : FrameSpec) (s : Stop) → failed mid f now s → FailsAtNext d (number mid) (pick mid) (to mid) (to now) f s)
      → HasPacked d (to before).drain [] (to before) → counts before ≡ counts_of [] → RefusesRest f first last (RefusesVisit took failed (λ b. judged_known false 0 (Some b)) before now) stop → ReadsFaulty f first last stop
  faulty_written f first last failed now stop fails none zero rest =
      faulty_visited number took (λ old new f one. (is old new f one).2) f first last failed (HasRisen (d.failures (to before).drain) (d.failures (to now).drain)) before now stop (λ fs mid f s visited failing.
      fails_in_last_frame (number mid) _ _ _ f s (has_written fs mid visited none zero).drain_counts (fails mid f s failing).fails.cause) rest

-- a packer finds no fault
pub faulty_never : {F : Type 0} (f : feed.Ghosts F) (old new : F) (before now : ℕ) (s : Stop) → IsPackStop before now s → ReadsFaulty f old new s
faulty_never f old new before now s h6 = grind arith

-- the last block could not be written
pub stops_last : (number first before now : ℕ) (known : Option Verdict) (read : Type 0) (s : Stop) → first ≤ before → IsPackStop before now s → StopsUnjudged number known read (HasRisen first now) s
stops_last number first before now known read s h7 h8 = grind arith
