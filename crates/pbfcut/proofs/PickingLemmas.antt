-- Entities that are picked, on their way into the drain.
use Rattle.std.proofs.Common.{◌≡◌, ℕ, ◌≤◌, List, [], ◌∷◌, ◌++◌, append_assoc, append-nil, true, Option, None, subst, sym, ap, ap₂, ◌∙◌, arith}
use Rattle.std.proofs.lemmas.List.Elements.{filter-append}
use Rattle.std.specs.List.{AllByRecursion, filter}
use Rattle.pbf_wire.specs.declared.fault.Fault.{Fault}
use Rattle.osm_entity.specs.Entity.{EntitySpec}
use Rattle.osm_entity.specs.Ranges.{EntityFits}
use Rattle.pbf_header.specs.Header.{HeaderSpec}
use Rattle.pbf_frame.specs.declared.stop.Stop.{Stop}
use Rattle.pbf_frame.specs.declared.device.Drain as drain
use Rattle.pbf_frame.specs.Devices.{append, HasRisen, IsFront}
use Rattle.pbf_frame.specs.Transfers.{Added}
use Rattle.pbf_frame.specs.Frames.{FrameSpec}
use Rattle.pbf_frame.specs.Verdict.{Verdict}
use Rattle.pbf_frame.proofs.Beginnings.{front_whole, front_longer, front_then}
use Rattle.pbf_frame.proofs.Passed.{added_none, added_more, added_same}
use Rattle.osm_pack.specs.Cuts.{header_frame, written_file, written_entities, then_pending, then_written, at_end, pending_after, written_after}
use Rattle.osm_pack.specs.Packing.{Packing, Pending}
use Rattle.osm_pack.specs.Stops.{IsPackStop}
use Rattle.osm_pack.proofs.CutLemmas.{push_keeps, kept_none}
use Rattle.osm_pack.proofs.OpenLemmas.{alone}
use Rattle.osm_pack.proofs.RunLemmas.{run_keeps, run_kept, run_ends, pending_push, written_push}
use Rattle.std.proofs.lemmas.Grind.{flat_map-append}
use Rattle.pbf_wire.proofs.AllLemmas.{all_push}
use Rattle.pbf_pass.specs.Counting.{stored_entities, frame_entities}
use Rattle.pbf_pass.proofs.CountLemmas.{stored_one}
use Rattle.pbf_block.specs.declared.kinds.Kinds.{Kinds}
use Rattle.pbf_block.specs.Kinds.{is_among}
use Rattle.pbf_block.specs.PrimitiveBlock.{entities}
use Rattle.pbf_block.proofs.KindLemmas.{filter_every}
use Rattle.pbfcut.specs.Pick.{Pick, HasPacked, BeginsAll, BeginsPacking, StopsPacking, StopsAmong}
use Rattle.pbf_pass.specs.Stops.{Caused, Only, unchanged}

-- what is picked of the frames
pub picked_one : (pick : Pick) (fs : List FrameSpec) (f : FrameSpec) → filter pick (stored_entities (fs ++ f ∷ [])) ≡ filter pick (stored_entities fs) ++ filter pick (frame_entities f)
picked_one pick fs f = ap (λ (l : List EntitySpec). filter pick l) (stored_one fs f) ∙ filter-append pick (stored_entities fs) (frame_entities f)

pub front_of : (pick : Pick) (start now : Option (List ℕ)) (fs rest : List FrameSpec) (all : Verdict) → all.0 ≡ fs ++ rest → BeginsAll start (filter pick (stored_entities fs)) now → IsFront start now (written_entities (filter pick (stored_entities all.0)))
front_of pick start now fs rest all split begins = grind (arith, filter-append pick (stored_entities fs) (stored_entities rest), flat_map-append frame_entities fs rest, begins (filter pick (stored_entities rest)))

-- of runs of all kinds the same are picked as of all entities
pub picked_runs : (pick : Pick) (kinds : Kinds) (es : List EntitySpec) (at here : ℕ) (m n : List ℕ) → ((e : EntitySpec) → is_among kinds e ≡ true) → (n ≡ m) × (here ≡ at) → es ≡ filter (is_among kinds) (entities here n) → filter pick es ≡ filter pick (entities at m)
picked_runs pick kinds es at here m n every is are = ap (filter pick) (are ∙ filter_every (is_among kinds) every (entities here n)) ∙ ap₂ (λ (at : ℕ) (m : List ℕ). filter pick (entities at m)) is.1 is.0

module _ {D S H : Type 0} (d : drain.Ghosts D) where
  -- one entity more is packed
  pub packed_push : (start : D) (done : List EntitySpec) (e : EntitySpec) (old new : Packing D S H) → HasPacked d start done old → EntityFits e
      → ((es : List EntitySpec) → Pending old es → Pending new (then_pending es e)) → ((es : List EntitySpec) → Pending old es → Added d old.drain (then_written es e) new.drain) → HasPacked d start (done ++ e ∷ []) new
  packed_push start done e old new h fits p t = record {
    fits = all_push EntityFits done e h.fits fits;
    added = added_same d start new.drain _ _ (sym (written_push [] done e)) (added_more d start old.drain new.drain (written_after [] done) (then_written (pending_after [] done) e) h.added (t (pending_after [] done) h.pending));
    pending = subst (λ es. Pending new es) (sym (pending_push [] done e)) (p (pending_after [] done) h.pending);
  }

  -- what went out begins what is written for all that come
  pub begins_packed : (start : D) (done : List EntitySpec) (packer : Packing D S H) → HasPacked d start done packer → BeginsAll (d.taken start) done (d.taken packer.drain)
  begins_packed start done packer h rest =
      subst (λ (l : List ℕ). IsFront (d.taken start) (d.taken packer.drain) l) (run_keeps [] done rest kept_none h.fits)
      (front_longer (d.taken start) (d.taken packer.drain) (written_after [] done) (written_entities (pending_after [] done ++ rest)) (front_whole (d.taken start) (d.taken packer.drain) (written_after [] done) h.added.told))

  -- the same if a push stopped
  pub begins_push : (start : D) (done : List EntitySpec) (e : EntitySpec) (packer new : Packing D S H) → HasPacked d start done packer → EntityFits e
      → ((es : List EntitySpec) → Pending packer es → IsFront (d.taken packer.drain) (d.taken new.drain) (then_written es e)) → (rest : List EntitySpec) → IsFront (d.taken start) (d.taken new.drain) (written_entities (done ++ e ∷ rest))
  begins_push start done e packer new h fits f rest =
      let es = pending_after [] done in
      let all : (written_after [] done ++ then_written es e) ++ written_entities (then_pending es e ++ rest) ≡ written_entities (done ++ e ∷ rest) =
      append_assoc (written_after [] done) (then_written es e) _
      ∙ (ap (λ (l : List ℕ). written_after [] done ++ l) (push_keeps es e rest (run_kept [] done kept_none h.fits) (alone e fits)) ∙ run_keeps [] done (e ∷ rest) kept_none h.fits) in
      subst (λ (l : List ℕ). IsFront (d.taken start) (d.taken new.drain) l) all
      (front_longer (d.taken start) (d.taken new.drain) (written_after [] done ++ then_written es e) (written_entities (then_pending es e ++ rest))
      (front_then (d.taken start) (d.taken packer.drain) (d.taken new.drain) (written_after [] done) (then_written es e) h.added.told (f es h.pending)))

  -- ---- in a loop over entities, of which some are gone

  pub none_gone : (start : D) (done : List EntitySpec) (packer : Packing D S H) → HasPacked d start done packer → HasPacked d start (done ++ []) packer
  none_gone start done packer h = subst (λ (l : List EntitySpec). HasPacked d start l packer) (sym (append-nil done)) h

  -- nothing of them went out
  pub begins_none : (es : List EntitySpec) (old new : Packing D S H) → d.taken new.drain ≡ d.taken old.drain → BeginsPacking d old new es
  begins_none es old new same = grind (arith, d.taken old.drain, append_assoc, begins_packed)

  -- ---- in a loop over frames

  pub none_packed : (packer : Packing D S H) → Pending packer [] → HasPacked d packer.drain [] packer
  none_packed packer p = record { fits = tt; added = added_none d packer.drain; pending = p }

  -- the block that is closed at the end
  pub ended : (start : D) (es : List EntitySpec) (packer new : Packing D S H) → HasPacked d start es packer → ((es : List EntitySpec) → Pending packer es → Added d packer.drain (at_end es) new.drain) → Added d start (written_entities es) new.drain
  ended start es packer new h w = grind (arith, added_same d start new.drain, run_ends es h.fits, added_more d start packer.drain new.drain (written_after [] es) (at_end (pending_after [] es)) h.added (w (pending_after [] es) h.pending), w (pending_after [] es) h.pending)

  pub end_front : (start : D) (es : List EntitySpec) (packer new : Packing D S H) → HasPacked d start es packer → ((es : List EntitySpec) → Pending packer es → IsFront (d.taken packer.drain) (d.taken new.drain) (at_end es))
      → IsFront (d.taken start) (d.taken new.drain) (written_entities es)
  end_front start es packer new h f = grind (arith, run_ends es h.fits, front_then (d.taken start) (d.taken packer.drain) (d.taken new.drain) (written_after [] es) (at_end (pending_after [] es)) h.added.told (f (pending_after [] es) h.pending))

-- the header first, and then what begins all entities
pub behind_header : (h : HeaderSpec) (old start now : Option (List ℕ)) (es : List EntitySpec) → start ≡ append old (header_frame h) → IsFront start now (written_entities es) → IsFront old now (written_file h es)
behind_header h old start now es e f = front_then old start now (header_frame h) (written_entities es) e f

pub header_alone : (h : HeaderSpec) (old now : Option (List ℕ)) (es : List EntitySpec) → IsFront old now (header_frame h) → IsFront old now (written_file h es)
header_alone h old now es f = front_longer old now (header_frame h) (written_entities es) f

pub whole_file : {D : Type 0} (d : drain.Ghosts D) (h : HeaderSpec) (old start new : D) (es : List EntitySpec) → Added d old (header_frame h) start → Added d start (written_entities es) new → Added d old (written_file h es) new
whole_file d h old start new es first then = added_more d old start new (header_frame h) (written_entities es) first then

-- a packer's stop is one of the entities that are packed
pub pack_stop : (first before now : ℕ) (changed : ℕ → Type 0) (s : Stop) → first ≤ before → IsPackStop before now s → Caused (λ e. ⊥) ⊥ (HasRisen first now) changed s
pack_stop first before now changed s h5 h6 = grind arith

-- if all of them can be written, it is one of a payload without a fault
pub stops_judged : {D S H : Type 0} (d : drain.Ghosts D) (number : ℕ) (pick : Pick) (fault : Option Fault) (es all : List EntitySpec) (old new : Packing D S H) (s : Stop) → fault ≡ None → AllByRecursion EntityFits es → filter pick es ≡ all
    → StopsAmong d number pick es old new s → StopsPacking d fault all old new s
stops_judged d number pick fault es all old new s sound fits same stops = grind arith

-- a failure of the last frame is one of the loop
pub fails_since : (fault : Option Fault) (first before now : ℕ) (s : Stop) → first ≤ before → Caused (Only fault) ⊥ (HasRisen before now) unchanged s → Caused (Only fault) ⊥ (HasRisen first now) unchanged s
fails_since fault first before now s h5 h6 = grind arith
