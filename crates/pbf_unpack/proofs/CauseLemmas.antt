-- Why a packing drain takes nothing more.
use Rattle.std.proofs.Common.{◌≡◌, ℕ, ◌+◌, ◌≤◌, List, ◌++◌, length, take, Some, refl, subst, length-append, arith}
use Rattle.pbf_frame.specs.declared.device.Drain as drain
use Rattle.pbf_frame.specs.declared.header.TheConstants.{HEADER_LIMIT, LARGEST_SIZE}
use Rattle.pbf_unpack.specs.declared.below.DrainState.{DrainState}
use Rattle.pbf_unpack.specs.declared.below.DrainState.TheVariants.{Taking, Failed, Unfit, Refused}
use Rattle.pbf_unpack.specs.declared.drain.PackedDrain.{PackedDrain}
use Rattle.pbf_unpack.specs.declared.frame.Part.{Part}
use Rattle.pbf_unpack.specs.declared.frame.Part.TheVariants.{Prefix, Header, Blob}
use Rattle.pbf_unpack.specs.declared.frame.RawFrame.{RawFrame}
use Rattle.pbf_unpack.specs.Packing.{frame_held, taken_raw, HasCause, TookNoRawFile}
use Rattle.pbf_unpack.specs.RawFrames.{IsCutRaw, IsRawFile}
use Rattle.pbf_unpack.specs.Unpacked.{unpacked}
use Rattle.pbf_unpack.proofs.GoingOn.{no_cut_file, no_raw_file}

-- a frame that is held is no longer than any
held_short : (r : RawFrame) → length (frame_held r) ≤ HEADER_LIMIT + 3 + LARGEST_SIZE
held_short r = (let blob = short r.part refl in omega (arith, blob, r.front_held, r.front.ok.0, r.blob.ok.0, length-append r.front.items r.blob.items)) where
  short : (p : Part) → r.part ≡ p → length r.blob.items ≤ LARGEST_SIZE
  short Prefix is = omega (arith, r.blob_last (λ e. (let bad : ⊥ = cc in bad)), r.blob.ok.0)
  short Header is = omega (arith, r.blob_last (λ e. (let bad : ⊥ = cc in bad)), r.blob.ok.0)
  short Blob is = omega (arith, r.blob_held is, r.blob.ok.0)

module _ {D : Type 0} {d : drain.Ghosts D} (p : PackedDrain D d) where
  -- what was taken, if the drain below reports it
  taken_is : (packed raw : List ℕ) → d.taken p.below.drain ≡ Some packed → taken_raw p ≡ Some raw → raw ≡ unpacked (take p.below.place packed) ++ frame_held p.frame
  taken_is packed raw known is = grind arith

  known_of : (raw : List ℕ) → taken_raw p ≡ Some raw → (packed : List ℕ) × (d.taken p.below.drain ≡ Some packed)
  known_of raw is = grind arith

  pub has_cause : (state : DrainState) → p.below.state ≡ state → HasCause p state
  has_cause Taking is = tt
  has_cause Failed is = p.below.failed is
  has_cause Unfit is = λ packed raw rest known taken file.
      let whole = p.below.whole packed known in
      let past = no_raw_file (unpacked (take p.below.place packed)) (frame_held p.frame) rest p.below.place whole.goes_on (p.unfit is) (subst (λ (l : List ℕ). IsRawFile (l ++ rest)) (taken_is packed raw known taken) file) in
      omega (arith, past, whole.within, held_short p.frame)
  has_cause Refused is = tt

  -- it holds a frame that isn't whole
  pub is_cut : IsCutRaw (frame_held p.frame) → TookNoRawFile p
  is_cut none = λ raw taken file.
      let (packed, known) = known_of raw taken in
      no_cut_file (unpacked (take p.below.place packed)) (frame_held p.frame) (p.below.whole packed known).goes_on none (subst IsRawFile (taken_is packed raw known taken) file)
