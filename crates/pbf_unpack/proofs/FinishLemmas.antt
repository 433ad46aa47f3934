-- A packing drain that holds nothing has given all to the drain below.
use Rattle.std.proofs.Common.{◌≡◌, ℕ, List, [], ◌++◌, take, Option, Some, None, refl, sym, ap, subst, ◌∙◌, arith}
use Rattle.std.proofs.lemmas.List.{append-nil, take_all}
use Rattle.pbf_frame.specs.declared.device.Drain as drain
use Rattle.pbf_unpack.specs.declared.below.DrainState.{DrainState}
use Rattle.pbf_unpack.specs.declared.below.DrainState.TheVariants.{Taking}
use Rattle.pbf_unpack.specs.declared.drain.PackedDrain.{PackedDrain}
use Rattle.pbf_unpack.specs.DrainStates.{HasWhole, IsPackedAs}
use Rattle.pbf_unpack.specs.Packing.{frame_held, taken_raw, GaveAll, HasCompressed, PacksTo, TookSame}
use Rattle.pbf_unpack.specs.Unpacked.{as_they_stand, unpacked}
use Rattle.pbf_unpack.proofs.PackingLemmas.{packed_means, raw_in}

-- what whole frames mean, and nothing that is held
gave_told : (known : Option (List ℕ)) (place : ℕ) (held raw : List ℕ) → ((taken : List ℕ) → known ≡ Some taken → HasWhole Taking place taken) → held ≡ [] → raw_in place held known ≡ Some raw → PacksTo (λ packed. known ≡ Some packed) raw
gave_told None place held raw has empty is = let bad : ⊥ = cc in absurd bad
gave_told (Some packed) place held raw has empty is =
    let whole = has packed refl in
    let all : take place packed ≡ packed = take_all place packed (omega (arith, whole.exact refl)) in
    let same : unpacked (take place packed) ++ held ≡ raw = cc in
    let is_raw : unpacked packed ≡ raw = ap unpacked (sym all) ∙ sym (append-nil (unpacked (take place packed))) ∙ ap (λ (l : List ℕ). unpacked (take place packed) ++ l) (sym empty) ∙ same in
    let before : IsPackedAs (unpacked packed) packed = subst (λ (l : List ℕ). IsPackedAs (unpacked l) l) all whole.whole in
    record { packed = packed; has_them = refl; means = packed_means (unpacked packed) packed before ∙ ap as_they_stand is_raw }

module _ {D : Type 0} {d : drain.Ghosts D} (old new : PackedDrain D d) where
  gave_logged : frame_held new.frame ≡ [] → (log : ℕ) (raw : List ℕ) → HasCompressed new log raw → PacksTo (d.has_taken new.below.drain log) raw
  gave_logged empty log raw has = grind (arith, append-nil has.done, packed_means has.done has.packed has.means)

  pub gave_all : taken_raw new ≡ taken_raw old → TookSame old new → frame_held new.frame ≡ [] → new.below.state ≡ Taking → GaveAll old new
  gave_all same logged empty taking = record {
    told = λ raw is.
        gave_told (d.taken new.below.drain) new.below.place (frame_held new.frame) raw
        (λ taken known. subst (λ (x : DrainState). HasWhole x new.below.place taken) taking (new.below.whole taken known)) empty (same ∙ is);
    logged = λ log raw has. gave_logged empty log raw (logged log raw has);
  }
