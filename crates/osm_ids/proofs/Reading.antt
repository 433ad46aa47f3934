-- How far one page has been read.
use Rattle.std.proofs.Common.{◌≡◌, ℕ, ◌+◌, ◌^◌, ◌%◌, List, [], ◌∷◌, ◌++◌, append_assoc, length, take, ℤ, pos, ◌+ℤ◌, refl, sym, ap, subst, ◌∙◌, arith, FitsSigned, w64, to_z, of_z}
use Rattle.std.proofs.lemmas.Int.{to_z_pos, to_z-of_z}
use Rattle.std.proofs.lemmas.Bool.{cases_lt}
use Rattle.std.proofs.lemmas.List.{append-nil}
use Rattle.std.proofs.Math.Seq.{take-append-add}
use Rattle.pbf_wire.specs.Packed.{last_from}
use Rattle.osm_ids.specs.Pages.{AllFit, ReadsPage, raised}
use Rattle.osm_ids.proofs.Places.{last_push}

-- ---- a sum that fits isn't wrapped

pub wrapped_sum : (last low : ℤ) (d : ℕ) (r : ℤ) → last ≡ low → FitsSigned w64 last → r ≡ to_z w64 ((of_z w64 last + d) % 2 ^ 64) → FitsSigned w64 (low +ℤ pos d) → to_z w64 (of_z w64 r) ≡ low +ℤ pos d
wrapped_sum last low d r e f is g = grind (arith, to_z-of_z w64 (last +ℤ pos d) (subst (λ z. FitsSigned w64 (z +ℤ pos d)) (sym e) g), to_z_pos, cases_lt)

-- ---- ids that are read one by one

pub reads_start : (first : ℤ) (numbers : List ℕ) (held : List ℤ) → AllFit (raised first numbers) → held ≡ first ∷ [] → ReadsPage (first ∷ raised first numbers) held numbers
reads_start first numbers held fits e = subst (λ (l : List ℤ). ReadsPage (first ∷ raised first numbers) l numbers) (sym e) (record { fits = fits; whole = refl })

-- one more is in place
pub reads_next : (all held next : List ℤ) (n : ℕ) (more : List ℕ) (sum : ℤ) → ReadsPage all held (n ∷ more) → next ≡ held ++ sum ∷ [] → (FitsSigned w64 (last_from (pos 0) held +ℤ pos n) → sum ≡ last_from (pos 0) held +ℤ pos n) → ReadsPage all next more
reads_next all held next n more sum r e is = grind (arith, is r.fits.0, last_push (pos 0) held sum, append_assoc held (sum ∷ []) (raised sum more))

-- a run of them
pub front_left : (n k : ℕ) (run left : List ℕ) → n ≡ length run + k → take n (run ++ left) ≡ run ++ take k left
front_left n k run left e = ap (λ m. take m (run ++ left)) e ∙ take-append-add run left k

-- all are read
pub reads_none : (all held : List ℤ) (numbers : List ℕ) → ReadsPage all held numbers → numbers ≡ [] → held ≡ all
reads_none all held numbers r none = sym (r.whole ∙ ap (λ (ns : List ℕ). held ++ raised (last_from (pos 0) held) ns) none ∙ append-nil held)
