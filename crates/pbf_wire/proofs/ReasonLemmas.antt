-- The numbers of reasons rise as the reasons are declared, so to compare reasons by their places is to compare them by their numbers.
use Rattle.std.proofs.Common.{◌≡◌, ℕ, ◌+◌, [], ◌∷◌, refl, ap₂, ◌∙◌, arith}
use Rattle.std.specs.Prelude.{nat_lt, if◌then◌else◌}
use Rattle.std.proofs.lemmas.Bool.Decides.{nat_tests}
use denote.Enum.Declared.{tag_of}
use Rattle.pbf_wire.specs.contracts.fault.Reason.{the_type}
use Rattle.pbf_wire.specs.declared.fault.Fault.{Fault}
use Rattle.pbf_wire.specs.declared.fault.Reason.{Reason}
use Rattle.pbf_wire.specs.declared.fault.Reason.TheVariants.{VarintCut}
use Rattle.pbf_wire.specs.Least.{fault_rank, is_less}
use Rattle.pbf_wire.specs.Reasons.{reason_number, missing_field}

-- the number of the reason at this place
number_at : ℕ → ℕ
number_at place =
    if nat_lt place 26 then place + 1
    else (if nat_lt place 28 then place + 4
    else (if nat_lt place 32 then place + 12
    else (if nat_lt place 38 then place + 18 else place + 19)))

rising : (p q : ℕ) → nat_lt (number_at p) (number_at q) ≡ nat_lt p q
unfolding number_at
rising p q = grind (arith, nat_tests)

numbered : (r : Reason) → reason_number r ≡ number_at (tag_of the_type r)
unfolding number_at
numbered VarintCut = refl
numbered r = refl

numbers_rise : (r s : Reason) → nat_lt (reason_number r) (reason_number s) ≡ nat_lt (tag_of the_type r) (tag_of the_type s)
numbers_rise r s = ap₂ nat_lt (numbered r) (numbered s) ∙ rising (tag_of the_type r) (tag_of the_type s)

pub by_number : (f g : Fault) → is_less (fault_rank f) (fault_rank g) ≡ is_less (f.offset ∷ reason_number f.reason ∷ missing_field f.reason ∷ []) (g.offset ∷ reason_number g.reason ∷ missing_field g.reason ∷ [])
by_number f g = grind (arith, numbers_rise)
