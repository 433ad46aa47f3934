-- What is read of a number, if the message has one slot for its field.
use Rattle.std.proofs.Common.{◌≡◌, ◌==◌, true, false, ℕ, ◌^◌, ◌<◌, List, [], ◌∷◌, ◌++◌, length, Option, Some, None, refl, sym, ap, subst, ◌∙◌}
use Rattle.std.specs.Prelude.{if◌then◌else◌}
use Rattle.std.specs.List.{flat_map, last_or, AllByRecursion}
use Rattle.std.specs.Option.{option_to_list}
use Rattle.std.proofs.lemmas.List.{append-nil}
use Rattle.pbf_wire.specs.Faults.{fields_in, in_last}
use Rattle.pbf_wire.specs.Message.{Slot, Scalar, Column, Each, SlotFits, message, scalars_at}
use Rattle.pbf_wire.specs.Reading.{last_number}
use Rattle.pbf_wire.specs.declared.fault.Fault.{Fault}
use Rattle.pbf_wire.proofs.MessageLemmas.{last_written}
use Rattle.pbf_wire.proofs.NoFaultLemmas.{in_last_written}
use Rattle.pbf_wire.proofs.SlotLemmas.{last_text_of}

-- what each slot for it has
abbrev pub numbers_for : ℕ → List Slot → List (Option ℕ)
numbers_for k [] = []
numbers_for k (Scalar number value ∷ slots) = if number == k then value ∷ numbers_for k slots else numbers_for k slots
numbers_for k (_ ∷ slots) = numbers_for k slots

pub all_given : (k : ℕ) (slots : List Slot) → flat_map (scalars_at k) slots ≡ flat_map option_to_list (numbers_for k slots)
all_given k [] = refl
all_given k (Scalar number None ∷ slots) =
    elim (number == k) as (λ b. flat_map (scalars_at k) slots ≡ flat_map option_to_list (if b then None ∷ numbers_for k slots else numbers_for k slots)) [ true ↦ all_given k slots | false ↦ all_given k slots ]
all_given k (Scalar number (Some v) ∷ slots) =
    elim (number == k) as (λ b. (if b then v ∷ [] else []) ++ flat_map (scalars_at k) slots ≡ flat_map option_to_list (if b then Some v ∷ numbers_for k slots else numbers_for k slots))
    [ true ↦ ap (λ (vs : List ℕ). v ∷ vs) (all_given k slots) | false ↦ all_given k slots ]
all_given k (Column number values ∷ slots) = all_given k slots
all_given k (Each number messages ∷ slots) = all_given k slots

module _ (at : ℕ) (slots : List Slot) (fits : AllByRecursion SlotFits slots) (room : length (message slots) < 2 ^ 64) (k : ℕ) (value : Option ℕ) (one : numbers_for k slots ≡ value ∷ []) where
  given : flat_map (scalars_at k) slots ≡ option_to_list value ++ []
  given = all_given k slots ∙ ap (flat_map option_to_list) one

  pub number_read : last_number k (fields_in at (message slots)) ≡ value
  number_read = last_written k at slots fits room ∙ ap (last_or None) given ∙ last_text_of value

  pub number_quiet : (f : ℕ → ℕ → List Fault) → AllByRecursion (λ v. (place : ℕ) → f place v ≡ []) (option_to_list value) → in_last k f (fields_in at (message slots)) ≡ []
  number_quiet f none = in_last_written k f at slots fits room (subst (λ (vs : List ℕ). AllByRecursion (λ v. (place : ℕ) → f place v ≡ []) vs) (sym (given ∙ append-nil _)) none)
