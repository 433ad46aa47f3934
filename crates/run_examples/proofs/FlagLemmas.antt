-- What a command reads of a flag that wasn't typed, or that it doesn't have.
use Rattle.std.proofs.Common.{◌≡◌, List, Bool, true, false, Option, Some, None, codes, refl, ap, sym, ◌∙◌}
use Rattle.std.specs.Option.{option_map_or}
use Rattle.std.specs.Str.{bytes_eq}
use Rattle.clap.specs.Words.{Row, Text, one_of}
use Rattle.pbfcut_cli.specs.Words.{ReadsFlag}

pub true_false : true ≡ false → ⊥
true_false e = cc

pub none_some : {A : Type 0} {a : A} → ◌≡◌ {A = Option A} None (Some a) → ⊥
none_some e = cc

abbrev says_false : Option Text → Bool
says_false value = option_map_or (λ text. bytes_eq text (codes "false")) value false

pub reads_off : (id : Text) (rows : List Row) → one_of id rows ≡ Some (codes "false") → ReadsFlag false id rows
reads_off id rows is = (λ e. refl, λ e. absurd (true_false (ap says_false (sym is ∙ e))), λ e. refl)

pub reads_absent : (id : Text) (rows : List Row) → one_of id rows ≡ None → ReadsFlag false id rows
reads_absent id rows is = (λ e. refl, λ e. absurd (none_some (sym is ∙ e)), λ e. refl)

-- a flag that was typed
abbrev says_true : Option Text → Bool
says_true value = option_map_or (λ text. bytes_eq text (codes "true")) value false

pub reads_on : (id : Text) (rows : List Row) → one_of id rows ≡ Some (codes "true") → ReadsFlag true id rows
reads_on id rows is = (λ e. absurd (none_some (sym e ∙ is)), λ e. refl, λ e. absurd (true_false (ap says_true (sym is ∙ e))))
