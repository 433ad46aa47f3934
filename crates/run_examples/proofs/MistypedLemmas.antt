-- The lines of the command lines that are no command.
use Rattle.std.proofs.Common.{arith, ◌≡◌, inl, inr, List, [], ◌∷◌, Some, None, refl, subst}
use Rattle.std.specs.String.{string_bytes}
use Rattle.clap.specs.Words.{IsAmong, Kinds, Text, fault_of}
use Rattle.clap.specs.declared.error.kind.ErrorKind.{ErrorKind}
use Rattle.clap.specs.declared.error.kind.ErrorKind.TheVariants.{ArgumentConflict, DisplayHelp, DisplayVersion, UnknownArgument}
use Rattle.pbfcut_cli.specs.Endings.{ending_status}
use Rattle.pbfcut_cli.specs.Joined.{normalized}
use Rattle.pbfcut_cli.specs.Words.{IsHelp, program_app}
use Rattle.pbfcut_cli.specs.declared.endings.Ending.{Ending}
use Rattle.pbfcut_cli.specs.declared.programs.Program.TheVariants.{Pbfcutz}
use Rattle.pbfcut_cli.specs.declared.words.Command.{Command}
use Rattle.pbfcut_cli.specs.declared.words.Command.TheVariants.{Help}
use Rattle.pbfcut_program.specs.Events.{Event, printed}
use Rattle.pbfcut_program.specs.Program.{Does, IsMeant, IsRun, manner_in}
use Rattle.pbfcut_program.specs.Settling.{IsStill, RunSettles}
use Rattle.pbfcut_program.specs.declared.host.Screen.TheVariants.{Output}
use Rattle.run_examples.proofs.Computing.{runs_on_literals}
use Rattle.run_examples.specs.Mistyped.{IsRefused, asking, misplaced, misspelt, three_files, two_boxes}

no_zero : (how : Ending) → 0 ≡ ending_status how → ⊥
no_zero how e = grind arith

some_none : (kind : ErrorKind) (kinds : Kinds) → kinds ≡ kind ∷ [] → kinds ≡ [] → ⊥
some_none kind kinds is none = cc

only_among : (k kind : ErrorKind) (kinds : Kinds) → kinds ≡ kind ∷ [] → IsAmong k kinds → k ≡ kind
only_among k kind kinds is among = of (subst (λ ks. IsAmong k ks) is among)
  where
    of : IsAmong k (kind ∷ []) → k ≡ kind
    of (inl same) = same
    of (inr none) = absurd none

-- ---- words that mean nothing

module _ (words : List Text) (kind : ErrorKind) (found : fault_of (program_app Pbfcutz) (normalized words) ≡ kind ∷ []) (no_help : DisplayHelp ≡ kind → ⊥) (no_version : DisplayVersion ≡ kind → ⊥) where
  no_command : (command : Command) → IsMeant Pbfcutz words command → ⊥
  no_command command (inl r) = some_none kind _ found r.0
  no_command command (inr (inl help, is)) = no_help (only_among DisplayHelp kind _ found help)
  no_command command (inr (inr version, is)) = no_version (only_among DisplayVersion kind _ found version)

  no_run : (events : List Event) → IsRun Pbfcutz words events 0 → ⊥
  no_run events (inl (z, (command, meant, d))) = no_command command meant
  no_run events (inr f) = no_zero f.how f.status_is

  no_change : (events : List Event) → RunSettles Pbfcutz words (Some []) (Some events) → IsStill (Some []) (Some events)
  no_change events (inl still) = still
  no_change events (inr (command, meant, settles)) = absurd (no_command command meant)

  refused : IsRefused words kind
  refused = record { found = found; fails = no_run; still = no_change }

unknown_help : DisplayHelp ≡ UnknownArgument → ⊥
unknown_help e = cc

unknown_version : DisplayVersion ≡ UnknownArgument → ⊥
unknown_version e = cc

conflict_help : DisplayHelp ≡ ArgumentConflict → ⊥
conflict_help e = cc

conflict_version : DisplayVersion ≡ ArgumentConflict → ⊥
conflict_version e = cc

misspelt_found : fault_of (program_app Pbfcutz) (normalized misspelt) ≡ UnknownArgument ∷ []
unfolding runs_on_literals
misspelt_found = refl

misplaced_found : fault_of (program_app Pbfcutz) (normalized misplaced) ≡ UnknownArgument ∷ []
unfolding runs_on_literals
misplaced_found = refl

two_boxes_found : fault_of (program_app Pbfcutz) (normalized two_boxes) ≡ ArgumentConflict ∷ []
unfolding runs_on_literals
two_boxes_found = refl

three_files_found : fault_of (program_app Pbfcutz) (normalized three_files) ≡ UnknownArgument ∷ []
unfolding runs_on_literals
three_files_found = refl

pub no_option_is : IsRefused misspelt UnknownArgument
no_option_is = refused misspelt UnknownArgument misspelt_found unknown_help unknown_version

pub no_file_is : IsRefused misplaced UnknownArgument
no_file_is = refused misplaced UnknownArgument misplaced_found unknown_help unknown_version

pub one_box_is : IsRefused two_boxes ArgumentConflict
one_box_is = refused two_boxes ArgumentConflict two_boxes_found conflict_help conflict_version

pub two_files_is : IsRefused three_files UnknownArgument
two_files_is = refused three_files UnknownArgument three_files_found unknown_help unknown_version

-- ---- words that request help

pub asked_found : fault_of (program_app Pbfcutz) (normalized asking) ≡ DisplayHelp ∷ []
unfolding runs_on_literals
asked_found = refl

text_of : (command : Command) (events : List Event) → IsHelp command → Does (manner_in Pbfcutz command) command events → (text : Text) × (events ≡ printed Output text None ∷ [])
text_of (Help text) events help does = (string_bytes text, does)
text_of _ events help does = absurd help

pub prints_is : (events : List Event) → IsRun Pbfcutz asking events 0 → (text : Text) × (events ≡ printed Output text None ∷ [])
prints_is events (inl (z, (command, inl r, d))) = absurd (some_none DisplayHelp _ asked_found r.0)
prints_is events (inl (z, (command, inr h, d))) = text_of command events h.1 d
prints_is events (inr f) = absurd (no_zero f.how f.status_is)
