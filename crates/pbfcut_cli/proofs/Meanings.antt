-- What words mean, by what `clap` says of them.
use Rattle.std.proofs.Common.{◌≡◌, ◌⊎◌, List, [], Option, Some, None, Result, IfOk, IfErr, Ok, Err, inl, inr, subst}
use Rattle.clap.specs.Words.{HasKind, IsAmong, Kinds, Row, Text, fault_of, kind_of, subcommand_of}
use Rattle.clap.specs.declared.error.Error.{Error}
use Rattle.clap.specs.declared.error.kind.ErrorKind.{ErrorKind}
use Rattle.clap.specs.declared.error.kind.ErrorKind.TheVariants.{DisplayHelp, DisplayVersion, OutOfMemory}
use Rattle.pbfcut_cli.specs.Words.{AreTaken, AskForHelp, HasFault, IsCommandOf, IsFaultOf, IsHelp, ComesTo, program_app}
use Rattle.pbfcut_cli.specs.declared.programs.Program.{Program}
use Rattle.pbfcut_cli.specs.declared.words.ChoiceFault.{ChoiceFault}
use Rattle.pbfcut_cli.specs.declared.words.ChoiceFault.TheVariants.{DirectoryAlone}
use Rattle.pbfcut_cli.specs.declared.words.CliFault.{CliFault}
use Rattle.pbfcut_cli.specs.declared.words.CliFault.TheVariants as fault
use Rattle.pbfcut_cli.specs.declared.words.Command.{Command}

no_help : DisplayHelp ≡ OutOfMemory → ⊥
no_help e = cc

no_version : DisplayVersion ≡ OutOfMemory → ⊥
no_version e = cc

abbrev IsLine : CliFault → Type 0
IsLine (fault.Line text) = Unit {0}
IsLine _ = ⊥

line_differs : (f : CliFault) (choice : ChoiceFault) → IsLine f → f ≡ fault.Choice choice → ⊥
line_differs f choice line is = subst IsLine is line

-- a line that is refused is no fault of values
no_line : (o : Option (Text × List Row)) (f : CliFault) → IsLine f → HasFault o f → ⊥
no_line None f line h = h
no_line (Some p) (fault.Line text) line (inl (e, inl s)) = s
no_line (Some p) (fault.Line text) line (inl (e, inr (inl g))) = g.1
no_line (Some p) (fault.Line text) line (inl (e, inr (inr (g, inl d)))) = line_differs (fault.Line text) DirectoryAlone line d.0
no_line (Some p) (fault.Line text) line (inl (e, inr (inr (g, inr (inl r))))) = r
no_line (Some p) (fault.Line text) line (inl (e, inr (inr (g, inr (inr w))))) = line_differs (fault.Line text) w.0 line w.1
no_line (Some p) (fault.Line text) line (inr (e, w)) = line_differs (fault.Line text) w.0 line w.1
no_line (Some p) (fault.Box f) line h = line
no_line (Some p) (fault.Choice f) line h = line
no_line (Some p) fault.Memory line h = line

-- a fault of words that `clap` takes is one that they have
pub of_value : (program : Program) (words : List Text) (f : CliFault) → AreTaken program words → HasFault (subcommand_of (program_app program) words) f → IsFaultOf program words f
of_value program words (fault.Line text) taken h = absurd (no_line (subcommand_of (program_app program) words) (fault.Line text) tt h)
of_value program words (fault.Box f) taken h = (taken, h)
of_value program words (fault.Choice f) taken h = (taken, h)
of_value program words fault.Memory taken h = tt

module _ (program : Program) (words : List Text) (error : Error) (has : HasKind (fault_of (program_app program) words) error) where
  abbrev kinds : Kinds
  kinds = fault_of (program_app program) words

  -- a kind other than that of memory is one of those of the words
  among : (k : ErrorKind) → kind_of error ≡ k → (k ≡ OutOfMemory → ⊥) → IsAmong k kinds
  among k is other = of has
    where
      of : HasKind kinds error → IsAmong k kinds
      of (inl memory) = absurd (other (subst (λ (x : ErrorKind). x ≡ OutOfMemory) is memory))
      of (inr a) = subst (λ (x : ErrorKind). IsAmong x kinds) is a

  asked : (kind_of error ≡ DisplayHelp) ⊎ (kind_of error ≡ DisplayVersion) → AskForHelp program words
  asked (inl help) = inl (among DisplayHelp help no_help)
  asked (inr version) = inr (among DisplayVersion version no_version)

  -- what is help was requested
  pub help_asked : (r : Result Command CliFault) → IfOk r (λ c. IsHelp c × ((kind_of error ≡ DisplayHelp) ⊎ (kind_of error ≡ DisplayVersion))) → IfOk r (IsCommandOf program words)
  help_asked (Ok c) h = inr (asked h.1, h.0)
  help_asked (Err e) h = h

  -- a line is refused only if the error is no request
  pub line_refused : (r : Result Command CliFault) → (kind_of error ≡ OutOfMemory → r ≡ Err fault.Memory) → IfErr r (ComesTo (kind_of error)) → IfErr r (IsFaultOf program words)
  line_refused (Ok c) memory line = line
  line_refused (Err (fault.Line text)) memory line = (kind_of error, of has, line)
    where
      of : HasKind kinds error → IsAmong (kind_of error) kinds
      of (inl m) = let same : ◌≡◌ {A = Result Command CliFault} (Err (fault.Line text)) (Err fault.Memory) = memory m in cc
      of (inr a) = a
  line_refused (Err (fault.Box f)) memory line = absurd line
  line_refused (Err (fault.Choice f)) memory line = absurd line
  line_refused (Err fault.Memory) memory line = tt
