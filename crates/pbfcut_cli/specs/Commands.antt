-- What the functions return that put the command line together. Each says besides that nothing is global, which clap requires.
use Rattle.std.specs.Prelude.{◌≡◌, false, Result, IsOkAnd}
use Rattle.clap.specs.Words.{App, Rule, app_of, rule_of}
use Rattle.clap.specs.declared.builder.arg.Arg.{Arg}
use Rattle.clap.specs.declared.builder.command.Command.{Command}
use Rattle.clap.specs.declared.builder.command.Command.TheViews.{out-Command as fields_of}

-- no argument of a command belongs to the commands below it too
abbrev pub HasNoGlobals : Command → Type 0
HasNoGlobals command = (fields_of command).has_globals ≡ false

-- it is this argument, and belongs to only its command
pub record IsArgument (rule : Rule) (arg : Arg) : Type 0 where
  pub is : rule_of arg ≡ rule
  pub local : arg.global ≡ false

-- it is this command
pub record IsCommand (app : App) (command : Command) : Type 0 where
  pub is : app_of command ≡ app
  pub local : HasNoGlobals command

-- it is the command before, which was made, with this added
pub record IsWith {E : Type 0} (add : App → App) (before : Result Command E) (command : Command) : Type 0 where
  pub adds : IsOkAnd before (λ c. app_of command ≡ add (app_of c))
  pub local : HasNoGlobals command
