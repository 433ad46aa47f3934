-- What the getters read, by the rows.
use Rattle.std.proofs.Common.{arith, ◌≡◌, ◌⊎◌, ◌∙◌, sym, List, [], ◌∷◌, map, Option, Some, None, option_map, Bool, true, codes, find, is_some}
use Rattle.clap.specs.Words.{App, Row, Shape, Text, built, has_subcommand, is_simple, is_simple_and_free, subcommand_of, subcommand_rows_of}
use Rattle.clap.specs.declared.parser.matches.ArgMatches.{ArgMatches}
use Rattle.clap.specs.declared.parser.matches.ArgMatches.TheViews.{out-ArgMatches}
use Rattle.clap.proofs.TakesLemmas.{some_rows}
use Rattle.clap.specs.Simple.{argument_words, entered, label_of, names_of, rows_at}
use Rattle.clap.specs.Walk.{answers_to, stop_after}
use Rattle.pbfcut_cli.specs.declared.programs.Program.{Program}
use Rattle.pbfcut_cli.specs.declared.programs.Program.TheVariants.{Pbfcut, Pbfcutz}
use Rattle.pbfcut_cli.specs.Words.{IsOffered, program_app}

abbrev IsIn : Text → List Text → Type 0
IsIn name [] = ⊥
IsIn name (x ∷ xs) = (name ≡ x) ⊎ IsIn name xs

-- a subcommand that is found has the name of one of them
found_name : (f : Shape → Bool) (xs : List Shape) (ws : List Text) (p : Text × List Row)
    → option_map (λ s. rows_at s ws) (find f xs) ≡ Some p → IsIn p.0 (map (λ s. s.name) xs)
found_name f [] ws p e = cc
found_name f (x ∷ xs) ws p e = grind (arith, f x, found_name f xs ws p)

entered_name : (a : App) (stop : Option (Text × List Text)) (p : Text × List Row)
    → entered a stop ≡ Some p → IsIn p.0 (map (λ s. s.name) a.subs)
entered_name a None p e = cc
entered_name a (Some q) p e = found_name (λ s. answers_to q.0 (label_of s)) a.subs q.1 p e

-- the words that are left for the command
abbrev command_stop : App → List Text → Option (Text × List Text)
command_stop app words = stop_after (built app).top.rules (names_of (built app)) (argument_words app words)

-- one of the names of commands is that of a command
one_of_pbfcut : (p : Text × List Row) → IsIn p.0 (codes "extract" ∷ codes "convert" ∷ codes "check" ∷ codes "show" ∷ codes "blobs" ∷ []) → IsOffered (Some p)
one_of_pbfcut p is = grind arith

one_of_pbfcutz : (p : Text × List Row) → IsIn p.0 (codes "extract" ∷ codes "convert" ∷ codes "pack" ∷ codes "unpack" ∷ codes "check" ∷ codes "show" ∷ codes "blobs" ∷ codes "info" ∷ []) → IsOffered (Some p)
one_of_pbfcutz p is = grind arith

-- the words name a command of the program
pub named : (program : Program) (words : List Text) (p : Text × List Row)
    → subcommand_of (program_app program) words ≡ Some p → IsOffered (Some p)
named Pbfcut words p e = one_of_pbfcut p (entered_name (built (program_app Pbfcut)) (command_stop (program_app Pbfcut) words) p e)
named Pbfcutz words p e = one_of_pbfcutz p (entered_name (built (program_app Pbfcutz)) (command_stop (program_app Pbfcutz) words) p e)

pub simple : (program : Program) → is_simple (program_app program) ≡ true
simple program = grind arith

pub free : (program : Program) → is_simple_and_free (program_app program) ≡ true
free program = grind arith

pub needs_command : (program : Program) → (program_app program).top.subcommand_required ≡ true
needs_command program = grind arith

-- if the matches are those of the words and have a subcommand, it is a command of the program
pub offered : (program : Program) (m : ArgMatches) (words : List Text) → has_subcommand m ≡ true
    → subcommand_rows_of m ≡ subcommand_of (program_app program) words → IsOffered (subcommand_rows_of m)
offered program m words has same =
    go (subcommand_rows_of m) (sym (some_rows (out-ArgMatches m).subcommand) ∙ has) (sym same)
  where
    go : (o : Option (Text × List Row)) → is_some o ≡ true → subcommand_of (program_app program) words ≡ o → IsOffered o
    go None h e = cc
    go (Some p) h e = named program words p e
