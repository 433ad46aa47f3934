-- Commands and arguments that are put together.
use Rattle.std.proofs.Common.{arith, ◌≡◌, ℕ, Bool, false, List, [], ◌∷◌, ◌++◌, Result, IfOk, IsOkAnd, Ok, Err, subst, codes}
use Rattle.std.proofs.lemmas.List.{map-append}
use Rattle.std.specs.Borrow.{Bor}
use Rattle.clap.specs.Words.{App, Rule, AddsAliases, app_of, rule_of, with_rule, with_subcommand}
use Rattle.clap.specs.declared.builder.arg.Arg.{Arg}
use Rattle.clap.specs.declared.builder.command.Command.{Command}
use Rattle.pbfcut_cli.specs.Commands.{HasNoGlobals, IsArgument, IsCommand, IsWith}
use Rattle.pbfcut_cli.specs.Words.{lone_box_rule, box_rule}

module _ {E : Type 0} (r command : Result Command E) (a : App) (made : IfOk command (IsCommand a)) where
  -- whatever is added to it
  pub added : (add : App → App) → IfOk r (IsWith add command) → IfOk r (IsCommand (add a))
  added add adds = grind (arith, IsWith add command, IsCommand (add a), add a)

  -- an argument
  pub rule_added : (s t : Rule) → s ≡ t → IfOk r (IsWith (λ b. with_rule b s) command) → IfOk r (IsCommand (with_rule a t))
  rule_added s t e adds = subst (λ (u : Rule). IfOk r (IsCommand (with_rule a u))) e (added (λ b. with_rule b s) adds)

module _ {E : Type 0} (r one before : Result Command E) (f : App → App) (first : IfOk one (IsWith f before)) where
  -- what is added, and then something more
  pub also : (g : App → App) → IfOk r (IsWith g one) → IfOk r (IsWith (λ a. g (f a)) before)
  also g adds = grind (arith, IsWith g one, IsWith (λ a. g (f a)) before)

-- an argument, by its rule
pub one_rule : {E : Type 0} (r before : Result Command E) (s t : Rule) → s ≡ t → IfOk r (IsWith (λ b. with_rule b s) before) → IfOk r (IsWith (λ b. with_rule b t) before)
one_rule r before s t e adds = subst (λ (u : Rule). IfOk r (IsWith (λ b. with_rule b u) before)) e adds

-- a command below it
pub one_command : {E : Type 0} (r command below : Result Command E) (d : App) → IfOk below (IsCommand d) → IfOk r (λ x. IsOkAnd command (λ c. IsOkAnd below (λ b. app_of x ≡ with_subcommand (app_of c) (app_of b).top)))
    → IfOk r HasNoGlobals → IfOk r (IsWith (λ a. with_subcommand a d.top) command)
one_command r command below d h4 h5 h6 = grind arith

-- one more name
one_alias : (old new : Arg) (name : Bor (List ℕ)) → AddsAliases old new ((name, false) ∷ []) → rule_of new ≡ record (rule_of old) { aliases = (rule_of old).aliases ++ name.now ∷ [] }
one_alias old new name adds = grind (arith, map-append (λ (alias : Bor (List ℕ) × Bool). alias.0.now) old.aliases.items ((name, false) ∷ []))

-- the box by both its names
pub both_names : {E : Type 0} (r : Result Arg E) (old : Arg) (name : Bor (List ℕ)) → IsArgument lone_box_rule old → name.now ≡ codes "bbox"
    → IfOk r (λ new. AddsAliases old new ((name, false) ∷ [])) → IfOk r (IsArgument box_rule)
both_names (Ok new) old name lone is adds = grind (arith, one_alias old new name adds)
both_names (Err e) old name lone is adds = adds
