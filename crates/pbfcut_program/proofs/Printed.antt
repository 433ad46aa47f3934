-- Lines after others.
use Rattle.std.proofs.Common.{◌≡◌, ℕ, List, [], ◌∷◌, ◌++◌, None, Option, Some, refl, ap}
use Rattle.osm_text.specs.Digests.{digest_line}
use Rattle.pbfcut_cli.specs.declared.endings.Ending.{Ending}
use Rattle.pbfcut_program.specs.declared.host.Screen.{Screen}
use Rattle.pbfcut_program.specs.Events.{Event}
use Rattle.pbfcut_program.specs.Fails.{Each, Quiet}
use Rattle.pbfcut_program.specs.Files.{Still}
use Rattle.pbfcut_program.specs.Lines.{file_lines, prints, unpacked_text}
use Rattle.pbfcut_program.proofs.FailLemmas.{TellsSome, printing_first}

pub prints_both : (screen : Screen) (xs ys : List (List ℕ)) → prints screen (xs ++ ys) ≡ prints screen xs ++ prints screen ys
prints_both screen [] ys = refl
prints_both screen (x ∷ xs) ys = ap (λ more. prints screen (x ∷ []) ++ more) (prints_both screen xs ys)

pub still_prints : (screen : Screen) (lines : List (List ℕ)) → Each Still (prints screen lines)
still_prints screen [] = tt
still_prints screen (line ∷ lines) = (tt, still_prints screen lines)

pub quiet_prints : (screen : Screen) (lines : List (List ℕ)) → Each Quiet (prints screen lines)
quiet_prints screen [] = tt
quiet_prints screen (line ∷ lines) = (tt, quiet_prints screen lines)

-- the first line of a file
pub file_first : (how : Ending) (l m : Option (List Event)) (screen : Screen) (digest : List ℕ) (raw : Option (List ℕ)) (path : List ℕ) → TellsSome l m (prints screen (digest_line digest path ∷ [])) how → TellsSome l m (prints screen (file_lines digest raw path)) how
file_first how l m screen digest None path t = t
file_first how l m screen digest (Some raw) path t = printing_first how l m (prints screen (digest_line digest path ∷ [])) (prints screen (unpacked_text raw ∷ [])) t
