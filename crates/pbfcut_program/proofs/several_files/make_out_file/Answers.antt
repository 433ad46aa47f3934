use Rattle.std.proofs.Common.{Some, false, subst, sym}
use Rattle.std.specs.Option.{option_map}
use Rattle.std.specs.String.{string_bytes}
use Rattle.pbfcut_program.specs.Files.{IsMade}
use Rattle.pbfcut_program.proofs.SeveralFileLemmas.{made_some}
use Rattle.pbfcut_program.proofs.several_files.make_out_file.Goals as goal

pub unwrap-requires : goal.unwrap-requires
unwrap-requires g c =
    let made = c.in_ok-out.ensures.ok in
    made_some c.args.place.program c.args.place.path.now (λ s. string_bytes s) c.in_ok-out.out.name made.0 made.2

pub returns-clause-ok : goal.returns-clause-ok
returns-clause-ok g c =
    let e = c.in_ok-out.ensures.ok in
    let program = c.args.place.program in
    let named = subst (λ o. IsMade program false c.args.place.path.now (option_map string_bytes o) e.0) c.unwrap.ensures e.2 in
    let made = subst (λ p. IsMade program false p (Some (string_bytes c.unwrap.result)) e.0) (sym c.in_ok-path.ensures.ok) named in
    (e.0, e.1, made, c.in_ok-path.ensures.ok, e.3)
