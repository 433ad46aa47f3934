use Rattle.std.proofs.Common.{List, ℕ, subst, sym}
use Rattle.osm_area.specs.Area.{AreaSpec, IsAreaWithin}
use Rattle.pbfcut.specs.Theorem.{IsExtraction}
use Rattle.pbfcut_program.specs.Manner.{of_input, of_output}
use Rattle.pbfcut_program.specs.Program.{strategy_of}
use Rattle.pbfcut_program.proofs.laws.runs_compose.Goals as goal

pub returns : goal.returns
returns g c m n cut inner wide narrow file part events later first second wider is within same low =
    c.area_extracts_compose.ensures (strategy_of narrow) (strategy_of wide) wider second.area (subst (λ (a : AreaSpec). IsAreaWithin second.area a) is within) (of_input m file) (of_input n part) (of_output n second.bytes) first.counts second.counts low
    (subst (λ (a : AreaSpec). IsExtraction (strategy_of wide) a (of_input m file) first.counts (of_input n part)) is (subst (λ (b : List ℕ). IsExtraction (strategy_of wide) first.area (of_input m file) first.counts b) (sym same) first.extract)) second.extract
