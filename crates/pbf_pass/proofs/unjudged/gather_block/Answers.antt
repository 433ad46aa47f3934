use Rattle.std.proofs.Common.{◌≡◌, ℕ, List, ap, ap₂, ◌∙◌}
use Rattle.std.specs.Prelude.{None}
use Rattle.std.specs.List.{fold}
use Rattle.pbf_block.specs.PrimitiveBlock.{block_fault, entities}
use Rattle.pbf_block.specs.Runs.{joined_runs, runs_left}
use Rattle.pbf_pass.proofs.GatherLemmas.{gathered_among}
use Rattle.pbf_pass.proofs.unjudged.gather_block.Goals as goal

pub returns-clause-gathered : goal.returns-clause-gathered
returns-clause-gathered g c = λ sound.
    let gathered = g.G.Gather.gathered in
    let block = c.in-Some.block in
    let is = rw c.in-Some.is at c.in_ok-block.ensures.payload in
    let here : block_fault block.at block.payload.now ≡ None = ap₂ (λ (at : ℕ) (m : List ℕ). block_fault at m) is.1 is.0 ∙ sound in
    c.in_ok-gather_runs.ensures
    ∙ ap (fold gathered c.args.gathering.now) (c.runs_among.ensures.exact here)
    ∙ gathered_among gathered c.kinds.result c.kinds.ensures c.args.gathering.now (entities block.at block.payload.now)
    ∙ ap₂ (λ (at : ℕ) (m : List ℕ). fold gathered c.args.gathering.now (entities at m)) is.1 is.0

pub returns-clause-some : goal.returns-clause-some
returns-clause-some g c = (joined_runs (runs_left c.runs_among.result), c.in_ok-gather_runs.ensures)
