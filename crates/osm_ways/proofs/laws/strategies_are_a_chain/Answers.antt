use Rattle.std.proofs.Common.{refl}
use Rattle.osm_ways.proofs.laws.strategies_are_a_chain.Goals as goal

pub returns-clause-parents : goal.returns-clause-parents
returns-clause-parents c = record { refs = λ e. e; of_refs = λ e. e; parents = λ e. refl; members = λ e. e; whole = λ tags e. e }

pub returns-clause-smart : goal.returns-clause-smart
returns-clause-smart c whole = record { refs = λ e. e; of_refs = λ e. e; parents = λ e. e; members = λ e. refl; whole = λ tags e. absurd (cc) }

pub returns-clause-types : goal.returns-clause-types
returns-clause-types c some more h = record { refs = λ e. e; of_refs = λ e. e; parents = λ e. e; members = λ e. e; whole = h }
