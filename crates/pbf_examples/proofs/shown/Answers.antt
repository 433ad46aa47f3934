use Rattle.std.proofs.Common.{refl}
use Rattle.pbf_examples.proofs.Computing.{pbf_on_literals}
use Rattle.pbf_examples.proofs.shown.Goals as goal

-- the days up to a date are counted one by one, which a search may do only so long
pub returns-clause-dates : goal.returns-clause-dates
unfolding pbf_on_literals
returns-clause-dates c = record { epoch = refl; a_thousand_days = refl; leap_day = refl; stop_sign = refl; before = refl; after = refl }
