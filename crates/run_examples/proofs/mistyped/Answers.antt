use Rattle.run_examples.proofs.MistypedLemmas.{asked_found, no_file_is, no_option_is, one_box_is, prints_is, two_files_is}
use Rattle.run_examples.proofs.mistyped.Goals as goal

pub returns-clause-refused : goal.returns-clause-refused
returns-clause-refused c = record { no_option = no_option_is; no_file = no_file_is; one_box = one_box_is; two_files = two_files_is }

pub returns-clause-asked : goal.returns-clause-asked
returns-clause-asked c = record { found = asked_found; prints = prints_is }
