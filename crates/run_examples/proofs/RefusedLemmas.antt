-- The lines of the run that is refused.
use Rattle.std.proofs.Common.{inl, inr, ℕ, List, [], ◌∷◌, false, take, drop, Option, Some, refl}
use Rattle.osm_area.specs.Area.{box_area}
use Rattle.osm_ways.specs.Selection.{complete_ways}
use Rattle.pbf_examples.specs.Reading.{◌refused_at◌for◌, box}
use Rattle.pbf_frame.specs.declared.stop.Stop.TheVariants as stop
use Rattle.pbf_wire.specs.Faults.{fault}
use Rattle.pbf_wire.specs.declared.fault.Fault.{Fault}
use Rattle.pbf_wire.specs.declared.fault.Reason.TheVariants.{BlobCut}
use Rattle.pbfcut.specs.Kept.{verdict_on}
use Rattle.pbfcut.specs.Receipts.{judge_by}
use Rattle.pbfcut.specs.Calls.{AllSupply}
use Rattle.pbfcut.specs.Tasks.{Task, answer_of, extracting}
use Rattle.pbfcut_cli.specs.declared.endings.Ending.{Ending}
use Rattle.pbfcut_cli.specs.declared.endings.Ending.TheVariants as ending
use Rattle.pbfcut_cli.specs.declared.programs.Program.TheVariants.{Pbfcut}
use Rattle.pbfcut_cli.specs.declared.words.Region.TheVariants as region
use Rattle.pbfcut_cli.specs.declared.words.Strategy.TheVariants.{CompleteWays}
use Rattle.pbfcut_program.specs.Changes.{DropsFile}
use Rattle.pbfcut_program.specs.Events.{made}
use Rattle.pbfcut_program.specs.Fails.{Each, FailsFor, IsRefused, Opens}
use Rattle.pbfcut_program.specs.Leaving.{KeepsNone, LeavesFor, TookFront}
use Rattle.pbfcut_program.specs.Manner.{Manner, of_input, output_form}
use Rattle.pbfcut_program.specs.Program.{FailsIn, IsRun, LeavesCut, judging_cut, manner_in}
use Rattle.pbfcut_program.specs.Settling.{RunSettles}
use Rattle.pbfcut_program.specs.Telling.{SaysLittle}
use Rattle.run_examples.proofs.Computing.{runs_on_literals}
use Rattle.run_examples.proofs.ExtractLemmas.{meant_is}
use Rattle.run_examples.specs.Extract.{input, meaning, output, typed}
use Rattle.run_examples.specs.Lines.{all_of, empty, none_of}
use Rattle.run_examples.specs.Refused.{fails, refused, short_file}

abbrev raw : Manner
raw = manner_in Pbfcut meaning

abbrev cause : Fault
cause = fault 34 BlobCut

abbrev how : Ending
how = ending.Stopped (stop.Refused cause)

abbrev had : List (Option (List ℕ))
had = Some short_file ∷ Some short_file ∷ Some short_file ∷ []

abbrev task : Task
task = extracting complete_ways (box_area box)

module _ (key : ℕ) where
  opens_are : Opens input 1 had (fails key)
  opens_are = (inr (inl (refl, refl, refl)), (inr (inr (inl (refl, refl, refl))), (inr (inr (inr (inl (refl, refl, refl)))), tt)))

  refused_is : IsRefused (judge_by complete_ways) cause (fails key)
  unfolding runs_on_literals
  refused_is = record {
    first = all_of short_file;
    later = none_of short_file ∷ none_of short_file ∷ [];
    are = refl;
    faulty = inr (refl, ((verdict_on short_file).0, refl));
    nothing = (tt, (tt, (tt, (tt, (tt, (tt, (tt, (tt, (tt, (refl, tt))))))))));
  }

  fails_for : FailsFor input raw (judging_cut (region.Box box) CompleteWays (fails key)) how (fails key)
  fails_for = record { has = had; opens = opens_are; why = (stop.Refused cause, refl, refused_is) }

  unkept : KeepsNone task (fails key)
  unkept = (tt, (tt, (tt, (tt, (tt, (tt, (tt, (tt, (tt, (refl, tt))))))))))

  takes_none : (bytes : List ℕ) → AllSupply bytes had → Each (TookFront (output_form raw.packs raw.program, answer_of task (of_input raw bytes))) (fails key)
  takes_none bytes supply = (tt, (tt, (tt, (tt, (tt, (tt, (tt, (tt, (tt, ((λ e. (0, refl)), tt))))))))))

  leaves_for : LeavesFor input raw task (fails key)
  leaves_for = record {
    has = had;
    opens = opens_are;
    leaves = inl (unkept, takes_none);
  }

  leaves_cut : LeavesCut input raw (region.Box box) CompleteWays (fails key)
  leaves_cut = record {
    area = box_area box;
    before = [];
    after = fails key;
    happened = refl;
    means = (refl, refl);
    leaves = leaves_for;
  }

  says_little : SaysLittle false (fails key)
  says_little = record {
    before = fails key;
    last = [];
    happened = refl;
    silent = (tt, (tt, (tt, (tt, (tt, (tt, (tt, (tt, (tt, (tt, tt))))))))));
    tells = inl refl;
  }

  fails_in : FailsIn raw meaning how (fails key)
  fails_in = (fails_for, inr leaves_cut, inl says_little)

  pub run_is : IsRun Pbfcut typed (refused key) 1
  unfolding runs_on_literals
  run_is = inr (record {
    how = how;
    before = fails key;
    happened = refl;
    status_is = refl;
    why = (meaning, meant_is, fails_in);
  })

  drops_file : DropsFile Pbfcut output (empty output) (refused key)
  drops_file = record {
    drops = [];
    file = record {
      before = take 5 (refused key);
      makes = made output ∷ [];
      between = take 3 (drop 6 (refused key));
      last = drop 10 (refused key);
      happened = refl;
      is_made = ([], tt, refl, refl);
      still = ((tt, (tt, (tt, (tt, (tt, tt))))), (tt, (tt, (tt, tt))), (tt, (tt, tt)));
    };
    is_dropped = refl;
  }

  pub settles_is : RunSettles Pbfcut typed (Some []) (Some (refused key))
  settles_is = inr (meaning, meant_is, (refused key, refl, inr (empty output, inr drops_file)))

pub fault_is : short_file refused_at 34 for BlobCut
unfolding runs_on_literals
fault_is = refl
