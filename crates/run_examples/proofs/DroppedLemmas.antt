-- The lines of the run of pbfcutz that is refused.
use Rattle.std.proofs.Common.{◌≡◌, ◌⊎◌, inl, inr, ℕ, List, [], ◌∷◌, false, take, drop, Option, Some, None, refl, sym, subst, ◌∙◌}
use Rattle.clap.specs.Words.{Text}
use Rattle.osm_area.specs.Area.{box_area}
use Rattle.osm_ways.specs.Selection.{complete_ways}
use Rattle.pbf_examples.specs.Reading.{box}
use Rattle.pbf_frame.specs.Steps.{head_of}
use Rattle.pbf_frame.specs.declared.stop.Stop.TheVariants as stop
use Rattle.pbf_pass.specs.Stops.{FaultOf}
use Rattle.pbf_unpack.specs.Unpacked.{unpacked, unpacked_from, unpacked_within}
use Rattle.pbf_wire.specs.Faults.{fault}
use Rattle.pbf_wire.specs.declared.fault.Fault.{Fault}
use Rattle.pbf_wire.specs.declared.fault.Reason.TheVariants.{BlobCut}
use Rattle.pbfcut.specs.Calls.{AllSupply}
use Rattle.pbfcut.specs.Kept.{verdict_on}
use Rattle.pbfcut.specs.Receipts.{judge_by}
use Rattle.pbfcut.specs.Tasks.{Task, answer_of, extracting}
use Rattle.pbfcut_cli.specs.declared.endings.Ending.{Ending}
use Rattle.pbfcut_cli.specs.declared.endings.Ending.TheVariants as ending
use Rattle.pbfcut_cli.specs.declared.programs.Program.TheVariants.{Pbfcutz}
use Rattle.pbfcut_cli.specs.declared.words.Region.TheVariants as region
use Rattle.pbfcut_cli.specs.declared.words.Strategy.TheVariants.{CompleteWays}
use Rattle.pbfcut_program.proofs.DiskLemmas.{put_other}
use Rattle.pbfcut_program.specs.Changes.{DropsFile}
use Rattle.pbfcut_program.specs.Events.{made, removed}
use Rattle.pbfcut_program.specs.Fails.{Each, FailsFor, Opens, WroteNothing}
use Rattle.pbfcut_program.specs.Files.{after, put}
use Rattle.pbfcut_program.specs.Leaving.{KeepsNone, LeavesFor, TookFront}
use Rattle.pbfcut_program.specs.Manner.{Manner, of_input, output_form}
use Rattle.pbfcut_program.specs.Program.{FailsIn, IsRun, LeavesCut, judging_cut, manner_in}
use Rattle.pbfcut_program.specs.Settling.{RunSettles}
use Rattle.pbfcut_program.specs.Telling.{SaysLittle}
use Rattle.run_examples.proofs.Computing.{runs_on_literals}
use Rattle.run_examples.proofs.PackedLemmas.{meant_is, not_output}
use Rattle.run_examples.specs.Dropped.{dropped, drops}
use Rattle.run_examples.specs.Extract.{input, output}
use Rattle.run_examples.specs.Lines.{empty}
use Rattle.run_examples.specs.Packed.{meaning_raw, part, typed_raw}
use Rattle.run_examples.specs.Refused.{short_disk, short_file}

abbrev m : Manner
m = manner_in Pbfcutz meaning_raw

abbrev task : Task
task = extracting complete_ways (box_area box)

abbrev cause : Fault
cause = fault 34 BlobCut

abbrev how : Ending
how = ending.Stopped (stop.Refused cause)

abbrev had : List (Option (List ℕ))
had = Some short_file ∷ Some short_file ∷ Some short_file ∷ []

pub same : unpacked short_file ≡ short_file
unfolding runs_on_literals head_of unpacked_within unpacked_from
same = refl

fault_is : FaultOf (judge_by complete_ways (Some short_file)) cause
unfolding runs_on_literals
fault_is = ((verdict_on short_file).0, refl)

module _ (key : ℕ) where
  opens_are : Opens input 1 had (drops key)
  opens_are = (inr (inl (refl, refl, refl)), (inr (inr (inl (refl, refl, refl))), (inr (inr (inr (inl (refl, refl, refl)))), tt)))

  took_nothing : Each WroteNothing (drops key)
  took_nothing = (tt, (tt, (tt, (tt, (tt, (tt, (tt, (tt, (tt, (refl, (tt, tt)))))))))))

  fails_for : FailsFor input m (judging_cut (region.Box box) CompleteWays (drops key)) how (drops key)
  fails_for = record {
    has = had;
    opens = opens_are;
    why = (stop.Refused cause, refl, (subst (λ file. FaultOf (judge_by complete_ways (Some file)) cause) (sym same) fault_is, took_nothing));
  }

  unkept : KeepsNone task (drops key)
  unkept = (tt, (tt, (tt, (tt, (tt, (tt, (tt, (tt, (tt, (refl, (tt, tt)))))))))))

  takes_none : (bytes : List ℕ) → AllSupply bytes had → Each (TookFront (output_form m.packs m.program, answer_of task (of_input m bytes))) (drops key)
  takes_none bytes supply = (tt, (tt, (tt, (tt, (tt, (tt, (tt, (tt, (tt, ((λ e. (0, refl)), (tt, tt)))))))))))

  leaves_for : LeavesFor input m task (drops key)
  leaves_for = record { has = had; opens = opens_are; leaves = inl (unkept, takes_none) }

  leaves_cut : LeavesCut input m (region.Box box) CompleteWays (drops key)
  leaves_cut = record {
    area = box_area box;
    before = [];
    after = drops key;
    happened = refl;
    means = (refl, refl);
    leaves = leaves_for;
  }

  says_little : SaysLittle false (drops key)
  says_little = record {
    before = drops key;
    last = [];
    happened = refl;
    silent = (tt, (tt, (tt, (tt, (tt, (tt, (tt, (tt, (tt, (tt, (tt, tt)))))))))));
    tells = inl refl;
  }

  fails_in : FailsIn m meaning_raw how (drops key)
  fails_in = (fails_for, inr leaves_cut, inl says_little)

  pub run_is : IsRun Pbfcutz typed_raw (dropped key) 1
  unfolding runs_on_literals
  run_is = inr (record {
    how = how;
    before = drops key;
    happened = refl;
    status_is = refl;
    why = (meaning_raw, meant_is, fails_in);
  })

  drops_file : DropsFile Pbfcutz output (empty part) (dropped key)
  drops_file = record {
    drops = removed part ∷ [];
    file = record {
      before = take 5 (dropped key);
      makes = made part ∷ [];
      between = take 3 (drop 6 (dropped key));
      last = drop 11 (dropped key);
      happened = refl;
      is_made = ([], tt, not_output key, refl);
      still = ((tt, (tt, (tt, (tt, (tt, tt))))), (tt, (tt, (tt, tt))), (tt, (tt, tt)));
    };
    is_dropped = ([], removed part, refl, tt, inl refl);
  }

  pub settles_is : RunSettles Pbfcutz typed_raw (Some []) (Some (dropped key))
  settles_is = inr (meaning_raw, meant_is, (dropped key, refl, inr (empty part, inr drops_file)))

pub as_before : (key : ℕ) (name : Text) → (name ≡ part) ⊎ (name ≡ part → ⊥) → after (dropped key) short_disk name ≡ short_disk name
as_before key name (inl e) = subst (λ n. after (dropped key) short_disk n ≡ short_disk n) (sym e) refl
as_before key name (inr not_part) =
    put_other part name None (put part (Some []) (put part (Some []) short_disk)) not_part
    ∙ (put_other part name (Some []) (put part (Some []) short_disk) not_part ∙ put_other part name (Some []) short_disk not_part)
