-- What a run for several areas prints, and how it breaks off at a line.
use Rattle.std.proofs.Common.{◌≡◌, ◌∙◌, inl, inr, ℕ, ◌+◌, List, [], ◌∷◌, ◌++◌, length, map, Bool, Option, sym, ap, subst, append_assoc}
use Rattle.std.proofs.lemmas.List.{append-nil}
use Rattle.std.specs.List.{AllZip, flat_map, zip}
use Rattle.std.specs.String.{string_bytes}
use Rattle.osm_ways.specs.Selection.{Strategy}
use Rattle.pbf_frame.specs.declared.device.Drain as drain
use Rattle.pbf_frame.specs.declared.stop.Stop.TheVariants as stop
use Rattle.pbfcut.specs.Receipts.{judge_by}
use Rattle.pbfcut.specs.Tasks.{spares_by}
use Rattle.pbfcut.specs.declared.carrying.AreaOutput.{AreaOutput}
use Rattle.pbfcut_cli.specs.declared.endings.Ending.{Ending}
use Rattle.pbfcut_cli.specs.declared.endings.Ending.TheVariants as ending
use Rattle.pbfcut_cli.specs.declared.words.ConfigFiles.{ConfigFiles}
use Rattle.pbfcut_program.specs.declared.configured.OutputCut.{OutputCut}
use Rattle.pbfcut_program.specs.declared.host.Screen.TheVariants.{Output}
use Rattle.pbfcut_program.specs.declared.several.OutputArea.{OutputArea}
use Rattle.pbfcut_program.specs.declared.several_files.OutPart.{OutPart}
use Rattle.pbfcut_program.specs.declared.several_writing.DoneOut.{DoneOut}
use Rattle.pbfcut_program.specs.Configured.{MeansConfig, OutputArea as ConfiguredArea}
use Rattle.pbfcut_program.specs.ConfiguredCuts.{output_area_of}
use Rattle.pbfcut_program.specs.Events.{Event, read, then_all, wrote}
use Rattle.pbfcut_program.specs.Fails.{CauseOfOpening, Each, Fails, FailsFor, Judging, Opens, Quiet, WroteNothing, judging}
use Rattle.pbfcut_program.specs.Lines.{check_lines, prints}
use Rattle.pbfcut_program.specs.Manner.{Manner, check_of}
use Rattle.pbfcut_program.specs.SeveralEnds.{EndsEach, outs_lines}
use Rattle.pbfcut_program.specs.SeveralFiles.{MakesEach, flatten}
use Rattle.pbfcut_program.specs.SeveralWrites.{AllGiveRaw, AreLeftFor, OneOut, RunsExtractEach, WritesOne, WritesOuts, areas_of, begun_each, each_lines, folder_of, paths_of}
use Rattle.pbfcut_program.specs.Telling.{IsSaid}
use Rattle.pbfcut_program.proofs.EventLemmas.{each_both, quiet_of}
use Rattle.pbfcut_program.proofs.FailLemmas.{TellsSome, broken_fails, failed_after, fails_early, memory_fails, opens_before}
use Rattle.pbfcut_program.proofs.Logging.{and_then}
use Rattle.pbfcut_program.proofs.OutLemmas.{kept_quiet}
use Rattle.pbfcut_program.proofs.Printed.{quiet_prints}
use Rattle.pbfcut_program.proofs.SayingLemmas.{broken_quiet, lines_in}
use Rattle.pbfcut_program.proofs.SeveralClosing.{writes}
use Rattle.pbfcut_program.proofs.SeveralMaking.{AreWritten, are_written, begun_calm, begun_opens, begun_same, makes_quiet, written_left, written_writes}

-- ---- OUTs that can't be made

cause_caused : (m : Manner) (j : Judging) (how : Ending) (events : List Event) → CauseOfOpening how events → Each WroteNothing events → Fails m j [] how events
cause_caused m j ending.CannotOpen events c none = (c, none)
cause_caused m j ending.IsPipe events c none = (c, none)
cause_caused m j ending.OutExists events c none = inl (c, none)
cause_caused m j (ending.Polygon e) events c none = (c, none)
cause_caused m j (ending.Config e) events c none = (c, none)
cause_caused m j (ending.Stopped stop.Memory) events c none = memory_fails m j [] events
cause_caused m j _ events c none = absurd c

pub cause_fails : {input : List ℕ} (m : Manner) (j : Judging) (how : Ending) (first events : List Event) → Each Quiet first → CauseOfOpening how events → Each WroteNothing events → FailsFor input m j how (first ++ events)
cause_fails m j how first events quiet c none = failed_after m j how first events quiet (fails_early m j how events (cause_caused m j how events c none))

-- ---- lines

pub opens_first : (files : ConfigFiles) (outputs : List (List ℕ)) (has : List (Option (List ℕ))) (key : ℕ) (makes : List Event) → Opens files.input.now 1 has (begun_each files outputs has key ++ makes)
opens_first files outputs has key makes = opens_before files.input.now 1 has (begun_each files outputs has key) makes (begun_opens files outputs has key)

four_after : (a b c d e xs : List Event) → (a ++ (b ++ (c ++ (d ++ e)))) ++ xs ≡ a ++ (b ++ (c ++ (d ++ (e ++ xs))))
four_after a b c d e xs =
    append_assoc a (b ++ (c ++ (d ++ e))) xs ∙ ap (λ zs. a ++ zs) (append_assoc b (c ++ (d ++ e)) xs ∙ ap (λ zs. b ++ zs) (append_assoc c (d ++ e) xs ∙ ap (λ zs. c ++ zs) (append_assoc d e xs)))

names_quiet : (m : Manner) (s : Strategy) (overwrite : Bool) (key : ℕ) (has : List (Option (List ℕ))) (digest : List ℕ) (raw : Option (List ℕ)) (areas : List ConfiguredArea) (ones : List OneOut) → AllZip (WritesOne m s overwrite key has digest raw) areas ones → Each Quiet (flat_map (λ one. one.file.ends) ones)
names_quiet m s overwrite key has digest raw [] [] a = tt
names_quiet m s overwrite key has digest raw (x ∷ areas) (one ∷ ones) a = each_both Quiet one.file.ends (flat_map (λ o. o.file.ends) ones) (kept_quiet m.program overwrite x.output one.file.out.name one.file.ends a.0.named) (names_quiet m s overwrite key has digest raw areas ones a.1)
names_quiet m s overwrite key has digest raw [] (one ∷ ones) a = absurd a
names_quiet m s overwrite key has digest raw (x ∷ areas) [] a = absurd a

module _ {D : Type 0} (d : drain.Ghosts D) (m : Manner) (s : Strategy) (files : ConfigFiles) (outs : List OutputCut) (parts : List OutPart) (befores : List (AreaOutput OutputArea D)) (has : List (Option (List ℕ))) (key : ℕ) (digest : List ℕ) (raw : Option (List ℕ)) (dones : List DoneOut)
    (k l o p : Option (List Event)) (passes : length has ≡ spares_by s + 2) (begun : l ≡ then_all k (begun_each files (map (λ out. string_bytes out.output) outs) has key)) (made : MakesEach d m.program outs parts befores l o)
    (ended : EndsEach m (check_of m key) s files.overwrite has digest raw parts befores dones o p) where
  abbrev lines : List (List ℕ)
  lines = check_lines m.digests digest raw files.input.now ++ outs_lines (zip outs dones)

  abbrev areas : List ConfiguredArea
  areas = map output_area_of outs

  abbrev first : List Event
  first = begun_each files (map (λ out. string_bytes out.output) outs) has key

  abbrev makes : List Event
  makes = flatten made.makes.0

  abbrev reads : List Event
  reads = map (λ r. read r) ended.rs

  abbrev outs_closed : List Event
  outs_closed = map (λ one. wrote one.out) ended.ones

  abbrev names : List Event
  names = flat_map (λ one. one.ends) ended.ones

  -- all that happened before the lines
  abbrev before : List Event
  before = first ++ (makes ++ (reads ++ (outs_closed ++ names)))

  happened : p ≡ then_all k before
  happened = and_then k l p first (makes ++ (reads ++ (outs_closed ++ names))) begun (and_then l o p makes (reads ++ (outs_closed ++ names)) made.makes.1 ended.log)

  are : AreWritten d m s files.overwrite key has digest raw outs made.makes.0 dones ended.ones
  are = are_written d m s files.overwrite key has digest raw outs parts befores made.makes.0 dones ended.ones made.paths made.begun made.makes.2 ended.each

  same_lines : each_lines m.digests digest raw files.input.now are.ones ≡ lines
  same_lines = ap (λ xs. check_lines m.digests digest raw files.input.now ++ xs) are.lines

  writes_all : WritesOuts m s files areas (before ++ prints Output lines)
  writes_all = record {
    has = has;
    rs = ended.rs;
    key = key;
    digest = digest;
    raw = raw;
    ones = are.ones;
    happened = four_after first makes reads outs_closed names (prints Output lines)
        ∙ ap (λ xs. xs ++ (makes ++ (reads ++ (outs_closed ++ (names ++ prints Output lines))))) (begun_same files outs has key)
        ∙ ap (λ xs. begun_each files (paths_of areas) has key ++ (xs ++ (reads ++ (outs_closed ++ (names ++ prints Output lines))))) (sym are.makes)
        ∙ ap (λ xs. begun_each files (paths_of areas) has key ++ (flat_map (λ one. one.file.makes) are.ones ++ (reads ++ (xs ++ (names ++ prints Output lines))))) (sym are.wrote_all)
        ∙ ap (λ xs. begun_each files (paths_of areas) has key ++ (flat_map (λ one. one.file.makes) are.ones ++ (reads ++ (map (λ one. wrote one.file.out) are.ones ++ (xs ++ prints Output lines))))) (sym are.ends)
        ∙ ap (λ xs. begun_each files (paths_of areas) has key ++ (flat_map (λ one. one.file.makes) are.ones ++ (reads ++ (map (λ one. wrote one.file.out) are.ones ++ (flat_map (λ one. one.file.ends) are.ones ++ prints Output xs))))) (sym same_lines);
    passes = passes;
    each = are.each;
  }

  -- all lines were printed
  pub written_each : (q : Option (List Event)) → q ≡ then_all p (prints Output lines) → (events : List Event) × (q ≡ then_all k events) × WritesOuts m s files areas events
  written_each q log = (before ++ prints Output lines, and_then k p q before (prints Output lines) happened log, writes_all)

  -- one of them wasn't
  pub printed_each : (how : Ending) (q : Option (List Event)) → TellsSome p q (prints Output lines) how
      → (events : List Event) × (q ≡ then_all k events) × FailsFor files.input.now m (judging (judge_by s) (AllGiveRaw s (areas_of areas))) how events × AreLeftFor files.input.now m s (areas_of areas) events × IsSaid m.digests (WritesOuts m s files areas) how events
  printed_each how q t =
      let broken = lines_in (WritesOuts m s files areas) before (prints Output lines) how t.0 writes_all t.2 in
      let calm = begun_calm files (map (λ out. string_bytes out.output) outs) has key in
      let ends_quiet = subst (Each Quiet) are.ends (names_quiet m s files.overwrite key has digest raw areas are.ones are.each) in (
        before ++ t.0,
        and_then k p q before t.0 happened t.1,
        broken_fails m (judging (judge_by s) (AllGiveRaw s (areas_of areas))) (WritesOuts m s files areas) how (before ++ t.0) broken,
        record {
          has = has;
          opens = opens_before files.input.now 1 has before t.0 (opens_before files.input.now 1 has first (makes ++ (reads ++ (outs_closed ++ names))) (begun_opens files (map (λ out. string_bytes out.output) outs) has key));
          left = inr (record {
            before = first ++ makes;
            rs = ended.rs;
            ws = map (λ one. one.file.out) are.ones;
            after = names ++ t.0;
            happened = four_after first makes reads outs_closed names t.0
                ∙ sym (append_assoc first makes (reads ++ (outs_closed ++ (names ++ t.0))))
                ∙ ap (λ xs. (first ++ makes) ++ (reads ++ (xs ++ (names ++ t.0)))) (sym are.wrote_all ∙ written_writes are.ones);
            quiet = (each_both Quiet first makes (quiet_of first calm) (makes_quiet m.program parts made.makes.0 made.makes.2), each_both Quiet names t.0 ends_quiet (broken_quiet (prints Output lines) how t.0 (quiet_prints Output lines) t.2));
            each = written_left d m s files.overwrite key has digest raw outs are.ones are.each;
          });
        },
        inr broken,
      )

-- ---- the whole command

-- what would have ended well is what an extract of all areas does
pub extracts_all : (m : Manner) (s : Strategy) (files : ConfigFiles) (areas : List ConfiguredArea) (before : List Event) → MeansConfig files.config.now (folder_of files) before areas → (all : List Event) → WritesOuts m s files areas all → (ys : List Event) × RunsExtractEach m s files (before ++ (all ++ ys))
extracts_all m s files areas before means all w = ([], record { outs = areas; before = before; after = all; happened = ap (λ es. before ++ es) (append-nil all); means = means; writes = w })
