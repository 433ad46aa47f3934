-- What a run for several areas did from its first event to its last.
use Rattle.std.proofs.Common.{◌≡◌, ◌∙◌, ◌⊎◌, inl, inr, ℕ, List, [], ◌∷◌, ◌++◌, map, Bool, false, Option, Some, None, refl, sym, ap, subst, append_assoc}
use Rattle.std.proofs.lemmas.List.{append-nil}
use Rattle.std.specs.List.{AllByRecursion, AllZip, flat_map, zip}
use Rattle.std.specs.String.{string_bytes}
use Rattle.osm_area.specs.Area.{AreaSpec}
use Rattle.osm_ways.specs.Selection.{Strategy}
use Rattle.pbf_frame.specs.declared.device.Drain as drain
use Rattle.pbfcut.specs.Several.{AllThree}
use Rattle.pbfcut.specs.Tasks.{extracting}
use Rattle.pbfcut.specs.declared.carrying.AreaOutput.{AreaOutput}
use Rattle.pbfcut_cli.specs.declared.endings.Ending.{Ending}
use Rattle.pbfcut_cli.specs.declared.programs.Program.{Program}
use Rattle.pbfcut_cli.specs.declared.words.ConfigFiles.{ConfigFiles}
use Rattle.pbfcut_program.specs.declared.configured.OutputCut.{OutputCut}
use Rattle.pbfcut_program.specs.declared.several.OutputArea.{OutputArea}
use Rattle.pbfcut_program.specs.declared.several_files.OutPart.{OutPart}
use Rattle.pbfcut_program.specs.declared.several_writing.DoneOut.{DoneOut}
use Rattle.pbfcut_program.specs.ConfiguredCuts.{output_area_of}
use Rattle.pbfcut_program.specs.Devices.{IsFreshOut}
use Rattle.pbfcut_program.specs.Events.{Event, Reading, Writing, openings, read, seeded, wrote, then_all}
use Rattle.pbfcut_program.specs.Fails.{Calm, Each, Opens, Quiet, WroteNothing}
use Rattle.pbfcut_program.specs.Files.{IsDropped, IsKept, IsMade, Still}
use Rattle.pbfcut_program.specs.Jobs.{area_of}
use Rattle.pbfcut_program.specs.Leaving.{IsUnkept}
use Rattle.pbfcut_program.specs.Lines.{out_lines}
use Rattle.pbfcut_program.specs.Manner.{Manner, check_of}
use Rattle.pbfcut_program.specs.Readings.{IsWork}
use Rattle.pbfcut_program.specs.SeveralChanges.{HandlesEach, IsDroppedFile, IsHandled, OneFile, SettlesOuts}
use Rattle.pbfcut_program.specs.SeveralEnds.{Ended, EndsKept, FailsMaking, IsEndedPart, ReturnsEach, areas_into, outs_lines}
use Rattle.pbfcut_program.specs.SeveralFiles.{ClosesEmpty, DropsPart, IsBegun, IsPartOf, MakesPart, UnmakesEach, flatten, looks_each}
use Rattle.pbfcut_program.specs.SeveralWrites.{AreLeft, LeavesOne, OneOut, WritesOne, areas_of, begun_each, paths_of}
use Rattle.pbfcut_program.specs.Telling.{Silent}
use Rattle.pbfcut_program.proofs.Beginning.{calm_openings, opens_openings, quiet_makes, silent_makes}
use Rattle.pbfcut_program.proofs.EventLemmas.{each_both, each_quiet, nothing_in, quiet_of}
use Rattle.pbfcut_program.proofs.FailLemmas.{opens_after, opens_before}
use Rattle.pbfcut_program.proofs.LeavingLemmas.{quiet_unkept}
use Rattle.pbfcut_program.proofs.Logging.{and_then}
use Rattle.pbfcut_program.proofs.OutLemmas.{dropped_quiet, dropped_silent}
use Rattle.pbfcut_program.proofs.SayingLemmas.{silent_of}
use Rattle.pbfcut_program.proofs.SeveralClosing.{all_of, cause_after, cause_before, writes}
use Rattle.pbfcut_program.proofs.SeveralFileLemmas.{calm_looks_each}
use Rattle.pbfcut_program.proofs.SettlingLemmas.{still_of}

-- ---- what happens before OUTs are made

paths_same : (outs : List OutputCut) → paths_of (map output_area_of outs) ≡ map (λ out. string_bytes out.output) outs
paths_same [] = refl
paths_same (o ∷ outs) = ap (λ ps. string_bytes o.output ∷ ps) (paths_same outs)

-- as it is said of the areas
pub begun_same : (files : ConfigFiles) (outs : List OutputCut) (has : List (Option (List ℕ))) (key : ℕ) → begun_each files (map (λ out. string_bytes out.output) outs) has key ≡ begun_each files (paths_of (map output_area_of outs)) has key
begun_same files outs has key = ap (λ ps. begun_each files ps has key) (sym (paths_same outs))

pub begun_calm : (files : ConfigFiles) (outputs : List (List ℕ)) (has : List (Option (List ℕ))) (key : ℕ) → Each Calm (begun_each files outputs has key)
begun_calm files outputs has key =
    let opens = openings files.input.now 1 has in
    each_both Calm (looks_each files.overwrite outputs) (opens ++ seeded (Some key) ∷ []) (calm_looks_each files.overwrite outputs) (each_both Calm opens (seeded (Some key) ∷ []) (calm_openings files.input.now 1 has) (tt, tt))

pub begun_opens : (files : ConfigFiles) (outputs : List (List ℕ)) (has : List (Option (List ℕ))) (key : ℕ) → Opens files.input.now 1 has (begun_each files outputs has key)
begun_opens files outputs has key =
    let opens = openings files.input.now 1 has in
    opens_after files.input.now 1 has (looks_each files.overwrite outputs) (opens ++ seeded (Some key) ∷ []) (opens_before files.input.now 1 has opens (seeded (Some key) ∷ []) (opens_openings files.input.now 1 has))

-- ---- OUTs are made

pub makes_quiet : (program : Program) (parts : List OutPart) (mss : List (List Event)) → AllZip (MakesPart program) parts mss → Each Quiet (flatten mss)
makes_quiet program parts mss e = all_of (MakesPart program) Quiet (λ p es m. quiet_makes program false (string_bytes p.path) (Some (string_bytes p.name)) es m) parts mss e

pub makes_silent : (program : Program) (parts : List OutPart) (mss : List (List Event)) → AllZip (MakesPart program) parts mss → Each Silent (flatten mss)
makes_silent program parts mss e = all_of (MakesPart program) Silent (λ p es m. silent_makes program false (string_bytes p.path) (Some (string_bytes p.name)) es m) parts mss e

-- the files of OUTs that were made and have ended
pub record AreFiles (program : Program) (overwrite : Bool) (parts : List OutPart) (mss : List (List Event)) (ones : List Ended) : Type 0 where
  pub files : List OneFile
  pub each : AllByRecursion (IsHandled program overwrite) files
  pub makes : flat_map (λ one. one.makes) files ≡ flatten mss
  pub outs : map (λ one. wrote one.out) files ≡ map (λ one. wrote one.out) ones
  pub ends : flat_map (λ one. one.ends) files ≡ flat_map (λ one. one.ends) ones
  pub paths : map (λ one. one.output) files ≡ map (λ p. string_bytes p.path) parts
  pub dropped : AllByRecursion (λ e. IsDropped program e.out.name e.ends) ones → AllByRecursion (IsDroppedFile program) files

module _ (program : Program) (overwrite : Bool) where
  pub are_files : (parts : List OutPart) (mss : List (List Event)) (ones : List Ended) → AllZip (MakesPart program) parts mss → AllZip (IsEndedPart program overwrite) parts ones → AreFiles program overwrite parts mss ones
  are_files [] [] [] m e = record { files = []; each = tt; makes = refl; outs = refl; ends = refl; paths = refl; dropped = λ d. tt }
  are_files (p ∷ ps) (ms ∷ mss) (e ∷ es) made ended =
      let rest = are_files ps mss es made.1 ended.1 in
      let one : OneFile = record { output = string_bytes p.path; out = e.out; makes = ms; ends = e.ends } in
      record {
        files = one ∷ rest.files;
        each = ((subst (λ n. IsMade program false (string_bytes p.path) n ms) (sym ended.0.name) made.0, ended.0.ended), rest.each);
        makes = ap (λ xs. ms ++ xs) rest.makes;
        outs = ap (λ xs. wrote e.out ∷ xs) rest.outs;
        ends = ap (λ xs. e.ends ++ xs) rest.ends;
        paths = ap (λ xs. string_bytes p.path ∷ xs) rest.paths;
        dropped = λ d. (d.0, rest.dropped d.1);
      }
  are_files [] (ms ∷ mss) ones m e = absurd m
  are_files (p ∷ ps) [] ones m e = absurd m
  are_files [] [] (x ∷ ones) m e = absurd e
  are_files (p ∷ ps) (ms ∷ mss) [] m e = absurd e

  -- they are the files of these OUTs, or of the first of them
  part_paths : (outs : List OutputCut) (parts : List OutPart) → AllZip IsPartOf outs parts → map (λ p. string_bytes p.path) parts ≡ paths_of (map output_area_of outs)
  part_paths [] [] a = refl
  part_paths (o ∷ outs) (p ∷ parts) a = ap (λ x. x ∷ map (λ q. string_bytes q.path) parts) a.0 ∙ ap (λ xs. string_bytes o.output ∷ xs) (part_paths outs parts a.1)
  part_paths [] (p ∷ parts) a = absurd a
  part_paths (o ∷ outs) [] a = absurd a

  paths_append : (xs ys : List OutputCut) → paths_of (map output_area_of (xs ++ ys)) ≡ paths_of (map output_area_of xs) ++ paths_of (map output_area_of ys)
  paths_append [] ys = refl
  paths_append (x ∷ xs) ys = ap (λ ps. string_bytes x.output ∷ ps) (paths_append xs ys)

  -- all that was done to files, in order
  pub handles_all : (outs done later : List OutputCut) (parts : List OutPart) (mss : List (List Event)) (ones : List Ended) (before between last : List Event) → outs ≡ done ++ later → AllZip IsPartOf done parts → AllZip (MakesPart program) parts mss → AllZip (IsEndedPart program overwrite) parts ones
      → Each Still before → Each Still between → Each Still last → (later ≡ []) ⊎ AllByRecursion (λ e. IsDropped program e.out.name e.ends) ones
      → HandlesEach program overwrite (paths_of (map output_area_of outs)) (before ++ (flatten mss ++ (between ++ (map (λ one. wrote one.out) ones ++ (flat_map (λ one. one.ends) ones ++ last)))))
  handles_all outs done later parts mss ones before between last are paths made ended s t u all =
      let f = are_files parts mss ones made ended in
      let rest = map (λ one. wrote one.out) ones ++ (flat_map (λ one. one.ends) ones ++ last) in (
        f.files,
        paths_of (map output_area_of later),
        ap (λ os. paths_of (map output_area_of os)) are ∙ paths_append done later ∙ ap (λ ps. ps ++ paths_of (map output_area_of later)) (sym (f.paths ∙ part_paths done parts paths)),
        record {
          before = before;
          between = between;
          last = last;
          happened = ap (λ xs. before ++ (xs ++ (between ++ rest))) (sym f.makes)
              ∙ ap (λ xs. before ++ (flat_map (λ one. one.makes) f.files ++ (between ++ (xs ++ (flat_map (λ one. one.ends) ones ++ last))))) (sym f.outs)
              ∙ ap (λ xs. before ++ (flat_map (λ one. one.makes) f.files ++ (between ++ (map (λ one. wrote one.out) f.files ++ (xs ++ last))))) (sym f.ends);
          each = f.each;
          still = (s, t, u);
        },
        all_or_dropped all,
      ) where
        all_or_dropped : (later ≡ []) ⊎ AllByRecursion (λ e. IsDropped program e.out.name e.ends) ones → (paths_of (map output_area_of later) ≡ []) ⊎ AllByRecursion (IsDroppedFile program) (are_files parts mss ones made ended).files
        all_or_dropped (inl none) = inl (ap (λ os. paths_of (map output_area_of os)) none)
        all_or_dropped (inr d) = inr ((are_files parts mss ones made ended).dropped d)

  -- a run whose OUTs have all ended
  pub returns_handled : (outs : List OutputCut) (parts : List OutPart) (mss : List (List Event)) (before : List Event) (k l m n : Option (List Event)) → AllZip IsPartOf outs parts → AllZip (MakesPart program) parts mss → Each Still before → l ≡ then_all k before → m ≡ then_all l (flatten mss) → ReturnsEach program overwrite parts m n
      → SettlesOuts program overwrite (paths_of (map output_area_of outs)) k n
  returns_handled outs parts mss before k l m n paths made s begun makes r =
      let reads = map (λ x. read x) r.rs in
      let rest = reads ++ (map (λ one. wrote one.out) r.ones ++ (flat_map (λ one. one.ends) r.ones ++ r.last)) in
      (before ++ (flatten mss ++ rest), and_then k l n before (flatten mss ++ rest) begun (and_then l m n (flatten mss) rest makes r.log), inr (handles_all outs outs [] parts mss r.ones before reads r.last (sym (append-nil outs)) paths made r.each s (reads_still r.rs) r.still (inl refl))) where
        reads_still : (rs : List Reading) → Each Still (map (λ x. read x) rs)
        reads_still [] = tt
        reads_still (x ∷ rs) = (tt, reads_still rs)

-- ---- not all can be made

-- what was closed empty and dropped
abbrev EndsEmpty : Program → (overwrite : Bool) → List OutPart → (css dss : List (List Event)) → List Ended → Type 0
EndsEmpty program overwrite parts css dss ones = AllZip (IsEndedPart program overwrite) parts ones × (flatten css ≡ map (λ one. wrote one.out) ones) × (flatten dss ≡ flat_map (λ one. one.ends) ones) × Each WroteNothing (flatten css) × Each IsUnkept (flatten css) × Each Silent (flatten css)
    × AllByRecursion (λ one. IsDropped program one.out.name one.ends) ones

module _ (program : Program) (overwrite : Bool) where
  ends_empty : (parts : List OutPart) (css dss : List (List Event)) → AllZip ClosesEmpty parts css → AllZip (DropsPart program) parts dss → (ones : List Ended) × EndsEmpty program overwrite parts css dss ones
  ends_empty [] [] [] c d = ([], (tt, refl, refl, tt, tt, tt, tt))
  ends_empty (p ∷ ps) (cs ∷ css) (ds ∷ dss) c d =
      let rest = ends_empty ps css dss c.1 d.1 in
      let w : Writing = c.0.0 in
      let is : cs ≡ wrote w ∷ [] = c.0.1 in
      let one : Ended = record { readings = []; out = w; ends = ds } in
      let dropped : IsDropped program w.name ds = subst (λ n. IsDropped program n ds) (sym c.0.2) d.0 in (
        one ∷ rest.0,
        (
          (record { name = c.0.2; ended = inr dropped }, rest.1.0),
          ap (λ xs. xs ++ flatten css) is ∙ ap (λ xs. wrote w ∷ xs) rest.1.1,
          ap (λ xs. ds ++ xs) rest.1.2,
          each_both WroteNothing cs (flatten css) (subst (Each WroteNothing) (sym is) (c.0.4, tt)) rest.1.3,
          each_both IsUnkept cs (flatten css) (subst (Each IsUnkept) (sym is) (c.0.3, tt)) rest.1.4,
          each_both Silent cs (flatten css) (subst (Each Silent) (sym is) (tt, tt)) rest.1.5,
          (dropped, rest.1.6),
        ),
      )
  ends_empty [] (cs ∷ css) dss c d = absurd c
  ends_empty (p ∷ ps) [] dss c d = absurd c
  ends_empty [] [] (ds ∷ dss) c d = absurd d
  ends_empty (p ∷ ps) (cs ∷ css) [] c d = absurd d

  pub unmade : (outs : List OutputCut) (how : Ending) (l n : Option (List Event)) → UnmakesEach program outs how l n → (events : List Event) × (n ≡ then_all l events) × FailsMaking program overwrite (paths_of (map output_area_of outs)) how events
  unmade outs how l n u =
      let mss = u.makes.0 in
      let css = u.closes.0 in
      let dss = u.drops.0 in
      let e = ends_empty u.parts css dss u.closes.2 u.drops.2 in
      let makes = flatten mss in
      let closes = flatten css in
      let drops = flatten dss in
      let all = makes ++ (u.tries ++ (closes ++ drops)) in
      let tries_quiet = quiet_of u.tries u.fails.0 in
      let drops_quiet = all_of (DropsPart program) Quiet (λ p es x. dropped_quiet program (Some (string_bytes p.name)) es x) u.parts dss u.drops.2 in
      let drops_silent = all_of (DropsPart program) Silent (λ p es x. dropped_silent program (Some (string_bytes p.name)) es x) u.parts dss u.drops.2 in
      let quiet = makes_quiet program u.parts mss u.makes.2 in
      let ones = e.0 in (
        all,
        and_then l u.first n makes (u.tries ++ (closes ++ drops)) u.makes.1 (and_then u.first u.second n u.tries (closes ++ drops) u.log (and_then u.second u.third n closes drops u.closes.1 u.drops.1)),
        record {
          cause = cause_after how makes (u.tries ++ (closes ++ drops)) (cause_before how u.tries (closes ++ drops) u.fails.1);
          nothing = each_both WroteNothing makes (u.tries ++ (closes ++ drops)) (nothing_in makes quiet) (each_both WroteNothing u.tries (closes ++ drops) (nothing_in u.tries tries_quiet) (each_both WroteNothing closes drops e.1.3 (nothing_in drops drops_quiet)));
          unkept = each_both IsUnkept makes (u.tries ++ (closes ++ drops)) (each_quiet IsUnkept quiet_unkept makes quiet) (each_both IsUnkept u.tries (closes ++ drops) (each_quiet IsUnkept quiet_unkept u.tries tries_quiet) (each_both IsUnkept closes drops e.1.4 (each_quiet IsUnkept quiet_unkept drops drops_quiet)));
          silent = each_both Silent makes (u.tries ++ (closes ++ drops)) (makes_silent program u.parts mss u.makes.2) (each_both Silent u.tries (closes ++ drops) (silent_of u.tries u.fails.0) (each_both Silent closes drops e.1.5 drops_silent));
          files = inr (subst (λ xs. HandlesEach program overwrite (paths_of (map output_area_of outs)) (makes ++ (u.tries ++ xs)))
              (sym (ap (λ xs. xs ++ drops) e.1.1 ∙ ap (λ xs. map (λ one. wrote one.out) ones ++ xs) (e.1.2 ∙ sym (append-nil (flat_map (λ one. one.ends) ones)))))
              (handles_all program overwrite outs u.done u.later u.parts mss ones [] u.tries [] u.are u.paths u.makes.2 e.1.0 tt (still_of u.tries u.fails.0) tt (inr e.1.6)));
        },
      )

-- ---- what each OUT took

module _ {D : Type 0} (d : drain.Ghosts D) (m : Manner) (s : Strategy) (overwrite : Bool) (key : ℕ) (has : List (Option (List ℕ))) (digest : List ℕ) (raw : Option (List ℕ)) where
  -- all of them, with what is printed
  pub record AreWritten (outs : List OutputCut) (mss : List (List Event)) (dones : List DoneOut) (es : List Ended) : Type 0 where
    pub ones : List OneOut
    pub each : AllZip (WritesOne m s overwrite key has digest raw) (map output_area_of outs) ones
    pub makes : flat_map (λ one. one.file.makes) ones ≡ flatten mss
    pub wrote_all : map (λ one. wrote one.file.out) ones ≡ map (λ e. wrote e.out) es
    pub ends : flat_map (λ one. one.file.ends) ones ≡ flat_map (λ e. e.ends) es
    pub lines : flat_map (λ one. out_lines one.counts one.known one.meaning one.file.output) ones ≡ outs_lines (zip outs dones)

  pub are_written : (outs : List OutputCut) (parts : List OutPart) (befores : List (AreaOutput OutputArea D)) (mss : List (List Event)) (dones : List DoneOut) (es : List Ended) → AllZip IsPartOf outs parts → AllZip (IsBegun d) outs befores → AllZip (MakesPart m.program) parts mss
      → AllThree (EndsKept m (check_of m key) s overwrite has digest raw) (zip parts befores) dones es → AreWritten outs mss dones es
  are_written [] [] [] [] [] [] p b k e = record { ones = []; each = tt; makes = refl; wrote_all = refl; ends = refl; lines = refl }
  are_written (o ∷ outs) (p ∷ parts) (b ∷ befores) (ms ∷ mss) (done ∷ dones) (e ∷ es) paths begun made ended =
      let rest = are_written outs parts befores mss dones es paths.1 begun.1 made.1 ended.1 in
      let end = ended.0 in
      let path = string_bytes o.output in
      let one : OneOut = record { file = record { output = string_bytes p.path; out = e.out; makes = ms; ends = e.ends }; readings = e.readings; counts = done.counts; known = done.output; meaning = done.meaning } in
      record {
        ones = one ∷ rest.ones;
        each = (
          record {
            path = paths.0;
            made = subst (λ x. IsMade m.program false x e.out.name ms) paths.0 (subst (λ n. IsMade m.program false (string_bytes p.path) n ms) (sym end.name) made.0);
            named = subst (λ x. IsKept m.program overwrite x e.out.name e.ends) paths.0 (subst (λ n. IsKept m.program overwrite (string_bytes p.path) n e.ends) (sym end.name) end.named);
            kept = end.kept;
            whole = end.whole;
            hashed = end.hashed;
            meaning_hashed = end.meaning_hashed;
            work = subst (λ (a : AreaSpec). IsWork m (check_of m key) (extracting s a) has e.readings e.out.bytes done.counts digest raw) (ap area_of begun.0.cut) end.work;
          },
          rest.each,
        );
        makes = ap (λ xs. ms ++ xs) rest.makes;
        wrote_all = ap (λ xs. wrote e.out ∷ xs) rest.wrote_all;
        ends = ap (λ xs. e.ends ++ xs) rest.ends;
        lines = ap (λ x. out_lines done.counts done.output done.meaning x ++ flat_map (λ one. out_lines one.counts one.known one.meaning one.file.output) rest.ones) paths.0
            ∙ ap (λ xs. out_lines done.counts done.output done.meaning path ++ xs) rest.lines;
      }
  are_written [] (p ∷ parts) befores mss dones es paths begun made ended = absurd paths
  are_written (o ∷ outs) [] befores mss dones es paths begun made ended = absurd paths
  are_written [] [] (b ∷ befores) mss dones es paths begun made ended = absurd begun
  are_written (o ∷ outs) (p ∷ parts) [] mss dones es paths begun made ended = absurd begun
  are_written [] [] [] (ms ∷ mss) dones es paths begun made ended = absurd made
  are_written (o ∷ outs) (p ∷ parts) (b ∷ befores) [] dones es paths begun made ended = absurd made
  are_written [] [] [] [] (done ∷ dones) es paths begun made ended = absurd ended
  are_written [] [] [] [] [] (e ∷ es) paths begun made ended = absurd ended
  are_written (o ∷ outs) (p ∷ parts) (b ∷ befores) (ms ∷ mss) [] es paths begun made ended = absurd ended
  are_written (o ∷ outs) (p ∷ parts) (b ∷ befores) (ms ∷ mss) (done ∷ dones) [] paths begun made ended = absurd ended

  -- each has its whole extract
  pub written_left : (outs : List OutputCut) (ones : List OneOut) → AllZip (WritesOne m s overwrite key has digest raw) (map output_area_of outs) ones → AllZip (λ area w. LeavesOne m (extracting s area) has w) (areas_of (map output_area_of outs)) (map (λ one. one.file.out) ones)
  written_left [] [] a = tt
  written_left (o ∷ outs) (one ∷ ones) a = (inr (check_of m key, one.readings, one.counts, digest, raw, a.0.work), written_left outs ones a.1)
  written_left [] (one ∷ ones) a = absurd a
  written_left (o ∷ outs) [] a = absurd a

pub written_writes : (ones : List OneOut) → map (λ one. wrote one.file.out) ones ≡ writes (map (λ one. one.file.out) ones)
written_writes [] = refl
written_writes (one ∷ ones) = ap (λ xs. wrote one.file.out ∷ xs) (written_writes ones)

-- ---- the areas

module _ {D : Type 0} (d : drain.Ghosts D) where
  pub areas_same : (outs : List OutputCut) (befores : List (AreaOutput OutputArea D)) → AllZip (IsBegun d) outs befores → areas_into befores ≡ areas_of (map output_area_of outs)
  areas_same [] [] b = refl
  areas_same (o ∷ outs) (x ∷ befores) b = ap (λ a. a ∷ areas_into befores) (ap area_of b.0.cut) ∙ ap (λ xs. area_of o.cut ∷ xs) (areas_same outs befores b.1)
  areas_same [] (x ∷ befores) b = absurd b
  areas_same (o ∷ outs) [] b = absurd b

  pub all_fresh : (outs : List OutputCut) (befores : List (AreaOutput OutputArea D)) → AllZip (IsBegun d) outs befores → AllByRecursion (λ out. IsFreshOut d out.drain) befores × AllByRecursion (λ out. out.area.output ≡ None) befores × AllByRecursion (λ out. out.area.meaning ≡ None) befores
  all_fresh [] [] b = (tt, tt, tt)
  all_fresh (o ∷ outs) (x ∷ befores) b = (let rest = all_fresh outs befores b.1 in ((b.0.fresh, rest.0), (b.0.unhashed, rest.1), (b.0.unmeant, rest.2)))
  all_fresh [] (x ∷ befores) b = absurd b
  all_fresh (o ∷ outs) [] b = absurd b

  pub some_begun : (outs : List OutputCut) (befores : List (AreaOutput OutputArea D)) → AllZip (IsBegun d) outs befores → (outs ≡ [] → ⊥) → befores ≡ [] → ⊥
  some_begun [] befores b some none = some refl
  some_begun (o ∷ outs) [] b some none = b
  some_begun (o ∷ outs) (x ∷ befores) b some none = cc

-- what was left, after quiet events
pub left_after : (m : Manner) (s : Strategy) (has : List (Option (List ℕ))) (areas : List AreaSpec) (xs ys : List Event) → Each Quiet xs → AreLeft m s has areas ys → AreLeft m s has areas (xs ++ ys)
left_after m s has areas xs ys q (inl (nothing, unkept)) = inl (each_both WroteNothing xs ys (nothing_in xs q) nothing, each_both IsUnkept xs ys (each_quiet IsUnkept quiet_unkept xs q) unkept)
left_after m s has areas xs ys q (inr l) = inr (record {
  before = xs ++ l.before;
  rs = l.rs;
  ws = l.ws;
  after = l.after;
  happened = ap (λ es. xs ++ es) l.happened ∙ sym (append_assoc xs l.before _);
  quiet = (each_both Quiet xs l.before q l.quiet.0, l.quiet.1);
  each = l.each;
})
