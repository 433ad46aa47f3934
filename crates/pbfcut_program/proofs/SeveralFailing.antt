-- What a failed run of pbfcutz left that cuts out the areas of a configuration.
use Rattle.std.proofs.Common.{arith, ◌≡◌, ◌∙◌, ◌⊎◌, inl, inr, ℕ, ◌+◌, Bool, List, [], ◌∷◌, ◌++◌, length, length-append, map, true, false, Option, Some, Result, Ok, codes, refl, ap, subst, sym, append_assoc}
use Rattle.std.proofs.lemmas.List.{append-nil}
use Rattle.std.specs.List.{AllByRecursion, AllZip, flat_map}
use Rattle.clap.specs.Words.{Row, Text}
use Rattle.osm_area.specs.Area.{AreaSpec}
use Rattle.osm_config.specs.Configs.{ExtractSpec}
use Rattle.osm_config.specs.Paths.{extracts_of_text}
use Rattle.osm_ways.specs.Selection.{Strategy}
use Rattle.pbfcut_cli.specs.Words.{ReadsAs, is_given}
use Rattle.pbfcut_cli.specs.declared.endings.Ending.{Ending}
use Rattle.pbfcut_cli.specs.declared.programs.Program.TheVariants.{Pbfcutz}
use Rattle.pbfcut_cli.specs.declared.words.Command.TheVariants.{ExtractEach}
use Rattle.pbfcut_cli.specs.declared.words.ConfigFiles.{ConfigFiles}
use Rattle.pbfcut_program.specs.Configured.{MeansConfig, MeansEach, OutputArea}
use Rattle.pbfcut_program.specs.Events.{Event, Reading, Writing, read, text_read, wrote}
use Rattle.pbfcut_program.specs.Fails.{Each, Opens, Quiet}
use Rattle.pbfcut_program.specs.Failures.{EndsBadly}
use Rattle.pbfcut_program.specs.Files.{AllowsAll, Disk, after}
use Rattle.pbfcut_program.specs.Manner.{Manner}
use Rattle.pbfcut_program.specs.Program.{manner_in}
use Rattle.pbfcut_program.specs.Settling.{HandlesConfigured}
use Rattle.pbfcut_program.specs.SeveralChanges.{HandlesFiles, IsApart, IsDroppedFile, IsHandled, IsKeptWhole, OneFile, Pairwise}
use Rattle.pbfcut_program.specs.SeveralFailures.{LeavesItsOut, LeavesSeveral, MeansExtract}
use Rattle.pbfcut_program.specs.SeveralWrites.{AreLeft, LeavesEach, LeavesOne, LeavesOuts, areas_of, folder_of, paths_of, strategy_with}
use Rattle.pbfcut_program.specs.Taking.{Happened}
use Rattle.pbfcut.specs.Tasks.{extracting}
use Rattle.pbfcut_program.proofs.ConfiguredLemmas.{config_calm}
use Rattle.pbfcut_program.proofs.DiskLemmas.{allows_first, happened_after, happened_before}
use Rattle.pbfcut_program.proofs.EventLemmas.{each_both, quiet_of}
use Rattle.pbfcut_program.proofs.FailLemmas.{opens_after, opens_before}
use Rattle.pbfcut_program.proofs.FailureLemmas.{Handles, Why, all_opened, failed, handled, last, none_wrote, true_false, unkept, why, wrote_earlier, wrote_later}
use Rattle.pbfcut_program.proofs.RunLemmas.{Configured, IsOneOf, configured_is, each_of}
use Rattle.pbfcut_program.proofs.SettlingLemmas.{IsSame, still_of}
use Rattle.pbfcut_program.proofs.SeveralDisk.{always_there, dropped_back, kept_there, others_back}
use Rattle.pbfcut_program.proofs.SeveralGiving.{outs_on}
use Rattle.pbfcut_program.proofs.SeveralParts.{parts_are_new}
use Rattle.pbfcut_program.proofs.SeveralSettling.{files_after}
use Rattle.pbfcut_program.proofs.TakingLemmas.{AllHad, all_had, holds_extract}

-- ---- what was written, in order

abbrev writings : List Event → List Writing
writings [] = []
writings (wrote w ∷ es) = w ∷ writings es
writings (_ ∷ es) = writings es

writing_first : (e : Event) (xs ys : List Event) → writings (xs ++ ys) ≡ writings xs ++ writings ys → writings (e ∷ xs ++ ys) ≡ writings (e ∷ xs) ++ writings ys
writing_first e xs ys h3 = grind arith

writings_both : (xs ys : List Event) → writings (xs ++ ys) ≡ writings xs ++ writings ys
writings_both [] ys = refl
writings_both (x ∷ xs) ys = writing_first x xs ys (writings_both xs ys)

quiet_first : (e : Event) (xs : List Event) → Quiet e → writings (e ∷ xs) ≡ writings xs
quiet_first e xs h2 = grind arith

quiet_writes : (xs : List Event) → Each Quiet xs → writings xs ≡ []
quiet_writes [] q = refl
quiet_writes (x ∷ xs) q = quiet_first x xs q.0 ∙ quiet_writes xs q.1

reads_write : (rs : List Reading) → writings (map (λ r. read r) rs) ≡ []
reads_write [] = refl
reads_write (r ∷ rs) = reads_write rs

all_writings : (ws : List Writing) → writings (map (λ w. wrote w) ws) ≡ ws
all_writings [] = refl
all_writings (w ∷ ws) = ap (λ more. w ∷ more) (all_writings ws)

file_writings : (ones : List OneFile) → writings (map (λ one. wrote one.out) ones) ≡ map (λ one. one.out) ones
file_writings [] = refl
file_writings (one ∷ ones) = ap (λ more. one.out ∷ more) (file_writings ones)

-- a list with one of the same length in it is that
only_middle : (xs ys zs ws : List Writing) → ws ≡ xs ++ (ys ++ zs) → length ws ≡ length ys → ws ≡ ys
only_middle [] ys [] ws is same = is ∙ append-nil ys
only_middle [] ys (z ∷ zs) ws is same =
    let long : length ws ≡ length ys + length (z ∷ zs) = ap (λ l. length l) is ∙ length-append ys (z ∷ zs) in
    absurd (omega (arith, long, same))
only_middle (x ∷ xs) ys zs ws is same =
    let long : length ws ≡ length (x ∷ xs) + (length ys + length zs) = ap (λ l. length l) is ∙ length-append (x ∷ xs) (ys ++ zs) ∙ ap (λ n. length (x ∷ xs) + n) (length-append ys zs) in
    absurd (omega (arith, long, same))

-- ---- the OUTs that a configuration names

first_same : {A : Type 0} (a b : A) (more rest : List A) → a ∷ more ≡ b ∷ rest → a ≡ b
first_same a b more rest e = cc

later_same : {A : Type 0} (a b : A) (more rest : List A) → a ∷ more ≡ b ∷ rest → more ≡ rest
later_same a b more rest e = cc

none_more : {A : Type 0} (a : A) (more : List A) → ◌≡◌ {A = List A} [] (a ∷ more) → ⊥
none_more a more e = cc

ok_same : {A B : Type 0} (a b : A) → ◌≡◌ {A = Result A B} (Ok a) (Ok b) → a ≡ b
ok_same a b e = cc

text_same : (p q t u : List ℕ) → text_read p t ≡ text_read q u → t ≡ u
text_same p q t u e = cc

each_paths : (xs : List ExtractSpec) (es : List Event) (os : List OutputArea) → MeansEach xs es os → paths_of os ≡ map (λ x. x.output) xs
each_paths [] es [] m = refl
each_paths [] es (o ∷ os) m = absurd m
each_paths (x ∷ xs) es [] m = absurd m
each_paths (x ∷ xs) es (o ∷ os) m = ap (λ p. p ∷ paths_of os) m.3 ∙ ap (λ ps. x.output ∷ ps) (each_paths xs m.1 os m.5)

-- the paths are those that it names, however the configuration was read
same_paths : (config : List ℕ) (folder : Option (List ℕ)) (events fs ls gs ks : List Event) (xs ys : List OutputArea) → events ≡ fs ++ ls → events ≡ gs ++ ks → MeansConfig config folder fs xs → MeansConfig config folder gs ys → paths_of xs ≡ paths_of ys
same_paths config folder events fs ls gs ks xs ys a b m n =
    let one : text_read config m.text ∷ (m.later ++ ls) ≡ text_read config n.text ∷ (n.later ++ ks) = ap (λ es. es ++ ls) (sym m.happened) ∙ sym a ∙ b ∙ ap (λ es. es ++ ks) n.happened in
    let text = text_same config config m.text n.text (first_same _ _ _ _ one) in
    let named = ok_same m.extracts n.extracts (sym m.are ∙ ap (λ t. extracts_of_text config folder t) text ∙ n.are) in
    each_paths m.extracts m.later xs m.each ∙ ap (λ es. map (λ x. x.output) es) named ∙ sym (each_paths n.extracts n.later ys n.each)

record IsSplit (outs : List OutputArea) (ones : List OneFile) : Type 0 where
  made : List OutputArea
  unmade : List OutputArea
  are : outs ≡ made ++ unmade
  paths : map (λ one. one.output) ones ≡ paths_of made

split : (outs : List OutputArea) (ones : List OneFile) (more : List (List ℕ)) → paths_of outs ≡ map (λ one. one.output) ones ++ more → IsSplit outs ones
split outs [] more p = record { made = []; unmade = outs; are = refl; paths = refl }
split [] (one ∷ ones) more p = absurd (none_more one.output (map (λ o. o.output) ones ++ more) p)
split (out ∷ outs) (one ∷ ones) more p =
    let s = split outs ones more (later_same out.output one.output (paths_of outs) (map (λ o. o.output) ones ++ more) p) in
    let here = first_same out.output one.output (paths_of outs) (map (λ o. o.output) ones ++ more) p in
    record { made = out ∷ s.made; unmade = s.unmade; are = ap (λ os. out ∷ os) s.are; paths = ap (λ x. x ∷ map (λ o. o.output) ones) (sym here) ∙ ap (λ ps. out.output ∷ ps) s.paths }

-- ---- how each of them ends

module _ (m : Manner) (s : Strategy) (overwrite : Bool) (file : List ℕ) where
  -- it is dropped; or it is kept, and has its extract
  record EndsSo (out : OutputArea) (one : OneFile) : Type 0 where
    path : one.output ≡ out.output
    ends : IsDroppedFile Pbfcutz one ⊎ (IsKeptWhole Pbfcutz overwrite one × MeansExtract m s file out one.out.bytes)

  dropped_so : (outs : List OutputArea) (ones : List OneFile) → map (λ one. one.output) ones ≡ paths_of outs → AllByRecursion (IsDroppedFile Pbfcutz) ones → AllZip EndsSo outs ones
  dropped_so [] [] p d = tt
  dropped_so (out ∷ outs) [] p d = absurd (none_more out.output (paths_of outs) p)
  dropped_so [] (one ∷ ones) p d = absurd (none_more one.output (map (λ o. o.output) ones) (sym p))
  dropped_so (out ∷ outs) (one ∷ ones) p d =
      let rest = map (λ o. o.output) ones in
      (record { path = first_same one.output out.output rest (paths_of outs) p; ends = inl d.0 }, dropped_so outs ones (later_same one.output out.output rest (paths_of outs) p) d.1)

  left_so : (has : List (Option (List ℕ))) → AllHad file has → (outs : List OutputArea) (ones : List OneFile) → map (λ one. one.output) ones ≡ paths_of outs → AllByRecursion (IsHandled Pbfcutz overwrite) ones
      → AllZip (λ area w. LeavesOne m (extracting s area) has w) (areas_of outs) (map (λ one. one.out) ones) → AllZip EndsSo outs ones
  left_so has had [] [] p h l = tt
  left_so has had (out ∷ outs) [] p h l = absurd (none_more out.output (paths_of outs) p)
  left_so has had [] (one ∷ ones) p h l = absurd (none_more one.output (map (λ o. o.output) ones) (sym p))
  left_so has had (out ∷ outs) (one ∷ ones) p h l =
      let rest = map (λ o. o.output) ones in
      (record { path = first_same one.output out.output rest (paths_of outs) p; ends = of h.0.1 l.0 }, left_so has had outs ones (later_same one.output out.output rest (paths_of outs) p) h.1 l.1) where
        of : IsKeptWhole Pbfcutz overwrite one ⊎ IsDroppedFile Pbfcutz one → LeavesOne m (extracting s out.area) has one.out → IsDroppedFile Pbfcutz one ⊎ (IsKeptWhole Pbfcutz overwrite one × MeansExtract m s file out one.out.bytes)
        of (inr d) t = inl d
        of (inl k) (inl u) = absurd (true_false (sym k.0 ∙ u.0))
        of (inl k) (inr (by, rs, counts, digest, raw, work)) = inr (k, (counts, holds_extract file m s out.area work.files counts _ (all_had file _ _ has rs work.files work.read had) work.holds))

  -- and so it is on the disk
  module _ (events : List Event) (disk : Disk) (a : AllowsAll disk events) where
    on_disk : (fronts : List OneFile) (outs : List OutputArea) (ones : List OneFile) → AllZip EndsSo outs ones → HandlesFiles Pbfcutz overwrite (fronts ++ ones) events → Pairwise IsApart (fronts ++ ones) → AllByRecursion (LeavesItsOut m s file events disk) outs
    on_disk fronts [] [] w x apart = tt
    on_disk fronts [] (one ∷ ones) w x apart = absurd w
    on_disk fronts (out ∷ outs) [] w x apart = absurd w
    on_disk fronts (out ∷ outs) (one ∷ ones) w x apart =
        let more = sym (append_assoc fronts (one ∷ []) ones) in
        (of w.0.ends, on_disk (fronts ++ one ∷ []) outs ones w.1 (subst (λ fs. HandlesFiles Pbfcutz overwrite fs events) more x) (subst (λ fs. Pairwise IsApart fs) more apart)) where
          of : IsDroppedFile Pbfcutz one ⊎ (IsKeptWhole Pbfcutz overwrite one × MeansExtract m s file out one.out.bytes) → LeavesItsOut m s file events disk out
          of (inl d) = inl (ap (λ o. after events disk o) (sym w.0.path) ∙ dropped_back overwrite fronts one ones events x apart disk d ∙ ap disk w.0.path)
          of (inr (k, means)) = inr (record { bytes = one.out.bytes; there = ap (λ o. after events disk o) (sym w.0.path) ∙ kept_there overwrite fronts one ones events x apart disk a k; has = means })

-- what isn't to be kept is dropped
unkept_dropped : (overwrite : Bool) (ones : List OneFile) → AllByRecursion (IsHandled Pbfcutz overwrite) ones → ((w : Writing) → Happened (wrote w) (map (λ one. wrote one.out) ones) → w.kept ≡ false) → AllByRecursion (IsDroppedFile Pbfcutz) ones
unkept_dropped overwrite [] h n = tt
unkept_dropped overwrite (one ∷ ones) h n = (of h.0.1, unkept_dropped overwrite ones h.1 (λ w i. n w (inr i))) where
  of : IsKeptWhole Pbfcutz overwrite one ⊎ IsDroppedFile Pbfcutz one → IsDroppedFile Pbfcutz one
  of (inl k) = absurd (true_false (sym k.0 ∙ n one.out (inl refl)))
  of (inr d) = d

paths_length : (ones : List OneFile) → length (map (λ one. one.output) ones) ≡ length (map (λ one. one.out) ones)
paths_length [] = refl
paths_length (one ∷ ones) = (let more = paths_length ones in omega (arith, more))

areas_length : (R : AreaSpec → Writing → Type 0) (outs : List OutputArea) (ws : List Writing) → AllZip R (areas_of outs) ws → length ws ≡ length (paths_of outs)
areas_length R [] [] l = refl
areas_length R [] (w ∷ ws) l = absurd l
areas_length R (out ∷ outs) [] l = absurd l
areas_length R (out ∷ outs) (w ∷ ws) l = (let more = areas_length R outs ws l.1 in omega (arith, more))

-- ---- the whole run

module _ (words : List Text) (rows : List Row) (given : is_given (codes "config") rows ≡ true) (events : List Event) (disk : Disk) (file : List ℕ) (e : EndsBadly Pbfcutz words (codes "extract") rows events disk file) where
  abbrev pub IsLeft : Type 0
  IsLeft = (parents : Bool) × (files : ConfigFiles) × ReadsAs (codes "extract") rows (ExtractEach parents files) × LeavesSeveral (manner_in Pbfcutz (ExtractEach parents files)) (strategy_with parents) files file events disk

  -- the files of some of its OUTs were made and ended
  module _ (overwrite : Bool) (ones : List OneFile) (h : HandlesFiles Pbfcutz overwrite ones events) where
    -- by what is known of each of them
    so_left : (c : Configured) → ReadsAs (codes "extract") rows (each_of c) → (made unmade : List OutputArea) (first later : List Event) → events ≡ first ++ later → MeansConfig c.1.config.now (folder_of c.1) first (made ++ unmade) → map (λ one. one.output) ones ≡ paths_of made
        → (Pairwise IsApart ones → AllByRecursion (λ one. c.1.input.now ≡ one.output → ⊥) ones → AllZip (EndsSo (manner_in Pbfcutz (each_of c)) (strategy_with c.0) overwrite file) made ones) → IsLeft
    so_left c r made unmade first later are means paths ends = (
      c.0,
      c.1,
      r,
      record {
        made = made;
        unmade = unmade;
        outs_on = outs_on disk _ _ first (made ++ unmade) means (allows_first first later disk (subst (λ es. AllowsAll disk es) are e.allowed));
        ones = ones;
        paths = paths;
        each = λ apart elsewhere. on_disk (manner_in Pbfcutz (each_of c)) (strategy_with c.0) overwrite file events disk e.allowed [] made ones (ends apart elsewhere) h apart;
        others = λ apart path outputs left. others_back overwrite ones events h apart disk e.allowed path outputs left;
        parts = λ apart path left. parts_are_new overwrite ones events h apart disk e.allowed path left;
      },
    )

    module _ (c : Configured) (r : ReadsAs (codes "extract") rows (each_of c)) (outs : List OutputArea) (more : List (List ℕ)) (first later : List Event) (are : events ≡ first ++ later) (means : MeansConfig c.1.config.now (folder_of c.1) first outs) (paths : paths_of outs ≡ map (λ one. one.output) ones ++ more) where
      -- all of them were dropped
      dropped_left : AllByRecursion (IsDroppedFile Pbfcutz) ones → IsLeft
      dropped_left d =
          let s = split outs ones more paths in
          so_left c r s.made s.unmade first later are (subst (λ os. MeansConfig c.1.config.now (folder_of c.1) first os) s.are means) s.paths
          (λ apart elsewhere. dropped_so (manner_in Pbfcutz (each_of c)) (strategy_with c.0) overwrite file s.made ones s.paths d)

      written : (w : Writing) → Happened (wrote w) (map (λ one. wrote one.out) ones) → Happened (wrote w) events
      written w i =
          let ends = flat_map (λ one. one.ends) ones ++ h.last in
          let writes = map (λ one. wrote one.out) ones in
          let makes = flat_map (λ one. one.makes) ones in
          subst (λ es. Happened (wrote w) es) (sym h.happened) (happened_after (wrote w) h.before (makes ++ (h.between ++ (writes ++ ends))) (happened_after (wrote w) makes (h.between ++ (writes ++ ends)) (happened_after (wrote w) h.between (writes ++ ends) (happened_before (wrote w) writes ends i))))

      -- none was to be kept
      unkept_left : ((w : Writing) → Happened (wrote w) events → w.kept ≡ false) → IsLeft
      unkept_left n = dropped_left (unkept_dropped overwrite ones h.each (λ w i. n w (written w i)))

      -- nothing was written
      quiet_left : Each Quiet events → IsLeft
      quiet_left q = unkept_left (λ w i. absurd (none_wrote w events q i))

      -- the last events say why it failed
      module _ (how : Ending) (before : List Event) (happened : events ≡ before ++ last words (codes "extract") rows events disk file e each_of (λ p. configured_is rows p given) how) where
        abbrev ending : List Event
        ending = last words (codes "extract") rows events disk file e each_of (λ p. configured_is rows p given) how

        before_left : Each Quiet before → IsLeft
        before_left q = quiet_left (subst (λ es. Each Quiet es) (sym happened) (each_both Quiet before ending q (tt, (tt, tt))))

        module _ (y : Configured) (ry : ReadsAs (codes "extract") rows (each_of y)) (l : LeavesEach (manner_in Pbfcutz (each_of y)) (strategy_with y.0) y.1 before) where
          rest : events ≡ l.before ++ (l.after ++ ending)
          rest = happened ∙ ap (λ es. es ++ ending) l.happened ∙ append_assoc l.before l.after ending

          calm : Each Quiet l.before
          calm = quiet_of l.before (config_calm _ _ l.before l.outs l.means)

          -- all OUTs were closed
          module _ (none : more ≡ []) (x : LeavesOuts (manner_in Pbfcutz (each_of y)) (strategy_with y.0) l.left.has (areas_of l.outs) l.after) where
            named : paths_of l.outs ≡ paths_of outs
            named =
                let config = some_is (sym ry.2.config ∙ r.2.config) in
                let folder = ry.2.directory ∙ sym r.2.directory in
                same_paths c.1.config.now (folder_of c.1) events l.before (l.after ++ ending) first later l.outs outs rest are
                (subst (λ f. MeansConfig c.1.config.now f l.before l.outs) folder (subst (λ p. MeansConfig p (folder_of y.1) l.before l.outs) config l.means)) means where
                  some_is : {a b : List ℕ} → Some a ≡ Some b → a ≡ b
                  some_is is = cc

            all_paths : map (λ one. one.output) ones ≡ paths_of l.outs
            all_paths = sym (named ∙ paths ∙ ap (λ ps. map (λ one. one.output) ones ++ ps) none ∙ append-nil (map (λ one. one.output) ones))

            closed : writings events ≡ x.ws
            closed =
                let reads = map (λ r. read r) x.rs in
                let writes = map (λ w. wrote w) x.ws in
                let inner : writings l.after ≡ x.ws = ap (λ es. writings es) x.happened ∙ writings_both x.before (reads ++ (writes ++ x.after)) ∙ ap (λ ws. ws ++ writings (reads ++ (writes ++ x.after))) (quiet_writes x.before x.quiet.0)
                ∙ writings_both reads (writes ++ x.after) ∙ ap (λ ws. ws ++ writings (writes ++ x.after)) (reads_write x.rs)
                ∙ writings_both writes x.after ∙ ap (λ ws. ws ++ writings x.after) (all_writings x.ws) ∙ ap (λ ws. x.ws ++ ws) (quiet_writes x.after x.quiet.1) ∙ append-nil x.ws in
                ap (λ es. writings es) rest ∙ writings_both l.before (l.after ++ ending) ∙ ap (λ ws. ws ++ writings (l.after ++ ending)) (quiet_writes l.before calm)
                ∙ writings_both l.after ending ∙ append-nil (writings l.after) ∙ inner

            same_ws : x.ws ≡ map (λ one. one.out) ones
            same_ws =
                let ends = flat_map (λ one. one.ends) ones ++ h.last in
                let writes = map (λ one. wrote one.out) ones in
                let makes = flat_map (λ one. one.makes) ones in
                let front = h.before ++ (makes ++ h.between) in
                let regroup : events ≡ front ++ (writes ++ ends) = h.happened ∙ ap (λ es. h.before ++ es) (sym (append_assoc makes h.between (writes ++ ends))) ∙ sym (append_assoc h.before (makes ++ h.between) (writes ++ ends)) in
                let mid : x.ws ≡ writings front ++ (map (λ one. one.out) ones ++ writings ends) = sym closed ∙ ap (λ es. writings es) regroup ∙ writings_both front (writes ++ ends)
                ∙ ap (λ ws. writings front ++ ws) (writings_both writes ends ∙ ap (λ ws. ws ++ writings ends) (file_writings ones)) in
                only_middle (writings front) (map (λ one. one.out) ones) (writings ends) x.ws mid (areas_length _ l.outs x.ws x.each ∙ ap (λ ps. length ps) (sym all_paths) ∙ paths_length ones)

            had : Pairwise IsApart ones → AllByRecursion (λ one. y.1.input.now ≡ one.output → ⊥) ones → AllHad file l.left.has
            had apart elsewhere =
                let opens = subst (λ es. Opens y.1.input.now 1 l.left.has es) (sym rest) (opens_after y.1.input.now 1 l.left.has l.before (l.after ++ ending) (opens_before y.1.input.now 1 l.left.has l.after ending l.left.opens)) in
                all_opened events disk e.allowed y.1.input.now file (λ started later is. always_there overwrite ones events h apart disk e.allowed y.1.input.now file (ap disk ry.2.input ∙ e.there) elsewhere started later is) 1 l.left.has opens

            closed_left : IsLeft
            closed_left = so_left y ry l.outs [] l.before (l.after ++ ending) rest (subst (λ os. MeansConfig y.1.config.now (folder_of y.1) l.before os) (sym (append-nil l.outs)) l.means) all_paths
                (λ apart elsewhere. left_so (manner_in Pbfcutz (each_of y)) (strategy_with y.0) overwrite file l.left.has (had apart elsewhere) l.outs ones all_paths h.each
                (subst (λ ws. AllZip (λ area w. LeavesOne (manner_in Pbfcutz (each_of y)) (extracting (strategy_with y.0) area) l.left.has w) (areas_of l.outs) ws) same_ws x.each))

          each_left : (more ≡ []) ⊎ AllByRecursion (IsDroppedFile Pbfcutz) ones → AreLeft (manner_in Pbfcutz (each_of y)) (strategy_with y.0) l.left.has (areas_of l.outs) l.after → IsLeft
          each_left all (inl u) = unkept_left (λ w i. unkept w l.after u.1 (wrote_earlier w l.after ending (tt, (tt, tt)) (wrote_later w l.before (l.after ++ ending) calm (subst (λ es. Happened (wrote w) es) rest i))))
          each_left (inl none) (inr x) = closed_left none x
          each_left (inr d) (inr x) = dropped_left d

        any_left : (more ≡ []) ⊎ AllByRecursion (IsDroppedFile Pbfcutz) ones → (before ≡ []) ⊎ IsOneOf each_of (codes "extract") rows (Why words (codes "extract") rows events disk file e each_of (λ p. configured_is rows p given) before) → IsLeft
        any_left all (inl none) = before_left (subst (λ es. Each Quiet es) (sym none) tt)
        any_left all (inr y) = of y.holds.1.1 where
          of : Each Quiet before ⊎ LeavesEach (manner_in Pbfcutz (each_of y.words)) (strategy_with y.words.0) y.words.1 before → IsLeft
          of (inl q) = before_left q
          of (inr l) = each_left y.words y.reads l all l.left.left

  by_configured : (c : Configured) → ReadsAs (codes "extract") rows (each_of c) → HandlesConfigured Pbfcutz c.1 events → IsLeft
  by_configured c r (outs, first, later, are, means, (ones, more, paths, handles, all)) =
      let f = failed words (codes "extract") rows events disk file e each_of (λ p. configured_is rows p given) e.run in
      let h = subst (λ es. HandlesFiles Pbfcutz c.1.overwrite ones es) (sym are) (files_after Pbfcutz c.1.overwrite ones later first (still_of first (config_calm _ _ first outs means)) handles) in
      any_left c.1.overwrite ones h c r outs more first later are means paths f.how f.before f.happened all (why words (codes "extract") rows events disk file e each_of (λ p. configured_is rows p given) f.how f.before f.why)

  pub extracts_left : IsSame events disk ⊎ IsLeft
  extracts_left = of (handled words (codes "extract") rows events disk file e each_of (λ p. configured_is rows p given)) where
    of : IsSame events disk ⊎ IsOneOf each_of (codes "extract") rows (Handles words (codes "extract") rows events disk file e each_of (λ p. configured_is rows p given)) → IsSame events disk ⊎ IsLeft
    of (inl same) = inl same
    of (inr x) = inr (by_configured x.words x.reads x.holds)
