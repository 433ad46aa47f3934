-- The lines of the extract by pbfcutz.
use Rattle.std.proofs.Common.{arith, false, ◌≡◌, inl, inr, ℕ, List, [], ◌∷◌, Some, None, codes, refl, sym, subst, ◌∙◌, ◌⊎◌, take, drop}
use Rattle.std.specs.Prelude.{replicate}
use Rattle.std.proofs.lemmas.Slice.Eq.{bytes_eq-Decides}
use Rattle.clap.specs.Words.{Text, subcommand_of}
use Rattle.osm_area.specs.Area.{box_area}
use Rattle.osm_ways.specs.Selection.{complete_ways}
use Rattle.pbf_examples.specs.Extracts.{two_nodes}
use Rattle.pbf_examples.specs.Frames.{three_nodes}
use Rattle.pbf_examples.specs.Reading.{box}
use Rattle.pbf_frame.specs.Steps.{head_of}
use Rattle.pbf_pass.specs.Hashing.{keyed_digest}
use Rattle.pbf_pass.specs.declared.hashing.PassCheck.TheVariants as check
use Rattle.pbf_unpack.specs.Unpacked.{unpacked, unpacked_from, unpacked_within}
use Rattle.pbfcut.specs.Kept.{IsWritable}
use Rattle.pbfcut.specs.Tasks.{Task, extracting}
use Rattle.pbfcut.specs.Theorem.{IsExtraction}
use Rattle.pbfcut_cli.specs.Joined.{normalized}
use Rattle.pbfcut_cli.specs.Words.{AreTaken, IsRead, ReadsAs, program_app}
use Rattle.pbfcut_cli.specs.declared.programs.Program.TheVariants.{Pbfcutz}
use Rattle.pbfcut_cli.specs.declared.words.Region.TheVariants as region
use Rattle.pbfcut_cli.specs.declared.words.Strategy.TheVariants.{CompleteWays}
use Rattle.pbfcut_program.proofs.DiskLemmas.{put_other}
use Rattle.pbfcut_program.specs.Changes.{KeepsFile}
use Rattle.pbfcut_program.specs.Events.{linked, made, removed}
use Rattle.pbfcut_program.specs.Files.{IsKept, after, put}
use Rattle.pbfcut_program.specs.Manner.{AreDigests, Manner}
use Rattle.pbfcut_program.specs.Program.{IsMeant, IsRun, RunsExtract, WritesCounts, manner_in}
use Rattle.pbfcut_program.specs.Readings.{IsWhole, IsWork}
use Rattle.pbfcut_program.specs.Settling.{RunSettles}
use Rattle.run_examples.proofs.Computing.{runs_on_literals}
use Rattle.run_examples.proofs.ExtractLemmas.{extraction_is}
use Rattle.run_examples.proofs.FlagLemmas.{reads_off, reads_on, true_false}
use Rattle.run_examples.specs.Extract.{counts, disk, input, output}
use Rattle.run_examples.specs.Lines.{all_of, none_of, raw_files, whole}
use Rattle.run_examples.specs.Packed.{meaning_raw, part, parts, rows_raw, typed_raw}

-- ---- what is typed

reads : ReadsAs (codes "extract") rows_raw meaning_raw
unfolding runs_on_literals
reads = (
  refl,
  refl,
  refl,
  (refl, refl, reads_off (codes "parents") rows_raw refl),
  (refl, refl),
  record {
    formats = refl;
    input = refl;
    output = inl (refl, refl);
    overwrite = reads_off (codes "overwrite") rows_raw refl;
    raw = reads_on (codes "raw") rows_raw refl;
    progress = reads_off (codes "progress") rows_raw refl;
    quiet = reads_off (codes "no-progress") rows_raw refl;
    digests = reads_off (codes "digests") rows_raw refl;
  },
)

pub values_are : subcommand_of (program_app Pbfcutz) (normalized typed_raw) ≡ Some (codes "extract", rows_raw)
unfolding runs_on_literals
values_are = refl

pub taken_is : AreTaken Pbfcutz (normalized typed_raw)
unfolding runs_on_literals
taken_is = refl

pub meant_is : IsMeant Pbfcutz typed_raw meaning_raw
meant_is = inl (taken_is, subst (λ command. IsRead command meaning_raw) (sym values_are) reads)

-- ---- what happens

abbrev m : Manner
m = manner_in Pbfcutz meaning_raw

abbrev task : Task
task = extracting complete_ways (box_area box)

pub same : unpacked three_nodes ≡ three_nodes
unfolding runs_on_literals head_of unpacked_within unpacked_from
same = refl

-- of any file and any key: the hash is never computed
module _ (key : ℕ) (file : List ℕ) where
  all_read : IsWhole (AreDigests m (check.Keyed key) (keyed_digest key file) (Some (replicate 32 0))) (Some file) (all_of file) file
  all_read = record { are = refl; end = refl; is_known = (refl, (replicate 32 0, refl, refl)); opened = refl }

writable : IsWritable three_nodes
unfolding runs_on_literals
writable = refl

module _ (key : ℕ) where
  work_is : IsWork m (check.Keyed key) task (Some three_nodes ∷ Some three_nodes ∷ Some three_nodes ∷ []) (all_of three_nodes ∷ none_of three_nodes ∷ all_of three_nodes ∷ []) two_nodes counts (keyed_digest key three_nodes) (Some (replicate 32 0))
  work_is = record {
    files = three_nodes ∷ three_nodes ∷ three_nodes ∷ [];
    read = (all_read key three_nodes, (inr (omega arith, refl, refl), (inl (all_read key three_nodes), tt)));
    holds = (
      subst (λ file. IsWritable file) (sym same) writable,
      λ e f. subst (λ file. IsExtraction complete_ways (box_area box) file counts two_nodes) (sym same) extraction_is,
    );
  }

  pub not_output : part ≡ output → ⊥
  not_output e = true_false (sym ((bytes_eq-Decides part output).1 e))

  named_is : IsKept Pbfcutz false output (Some part) (linked part output ∷ removed part ∷ [])
  named_is = ([], linked part output ∷ removed part ∷ [], [], refl, tt, inl (removed part, inl refl, refl), tt)

  writes_are : WritesCounts m task (raw_files input output) counts (parts key)
  unfolding runs_on_literals
  writes_are = record {
    has = Some three_nodes ∷ Some three_nodes ∷ Some three_nodes ∷ [];
    rs = all_of three_nodes ∷ none_of three_nodes ∷ all_of three_nodes ∷ [];
    out = whole part two_nodes;
    key = key;
    digest = keyed_digest key three_nodes;
    raw = Some (replicate 32 0);
    known = None;
    meaning = None;
    makes = made part ∷ [];
    keeps = linked part output ∷ removed part ∷ [];
    happened = refl;
    passes = refl;
    made = ([], tt, not_output, refl);
    named = named_is;
    kept = refl;
    whole = refl;
    hashed = refl;
    meaning_hashed = refl;
    work = work_is;
  }

  extracts_are : RunsExtract m (region.Box box) CompleteWays (raw_files input output) (parts key)
  unfolding runs_on_literals
  extracts_are = record {
    area = box_area box;
    before = [];
    after = parts key;
    counts = counts;
    happened = refl;
    means = (refl, refl);
    writes = writes_are;
  }

  pub run_is : IsRun Pbfcutz typed_raw (parts key) 0
  run_is = inl (refl, (meaning_raw, meant_is, extracts_are))

  keeps_file : KeepsFile Pbfcutz false output (whole part two_nodes) (parts key)
  keeps_file = record {
    keeps = linked part output ∷ removed part ∷ [];
    file = record {
      before = take 5 (parts key);
      makes = made part ∷ [];
      between = take 3 (drop 6 (parts key));
      last = drop 12 (parts key);
      happened = refl;
      is_made = ([], tt, not_output, refl);
      still = ((tt, (tt, (tt, (tt, (tt, tt))))), (tt, (tt, (tt, tt))), (tt, tt));
    };
    is_kept = named_is;
    kept = refl;
    whole = refl;
  }

  pub settles_is : RunSettles Pbfcutz typed_raw (Some []) (Some (parts key))
  settles_is = inr (meaning_raw, meant_is, (parts key, refl, inr (whole part two_nodes, inl keeps_file)))

-- ---- what is on the disk

pub no_other_is : (key : ℕ) (name : Text) → (name ≡ part) ⊎ (name ≡ part → ⊥) → (name ≡ input → ⊥) → (name ≡ output → ⊥) → after (parts key) disk name ≡ None
no_other_is key name (inl e) not_in not_out = subst (λ n. after (parts key) disk n ≡ None) (sym e) refl
no_other_is key name (inr not_part) not_in not_out =
    put_other part name None (put output (Some two_nodes) (put part (Some two_nodes) (put part (Some []) disk))) not_part
    ∙ (put_other output name (Some two_nodes) (put part (Some two_nodes) (put part (Some []) disk)) not_out
    ∙ (put_other part name (Some two_nodes) (put part (Some []) disk) not_part
    ∙ (put_other part name (Some []) disk not_part ∙ put_other input name (Some three_nodes) (λ other. None) not_in)))
