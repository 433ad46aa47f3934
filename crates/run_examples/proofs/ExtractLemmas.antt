-- The lines of the extract's tables.
use Rattle.std.proofs.Common.{Ok, arith, ◌≡◌, inl, inr, ℕ, List, [], ◌∷◌, ◌++◌, Bool, true, false, take, drop, Some, None, ap, codes, refl, sym, subst, ◌∙◌}
use Rattle.clap.specs.Words.{Text, subcommand_of}
use Rattle.osm_area.specs.Area.{box_area}
use Rattle.osm_box.specs.Degrees.{box_of_text}
use Rattle.osm_ways.specs.Selection.{complete_ways}
use Rattle.pbf_examples.specs.Extracts.{two_nodes}
use Rattle.pbf_examples.specs.Frames.{three_nodes}
use Rattle.pbf_examples.specs.Reading.{◌cut_by◌gives◌, box}
use Rattle.pbf_pass.specs.declared.hashing.PassCheck.TheVariants as check
use Rattle.pbfcut.specs.Tasks.{extracting}
use Rattle.pbfcut.specs.Theorem.{IsExtraction}
use Rattle.pbfcut_cli.specs.Endings.{message_of, program_name}
use Rattle.pbfcut_cli.specs.Joined.{normalized}
use Rattle.pbfcut_cli.specs.Words.{AreTaken, IsRead, ReadsAs, program_app}
use Rattle.pbfcut_cli.specs.declared.programs.Program.TheVariants.{Pbfcut}
use Rattle.pbfcut_cli.specs.declared.words.Region.TheVariants as region
use Rattle.pbfcut_cli.specs.declared.words.Strategy.TheVariants.{CompleteWays}
use Rattle.pbfcut_program.proofs.DiskLemmas.{put_other}
use Rattle.pbfcut_program.specs.Changes.{KeepsFile}
use Rattle.pbfcut_program.specs.Events.{Event, advised, made, told}
use Rattle.pbfcut_program.specs.Files.{after, put}
use Rattle.pbfcut_program.specs.Manner.{AreDigests, Manner}
use Rattle.pbfcut_program.specs.Program.{IsMeant, IsRun, RunsExtract, WritesCounts, manner_in}
use Rattle.pbfcut_program.specs.Lines.{counts_text}
use Rattle.pbfcut_program.specs.Readings.{IsWhole, IsWork}
use Rattle.pbfcut_program.specs.Settling.{RunSettles}
use Rattle.sha2.specs.Sha256.{sha256}
use Rattle.run_examples.proofs.Computing.{runs_on_literals}
use Rattle.run_examples.proofs.FlagLemmas.{reads_absent, reads_off, true_false}
use Rattle.run_examples.specs.Extract.{counts, disk, happens, input, meaning, output, rows, typed}
use Rattle.run_examples.specs.Lines.{all_of, files, none_of, whole}

-- ---- what is typed

pub reads : ReadsAs (codes "extract") rows meaning
unfolding runs_on_literals
reads = (
  refl,
  refl,
  refl,
  (refl, refl, reads_off (codes "parents") rows refl),
  (refl, refl),
  record {
    formats = refl;
    input = refl;
    output = inl (refl, refl);
    overwrite = reads_absent (codes "overwrite") rows refl;
    raw = reads_absent (codes "raw") rows refl;
    progress = reads_off (codes "progress") rows refl;
    quiet = reads_off (codes "no-progress") rows refl;
    digests = reads_off (codes "digests") rows refl;
  },
)

pub values_are : subcommand_of (program_app Pbfcut) (normalized typed) ≡ Some (codes "extract", rows)
unfolding runs_on_literals
values_are = refl

pub taken_is : AreTaken Pbfcut (normalized typed)
unfolding runs_on_literals
taken_is = refl

pub degrees_are : box_of_text (codes "0,0,1,1") ≡ Ok box
unfolding runs_on_literals
degrees_are = refl

pub meant_is : IsMeant Pbfcut typed meaning
meant_is = inl (taken_is, subst (λ command. IsRead command meaning) (sym values_are) reads)

-- ---- what happens

abbrev raw : Manner
raw = manner_in Pbfcut meaning

pub extraction_is : IsExtraction complete_ways (box_area box) three_nodes counts two_nodes
unfolding runs_on_literals
extraction_is = (
  record {
    sound = refl;
    extract = record { sound = refl; header = refl; meaning = refl; entities = refl };
    counted = refl;
  },
  record { is = refl; again = refl },
)

-- of any file: the digest is never computed
module _ (file : List ℕ) where
  all_read : IsWhole (AreDigests raw check.Sha256 (sha256 file) None) (Some file) (all_of file) file
  all_read = record { are = refl; end = refl; is_known = (refl, refl); opened = refl }

work_is : IsWork raw check.Sha256 (extracting complete_ways (box_area box)) (Some three_nodes ∷ Some three_nodes ∷ Some three_nodes ∷ []) (all_of three_nodes ∷ none_of three_nodes ∷ all_of three_nodes ∷ []) two_nodes counts (sha256 three_nodes) None
unfolding runs_on_literals
work_is = record {
  files = three_nodes ∷ three_nodes ∷ three_nodes ∷ [];
  read = (all_read three_nodes, (inr (omega arith, refl, refl), (inl (all_read three_nodes), tt)));
  holds = (refl, λ e f. extraction_is);
}

module _ (key : ℕ) where
  writes_are : WritesCounts raw (extracting complete_ways (box_area box)) (files input output) counts (happens key)
  unfolding runs_on_literals
  writes_are = record {
    has = Some three_nodes ∷ Some three_nodes ∷ Some three_nodes ∷ [];
    rs = all_of three_nodes ∷ none_of three_nodes ∷ all_of three_nodes ∷ [];
    out = whole output two_nodes;
    key = key;
    digest = sha256 three_nodes;
    raw = None;
    known = None;
    meaning = None;
    makes = made output ∷ [];
    keeps = [];
    happened = refl;
    passes = refl;
    made = ([], tt, refl, refl);
    named = refl;
    kept = refl;
    whole = refl;
    hashed = refl;
    meaning_hashed = refl;
    work = work_is;
  }

  extracts_are : RunsExtract raw (region.Box box) CompleteWays (files input output) (happens key)
  unfolding runs_on_literals
  extracts_are = record {
    area = box_area box;
    before = [];
    after = happens key;
    counts = counts;
    happened = refl;
    means = (refl, refl);
    writes = writes_are;
  }

  pub run_is : IsRun Pbfcut typed (happens key) 0
  run_is = inl (refl, (meaning, meant_is, extracts_are))

  keeps_file : KeepsFile Pbfcut false output (whole output two_nodes) (happens key)
  keeps_file = record {
    keeps = [];
    file = record {
      before = take 5 (happens key);
      makes = made output ∷ [];
      between = take 3 (drop 6 (happens key));
      last = drop 10 (happens key);
      happened = refl;
      is_made = ([], tt, refl, refl);
      still = ((tt, (tt, (tt, (tt, (tt, tt))))), (tt, (tt, (tt, tt))), (tt, tt));
    };
    is_kept = refl;
    kept = refl;
    whole = refl;
  }

  pub settles_is : RunSettles Pbfcut typed (Some []) (Some (happens key))
  settles_is = inr (meaning, meant_is, (happens key, refl, inr (whole output two_nodes, inl keeps_file)))

-- only a run that fails ends with advice
abbrev is_advice : Event → Bool
is_advice advised = true
is_advice _ = false

abbrev ends_so : (last : Bool) → List Event → Bool
ends_so last [] = last
ends_so last (e ∷ es) = ends_so (is_advice e) es

ends_after : (last : Bool) (es : List Event) (e f : Event) → ends_so last (es ++ e ∷ f ∷ []) ≡ is_advice f
ends_after last [] e f = refl
ends_after last (x ∷ es) e f = ends_after (is_advice x) es e f

pub status_is : (key status : ℕ) → IsRun Pbfcut typed (happens key) status → status ≡ 0
status_is key status (inl r) = r.0
status_is key status (inr f) =
    absurd (true_false (sym (ap (ends_so false) f.happened ∙ ends_after false f.before (told (message_of (program_name Pbfcut) f.how)) advised)))

pub cut_is : three_nodes cut_by box gives two_nodes
unfolding runs_on_literals
cut_is = refl

pub line_is : counts_text counts ≡ codes "nodes 2 ways 0 relations 0\n"
unfolding runs_on_literals
line_is = refl

-- ---- what is on the disk

pub no_other_is : (key : ℕ) (name : Text) → (name ≡ input → ⊥) → (name ≡ output → ⊥) → after (happens key) disk name ≡ None
no_other_is key name not_input not_output =
    put_other output name (Some two_nodes) (put output (Some []) disk) not_output
    ∙ (put_other output name (Some []) disk not_output ∙ put_other input name (Some three_nodes) (λ other. None) not_input)
