-- What was done to the files of several OUTs, among more that changes nothing.
use Rattle.std.proofs.Common.{◌≡◌, ◌∙◌, inl, inr, ℕ, List, ◌++◌, map, Bool, Option, refl, sym, ap, append_assoc}
use Rattle.std.specs.List.{flat_map}
use Rattle.pbfcut_cli.specs.declared.programs.Program.{Program}
use Rattle.pbfcut_cli.specs.declared.words.ConfigFiles.{ConfigFiles}
use Rattle.pbfcut_program.specs.Configured.{MeansConfig, OutputArea}
use Rattle.pbfcut_program.specs.Events.{Event, then_all, wrote}
use Rattle.pbfcut_program.specs.Fails.{Each}
use Rattle.pbfcut_program.specs.Files.{Still}
use Rattle.pbfcut_program.specs.Settling.{HandlesConfigured, IsStill, SettlesEach}
use Rattle.pbfcut_program.specs.SeveralChanges.{HandlesEach, HandlesFiles, OneFile, SettlesOuts}
use Rattle.pbfcut_program.specs.SeveralWrites.{folder_of, paths_of}
use Rattle.pbfcut_program.proofs.EventLemmas.{each_both}
use Rattle.pbfcut_program.proofs.Logging.{and_then}

five_after : (a b c d e xs ys : List Event) → (a ++ (b ++ (c ++ (d ++ (e ++ xs))))) ++ ys ≡ a ++ (b ++ (c ++ (d ++ (e ++ (xs ++ ys)))))
five_after a b c d e xs ys =
    append_assoc a (b ++ (c ++ (d ++ (e ++ xs)))) ys ∙ ap (λ zs. a ++ zs) (append_assoc b (c ++ (d ++ (e ++ xs))) ys ∙ ap (λ zs. b ++ zs) (append_assoc c (d ++ (e ++ xs)) ys
    ∙ ap (λ zs. c ++ zs) (append_assoc d (e ++ xs) ys ∙ ap (λ zs. d ++ zs) (append_assoc e xs ys))))

module _ (program : Program) (overwrite : Bool) where
  pub files_after : (files : List OneFile) (events xs : List Event) → Each Still xs → HandlesFiles program overwrite files events → HandlesFiles program overwrite files (xs ++ events)
  files_after files events xs s h = record {
    before = xs ++ h.before;
    between = h.between;
    last = h.last;
    happened = ap (λ es. xs ++ es) h.happened ∙ sym (append_assoc xs h.before _);
    each = h.each;
    still = (each_both Still xs h.before s h.still.0, h.still.1, h.still.2);
  }

  files_before : (files : List OneFile) (events ys : List Event) → Each Still ys → HandlesFiles program overwrite files events → HandlesFiles program overwrite files (events ++ ys)
  files_before files events ys s h = record {
    before = h.before;
    between = h.between;
    last = h.last ++ ys;
    happened = ap (λ es. es ++ ys) h.happened ∙ five_after h.before (flat_map (λ one. one.makes) files) h.between (map (λ one. wrote one.out) files) (flat_map (λ one. one.ends) files) h.last ys;
    each = h.each;
    still = (h.still.0, h.still.1, each_both Still h.last ys h.still.2 s);
  }

  handles_after : (outputs : List (List ℕ)) (events xs : List Event) → Each Still xs → HandlesEach program overwrite outputs events → HandlesEach program overwrite outputs (xs ++ events)
  handles_after outputs events xs s (files, later, are, h, all) = (files, later, are, files_after files events xs s h, all)

  handles_before : (outputs : List (List ℕ)) (events ys : List Event) → Each Still ys → HandlesEach program overwrite outputs events → HandlesEach program overwrite outputs (events ++ ys)
  handles_before outputs events ys s (files, later, are, h, all) = (files, later, are, files_before files events ys s h, all)

  pub outs_after : (outputs : List (List ℕ)) (l m n : Option (List Event)) → IsStill l m → SettlesOuts program overwrite outputs m n → SettlesOuts program overwrite outputs l n
  outs_after outputs l m n s (events, e, inl t) = (s.0 ++ events, and_then l m n s.0 events s.1 e, inl (each_both Still s.0 events s.2 t))
  outs_after outputs l m n s (events, e, inr t) = (s.0 ++ events, and_then l m n s.0 events s.1 e, inr (handles_after outputs events s.0 s.2 t))

  pub outs_before : (outputs : List (List ℕ)) (l m n : Option (List Event)) → SettlesOuts program overwrite outputs l m → IsStill m n → SettlesOuts program overwrite outputs l n
  outs_before outputs l m n (events, e, inl t) s = (events ++ s.0, and_then l m n events s.0 e s.1, inl (each_both Still events s.0 t s.2))
  outs_before outputs l m n (events, e, inr t) s = (events ++ s.0, and_then l m n events s.0 e s.1, inr (handles_before outputs events s.0 s.2 t))

-- ---- the whole command

module _ (program : Program) (files : ConfigFiles) where
  -- nothing was done
  pub still_each : (l m : Option (List Event)) → IsStill l m → SettlesEach program files l m
  still_each l m (events, e, s) = (events, e, inl s)

  -- once the configuration was read
  pub configured_each : (outs : List OutputArea) (first : List Event) (l m n : Option (List Event)) → m ≡ then_all l first → Each Still first → MeansConfig files.config.now (folder_of files) first outs → SettlesOuts program files.overwrite (paths_of outs) m n → SettlesEach program files l n
  configured_each outs first l m n log still means (events, e, inl s) = (first ++ events, and_then l m n first events log e, inl (each_both Still first events still s))
  configured_each outs first l m n log still means (events, e, inr h) = (first ++ events, and_then l m n first events log e, inr (outs, first, events, refl, means, h))

  configured_before : (events ys : List Event) → Each Still ys → HandlesConfigured program files events → HandlesConfigured program files (events ++ ys)
  configured_before events ys s (outs, first, later, are, means, h) =
      (outs, first, later ++ ys, ap (λ es. es ++ ys) are ∙ append_assoc first later ys, means, handles_before program files.overwrite (paths_of outs) later ys s h)

  pub each_before : (l m n : Option (List Event)) → SettlesEach program files l m → IsStill m n → SettlesEach program files l n
  each_before l m n (events, e, inl t) s = (events ++ s.0, and_then l m n events s.0 e s.1, inl (each_both Still events s.0 t s.2))
  each_before l m n (events, e, inr h) s = (events ++ s.0, and_then l m n events s.0 e s.1, inr (configured_before events s.0 s.2 h))
