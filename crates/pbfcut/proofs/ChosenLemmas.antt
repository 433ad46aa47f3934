-- What a call says whose passes chose: the pass that takes relations, and the one that writes.
use Rattle.std.proofs.Common.{arith, Bool, ◌≡◌, ℕ, List, [], ◌∷◌, None, Some, Result, IfOk, OnErr, subst, refl, sym, ap, ◌∙◌}
use Rattle.std.proofs.lemmas.Result.{on_err_weaker}
use Rattle.osm_area.specs.Area.{AreaSpec}
use Rattle.osm_entity.specs.Entity.{TagSpec}
use Rattle.osm_ways.specs.Phases.{KeptSets}
use Rattle.osm_ways.specs.Selection.{Strategy, all_parents, complete_ways, smart}
use Rattle.pbf_header.specs.Header.{HeaderSpec}
use Rattle.pbf_frame.specs.Devices.{IsFront}
use Rattle.pbf_pass.specs.declared.receipt.Halt.{Halt}
use Rattle.pbf_pass.specs.declared.receipt.InputReceipt.{InputReceipt}
use Rattle.pbf_pass.specs.declared.receipt.Passes.{Passes}
use Rattle.pbf_pass.specs.Hashing.{Mark, mark_by}
use Rattle.pbf_pass.specs.Judged.{judged_file}
use Rattle.pbf_pass.proofs.GivenLemmas.{gave_file_less, tells_file}
use Rattle.pbfcut.specs.declared.repeat.LaterPass.{LaterPass}
use Rattle.pbfcut.specs.Calls.{DrainUse, FeedUse, GaveBy, GaveOrNot, KeepsAll, TookBy, supply_of, taken_after, taken_before}
use Rattle.pbfcut.specs.Extracting.{IsChoice, IsChoiceWithMembers, IsChoiceWithParents}
use Rattle.pbfcut.specs.Kept.{IsWritable, extract_of}
use Rattle.pbfcut.specs.Pick.{taken_by}
use Rattle.pbfcut.specs.Repeat.{digest_of}
use Rattle.pbfcut.specs.Receipts.{Wrote, judge_by}
use Rattle.pbf_frame.specs.Frames.{FrameSpec}
use Rattle.pbf_frame.specs.Verdict.{Says}
use Rattle.pbfcut.specs.Theorem.{IsExtraction}
use Rattle.pbfcut.specs.Write.{WritesChoice}
use Rattle.pbfcut.proofs.ExtractingLemmas.{Selects, selects_chosen, selects_members, selects_parents, members_sound, extracted, extracts_front, chosen_sound}
use Rattle.pbfcut.specs.Receipts.{Extracts}
use Rattle.pbfcut.proofs.LaterLemmas.{writing_ends}
use Rattle.pbfcut.proofs.TheoremLemmas.{gave_or_less, gave_or_not, told_or_not, took_weaker}

-- two things that hold of a result
pub if_ok_both : {T E : Type 0} (r : Result T E) (P Q R : T → Type 0) → ((x : T) → P x → Q x → R x) → IfOk r P → IfOk r Q → IfOk r R
if_ok_both r P Q R h4 h5 h6 = grind arith

-- ---- the pass that writes

-- what it wrote is the extract of a file, if it wrote from that file, and a prefix of it went out otherwise
module _ {D : Type 0} (last : FeedUse) (out : DrainUse D) (by : Strategy) (area : AreaSpec) (again : LaterPass) (sets : KeptSets) (h : HeaderSpec) (spared : Bool) (r : Result InputReceipt Halt) (wrote : WritesChoice last out again sets h spared r) where
  abbrev WroteExtract : InputReceipt → Mark → Type 0
  WroteExtract receipt digest = GaveBy last digest (λ e. TookBy out (λ written. (b : List ℕ) → Selects b by area (taken_by sets) h → b ≡ e → IsExtraction by area b receipt.counts written))

  pub wrote_extract : (passes : Passes) → again.passes ≡ passes → IfOk r (λ receipt. WroteExtract receipt (mark_by passes.check receipt.input))
  wrote_extract passes is = if_ok_both r _ _ _ (λ receipt input packed.
      let same : digest_of again ≡ mark_by passes.check receipt.input = ap (λ (p : Passes). mark_by p.check again.digest) is ∙ ap (λ (l : List ℕ). mark_by passes.check l) (sym input.0) in
      subst (WroteExtract receipt) same
      (gave_file_less last.ghosts last.old last.new (digest_of again) _ _ (λ e took. took_weaker out.ghosts out.old out.new _ _ (λ written packed b selects is. extracted by area b (taken_by sets) h selects receipt.counts (judged_file (Some e)) written (ap (λ (l : List ℕ). judged_file (Some l)) (sym is)) packed) took) packed)) wrote.input wrote.packed

  pub wrote_front : OnErr r ((b : List ℕ) → supply_of last ≡ Some b → Selects b by area (taken_by sets) h → IsFront (taken_before out) (taken_after out) (extract_of by area b))
  wrote_front = on_err_weaker r (λ front b is selects. extracts_front by area b (taken_by sets) h selects (judged_file (supply_of last)) (taken_before out) (taken_after out) (ap judged_file is) front) wrote.front

-- of a call whose passes chose by two feeds
module _ {D : Type 0} (first second last : FeedUse) (out : DrainUse D) (by : Strategy) (area : AreaSpec) (passes : Passes) (again : LaterPass) (is : again.passes ≡ passes) (sets : KeptSets) (h : HeaderSpec) (spared : Bool) (r : Result InputReceipt Halt) (wrote : WritesChoice last out again sets h spared r)
    (Chose : List ℕ → List ℕ → Type 0) (sound : (b c : List ℕ) → Chose b c → IsWritable b) (select : (b c : List ℕ) → c ≡ b → Chose b c → Selects b by area (taken_by sets) h) where
  pub receipt_by : GaveBy first (mark_by passes.check again.digest) (λ b. GaveOrNot second spared (mark_by passes.check again.digest) b (Chose b))
      → IfOk r (λ receipt. Wrote first (second ∷ []) (last ∷ []) out (mark_by passes.check receipt.input) receipt.spared (λ b written. IsExtraction by area b receipt.counts written))
  receipt_by chosen = if_ok_both r _ _ _ (λ receipt input wrote.
      let digest = mark_by passes.check receipt.input in
      gave_file_less first.ghosts first.old first.new digest (λ b. GaveOrNot second receipt.spared digest b (Chose b)) _ (λ b two. (
        gave_or_not second digest receipt.spared b _ (IsWritable b) (λ c choice. sound b c choice) two,
        gave_or_less second digest receipt.spared b _ _ (λ c choice. gave_file_less last.ghosts last.old last.new digest _ _ (λ e took. took_weaker out.ghosts out.old out.new _ _ (λ written is same third. is b (select b c (sym same) choice) third) took) wrote) two,
      )) (subst (λ (s : Bool). GaveBy first digest (λ b. GaveOrNot second s digest b (Chose b))) (sym input.1) (subst (λ (l : List ℕ). GaveBy first (mark_by passes.check l) (λ b. GaveOrNot second spared (mark_by passes.check l) b (Chose b))) (sym input.0) chosen))) wrote.input
      (wrote_extract last out by area again sets h spared r wrote passes is)

  pub extracts_by : (one : GaveBy first (mark_by passes.check again.digest) (λ b. GaveOrNot second spared (mark_by passes.check again.digest) b (Chose b))) → again.number ≡ 3
      → ((b c : List ℕ) → Chose b c → (frames : List FrameSpec) × Says (judged_file (Some b)) (frames, None)) → KeepsAll (first ∷ second ∷ []) → Extracts by area first (second ∷ []) (last ∷ []) out passes.check r
  extracts_by one number says keeps =
      let said : (frames : List FrameSpec) × Says (judged_file (Some one.file)) (frames, None) =
      gave_or_not second _ spared one.file _ _ (λ file chosen. says one.file file chosen) one.holding in
      record {
        receipt = receipt_by one;
        ends = writing_ends first _ _ one said.0 said.1 (second ∷ []) last again number (ap (λ (p : Passes). mark_by p.check again.digest) is) out sets h spared r wrote (judge_by by) passes.check keeps;
        beginning = on_err_weaker r (λ front b supply.
            let tells = tells_file first.ghosts _ _ _ _ one in
            let chosen = told_or_not second _ spared _ one.file b _ tells supply.0 supply.1.0 one.holding in
            front b supply.1.1.0 (subst (λ (l : List ℕ). Selects l by area (taken_by sets) h) (tells b supply.0) (select one.file b (sym (tells b supply.0)) chosen))) (wrote_front last out by area again sets h spared r wrote);
      }

-- of a call without parents, and with them
module _ {D : Type 0} (first second last : FeedUse) (out : DrainUse D) (area : AreaSpec) (passes : Passes) (again : LaterPass) (is : again.passes ≡ passes) (sets : KeptSets) (h : HeaderSpec) (spared : Bool) (r : Result InputReceipt Halt) (wrote : WritesChoice last out again sets h spared r) where
  pub extract_receipt : GaveBy first (mark_by passes.check again.digest) (λ b. GaveOrNot second spared (mark_by passes.check again.digest) b (λ c. IsChoice area b c sets h))
      → IfOk r (λ receipt. Wrote first (second ∷ []) (last ∷ []) out (mark_by passes.check receipt.input) receipt.spared (λ b written. IsExtraction complete_ways area b receipt.counts written))
  extract_receipt = receipt_by first second last out complete_ways area passes again is sets h spared r wrote (λ b c. IsChoice area b c sets h) (λ b c choice. chosen_sound area b _ _ h choice.chosen) (λ b c same choice. selects_chosen sets area b b c h refl same choice)

  -- with all parents, by a third feed
  abbrev GaveParents : FeedUse → (spared : Bool) → Mark → Type 0
  GaveParents third spared digest = GaveBy first digest (λ b. GaveOrNot second spared digest b (λ c. GaveOrNot third spared digest b (λ e. IsChoiceWithParents area b c e sets h)))

  pub parents_receipt : (third : FeedUse) → GaveParents third spared (mark_by passes.check again.digest)
      → IfOk r (λ receipt. Wrote first (second ∷ third ∷ []) (last ∷ []) out (mark_by passes.check receipt.input) receipt.spared (λ b written. IsExtraction all_parents area b receipt.counts written))
  parents_receipt third chosen = if_ok_both r _ _ _ (λ receipt input wrote.
      let digest = mark_by passes.check receipt.input in
      let judged = λ (l : List ℕ). judged_file (Some l) in
      gave_file_less first.ghosts first.old first.new digest (λ b. GaveOrNot second receipt.spared digest b (λ c. GaveOrNot third receipt.spared digest b (λ e. IsChoiceWithParents area b c e sets h))) _ (λ b two. (
        gave_or_not second digest receipt.spared b _ (IsWritable b) (λ c three. gave_or_not third digest receipt.spared b _ (IsWritable b) (λ e choice. chosen_sound area b _ _ h choice.chosen.chosen) three) two,
        gave_or_less second digest receipt.spared b _ _ (λ c three. gave_or_less third digest receipt.spared b _ _ (λ e choice. gave_file_less last.ghosts last.old last.new digest _ _ (λ n took. took_weaker out.ghosts out.old out.new _ _ (λ written is same more fourth.
            is b (selects_parents sets area b _ _ _ h refl (ap judged (sym same)) (ap judged (sym more)) choice.chosen) fourth) took) wrote) three) two,
      )) (subst (λ (s : Bool). GaveParents third s digest) (sym input.1) (subst (λ (l : List ℕ). GaveParents third spared (mark_by passes.check l)) (sym input.0) chosen))) wrote.input
      (wrote_extract last out all_parents area again sets h spared r wrote passes is)

-- of a smart one
module _ {D : Type 0} (first second last : FeedUse) (out : DrainUse D) (whole : List TagSpec → Bool) (area : AreaSpec) (passes : Passes) (again : LaterPass) (is : again.passes ≡ passes) (sets : KeptSets) (h : HeaderSpec) (spared : Bool) (r : Result InputReceipt Halt) (wrote : WritesChoice last out again sets h spared r) where
  pub smart_extracts : GaveBy first (mark_by passes.check again.digest) (λ b. GaveOrNot second spared (mark_by passes.check again.digest) b (λ c. IsChoiceWithMembers whole area b c sets h)) → again.number ≡ 3 → KeepsAll (first ∷ second ∷ [])
      → Extracts (smart whole) area first (second ∷ []) (last ∷ []) out passes.check r
  smart_extracts one number keeps = extracts_by first second last out (smart whole) area passes again is sets h spared r wrote (λ b c. IsChoiceWithMembers whole area b c sets h) (λ b c choice. members_sound whole area b _ sets h choice.chosen)
      (λ b c same choice. selects_members whole sets area b _ _ h refl (ap (λ (l : List ℕ). judged_file (Some l)) same) choice.chosen) one number (λ b c choice. (choice.chosen.frames, choice.chosen.judged)) keeps
