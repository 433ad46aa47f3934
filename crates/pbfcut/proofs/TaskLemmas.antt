-- What each call says, as it is said of its task.
use Rattle.std.proofs.Common.{◌≡◌, ℕ, List, [], ◌∷◌, ◌++◌, ◌∙◌, length, slice_index_or, slice_set, ap, Bool, false, Some, Result, Ok, Err, IfOk, OnErr, refl, sym, subst, inl, arith}
use Rattle.std.proofs.lemmas.List.{append-nil}
use Rattle.osm_area.specs.Area.{AreaSpec}
use Rattle.osm_ways.specs.Selection.{Strategy}
use Rattle.pbf_frame.specs.declared.device.Feed as feed
use Rattle.pbf_frame.specs.declared.device.Drain as drain
use Rattle.pbf_frame.specs.declared.stop.Stop.TheVariants as stop
use Rattle.pbf_frame.specs.Transfers.{Added}
use Rattle.pbf_frame.specs.Verdict.{judged}
use Rattle.pbf_frame.proofs.KnownBytes.{append_none}
use Rattle.pbf_pass.specs.declared.hashing.PassCheck.{PassCheck}
use Rattle.pbf_pass.specs.declared.receipt.Halt.{Halt}
use Rattle.pbf_pass.specs.declared.receipt.Halt.TheVariants as halt
use Rattle.pbf_pass.specs.declared.receipt.InputReceipt.{InputReceipt}
use Rattle.pbf_pass.specs.Hashing.{mark_by}
use Rattle.pbf_pass.specs.HeaderLimit.{judged_writable}
use Rattle.pbf_pass.specs.Judged.{fully, judged_file}
use Rattle.pbf_pass.specs.Pass.{CountsFile}
use Rattle.pbf_pass.specs.Refused.{EndsJudging}
use Rattle.pbf_pass.proofs.GivenLemmas.{gave_file_less}
use Rattle.pbfcut.specs.Calls.{DrainUse, FeedUse, GaveBy, TookBy, drained, fed, supply_of, taken_after, taken_before, used}
use Rattle.pbfcut.specs.Ends.{EndsInFront, EndsPasses}
use Rattle.pbfcut.specs.Kept.{IsWritable, conversion_of}
use Rattle.pbfcut.specs.Receipts.{Extracts, Wrote}
use Rattle.pbfcut.specs.Showing.{Shown, ShowsFront}
use Rattle.pbfcut.specs.TaskCalls.{DoesPasses, GaveFiles}
use Rattle.pbfcut.specs.Tasks.{Task, TaskHolds, checking, converting, copying, extracting, showing, spares_by}
use Rattle.pbfcut.specs.Theorem.{IsConverted, IsExtraction}
use Rattle.pbfcut.proofs.ConvertingLemmas.{nothing_out}
use Rattle.pbfcut.proofs.TheoremLemmas.{gave_or_less, took_weaker}

abbrev Outcome : Type 0
Outcome = Result InputReceipt Halt

abbrev Stopped : Halt → Outcome
Stopped h = Err h

-- ---- two feeds

module _ {D : Type 0} (out : DrainUse D) (check : PassCheck) (first second : FeedUse) where
  -- what is said of both files together, of a receipt
  abbrev Gave : (P : List ℕ → Type 0) (Q : (b c written : List ℕ) → Type 0) → InputReceipt → Type 0
  Gave P Q receipt = GaveBy first (mark_by check receipt.input) (λ b. P b × GaveBy second (mark_by check receipt.input) (λ c. TookBy out (λ written. Q b c written)))

  two_files : (task : Task) (receipt : InputReceipt) (P : List ℕ → Type 0) (Q : (b c written : List ℕ) → Type 0) → ((b c written : List ℕ) → P b → Q b c written → TaskHolds task (b ∷ c ∷ []) receipt.counts written)
      → Gave P Q receipt → GaveFiles 0 first (second ∷ []) receipt.spared (mark_by check receipt.input) (λ files. TookBy out (λ written. TaskHolds task files receipt.counts written))
  two_files task receipt P Q meant given =
      gave_file_less first.ghosts first.old first.new (mark_by check receipt.input) (λ b. P b × GaveBy second (mark_by check receipt.input) (λ c. TookBy out (λ written. Q b c written)))
      (λ b. GaveBy second (mark_by check receipt.input) (λ c. TookBy out (λ written. TaskHolds task (b ∷ c ∷ []) receipt.counts written)))
      (λ b both. gave_file_less second.ghosts second.old second.new (mark_by check receipt.input) (λ c. TookBy out (λ written. Q b c written)) (λ c. TookBy out (λ written. TaskHolds task (b ∷ c ∷ []) receipt.counts written))
      (λ c took. took_weaker out.ghosts out.old out.new (λ written. Q b c written) (λ written. TaskHolds task (b ∷ c ∷ []) receipt.counts written) (λ written q. meant b c written both.0 q) took) both.1) given

  pub does_show : (dates : Bool) (result : Outcome) → IfOk result (λ receipt. Gave (λ b. CountsFile (judged_file (Some b)) receipt.counts) (λ b c written. Shown dates (judged_file (Some c)) written) receipt)
      → EndsPasses judged_file first (second ∷ []) out check result → OnErr result (supply_of first ≡ supply_of second → ShowsFront dates (judged_file (supply_of first)) (taken_before out) (taken_after out)) → DoesPasses (showing dates) first (second ∷ []) out check result
  does_show dates (Ok receipt) given ends beginning = record {
    receipt = two_files (showing dates) receipt (λ b. CountsFile (judged_file (Some b)) receipt.counts) (λ b c written. Shown dates (judged_file (Some c)) written) (λ b c written p q. (p, q)) given;
    ends = ends;
    beginning = tt;
  }
  does_show dates (Err h) given ends beginning = record { receipt = tt; ends = ends; beginning = λ b all. beginning (all.0 ∙ sym all.1.0) (fully (judged false 0 b)) (ap judged_file all.0) }

  pub does_convert : (result : Outcome) → IfOk result (λ receipt. Wrote first [] (second ∷ []) out (mark_by check receipt.input) false (λ b written. IsConverted b receipt.counts written))
      → EndsPasses judged_writable first (second ∷ []) out check result → EndsInFront conversion_of (first ∷ second ∷ []) out result → DoesPasses converting first (second ∷ []) out check result
  does_convert (Ok receipt) given ends beginning = record {
    receipt = two_files converting receipt IsWritable (λ b c written. b ≡ c → IsConverted b receipt.counts written) (λ b c written p q. (p, q)) given;
    ends = ends;
    beginning = tt;
  }
  does_convert (Err h) given ends beginning = record { receipt = tt; ends = ends; beginning = beginning }

  pub does_copy : (result : Outcome) → IfOk result (λ receipt. Gave (λ b. CountsFile (judged_file (Some b)) receipt.counts) (λ b c written. written ≡ c) receipt)
      → EndsPasses judged_file first (second ∷ []) out check result → EndsInFront (λ b. b) (first ∷ second ∷ []) out result → DoesPasses copying first (second ∷ []) out check result
  does_copy (Ok receipt) given ends beginning = record {
    receipt = two_files copying receipt (λ b. CountsFile (judged_file (Some b)) receipt.counts) (λ b c written. written ≡ c) (λ b c written p q. (p, q)) given;
    ends = ends;
    beginning = tt;
  }
  does_copy (Err h) given ends beginning = record { receipt = tt; ends = ends; beginning = beginning }

-- ---- extracts

module _ {D : Type 0} (out : DrainUse D) (check : PassCheck) (by : Strategy) (area : AreaSpec) where
  -- what is said of the files together, of a receipt
  abbrev Meant : InputReceipt → List (List ℕ) → Type 0
  Meant receipt files = TookBy out (λ written. TaskHolds (extracting by area) files receipt.counts written)

  three_files : (first second third : FeedUse) (receipt : InputReceipt) → Wrote first (second ∷ []) (third ∷ []) out (mark_by check receipt.input) receipt.spared (λ b written. IsExtraction by area b receipt.counts written)
      → GaveFiles 1 first (second ∷ third ∷ []) receipt.spared (mark_by check receipt.input) (Meant receipt)
  three_files first second third receipt given =
      let mark = mark_by check receipt.input in
      gave_file_less first.ghosts first.old first.new mark _ _ (λ b both. gave_or_less second mark receipt.spared b _ _ (λ c. gave_file_less third.ghosts third.old third.new mark _ _ (λ d took. took_weaker out.ghosts out.old out.new _ _ (λ written same. (both.0, same)) took)) both.1) given

  four_files : (first second third fourth : FeedUse) (receipt : InputReceipt) → Wrote first (second ∷ third ∷ []) (fourth ∷ []) out (mark_by check receipt.input) receipt.spared (λ b written. IsExtraction by area b receipt.counts written)
      → GaveFiles 2 first (second ∷ third ∷ fourth ∷ []) receipt.spared (mark_by check receipt.input) (Meant receipt)
  four_files first second third fourth receipt given =
      let mark = mark_by check receipt.input in
      gave_file_less first.ghosts first.old first.new mark _ _ (λ b both. gave_or_less second mark receipt.spared b _ _ (λ c. gave_or_less third mark receipt.spared b _ _ (λ d. gave_file_less fourth.ghosts fourth.old fourth.new mark _ _ (λ e took. took_weaker out.ghosts out.old out.new _ _ (λ written same. (both.0, same)) took))) both.1) given

  pub does_three : spares_by by ≡ 1 → (first second third : FeedUse) (result : Outcome) → Extracts by area first (second ∷ []) (third ∷ []) out check result → DoesPasses (extracting by area) first (second ∷ third ∷ []) out check result
  does_three one first second third (Ok receipt) x = record {
    receipt = subst (λ n. GaveFiles n first (second ∷ third ∷ []) receipt.spared (mark_by check receipt.input) (Meant receipt)) (sym one) (three_files first second third receipt x.receipt);
    ends = x.ends;
    beginning = tt;
  }
  does_three one first second third (Err h) x = record { receipt = tt; ends = x.ends; beginning = x.beginning }

  pub does_four : spares_by by ≡ 2 → (first second third fourth : FeedUse) (result : Outcome) → Extracts by area first (second ∷ third ∷ []) (fourth ∷ []) out check result → DoesPasses (extracting by area) first (second ∷ third ∷ fourth ∷ []) out check result
  does_four two first second third fourth (Ok receipt) x = record {
    receipt = subst (λ n. GaveFiles n first (second ∷ third ∷ fourth ∷ []) receipt.spared (mark_by check receipt.input) (Meant receipt)) (sym two) (four_files first second third fourth receipt x.receipt);
    ends = x.ends;
    beginning = tt;
  }
  does_four two first second third fourth (Err h) x = record { receipt = tt; ends = x.ends; beginning = x.beginning }

-- ---- one feed, and a drain that nothing is written to

nothing_added : {D : Type 0} (d : drain.Ghosts D) (out : D) → Added d out [] out
nothing_added d out = record { told = sym (append_none (d.taken out)); logged = λ log b has. subst (λ l. d.has_taken out log l) (sym (append-nil b)) has }

module _ {F D : Type 0} (f : feed.Ghosts F) (old now : F) (d : drain.Ghosts D) (out : D) (check : PassCheck) where
  check_ends : (h : Halt) → EndsJudging f old now check (Stopped h) → EndsPasses judged_file (fed f old now) [] (drained d out out) check (Stopped h)
  check_ends (halt.Refused r) e = record { refused = (e.refused, nothing_added d out); stops = (e.stops, refl); changed = tt; feeds = (e.keeps, tt); out = record { counts = omega arith; lender = refl } }
  check_ends (halt.Stopped (stop.Refused fault)) e = absurd (e.refused fault refl)
  check_ends (halt.Stopped stop.Read) e = record { refused = e.refused; stops = inl e.stops; changed = tt; feeds = (e.keeps, tt); out = record { counts = omega arith; lender = refl } }
  check_ends (halt.Stopped stop.Write) e = absurd e.stops
  check_ends (halt.Stopped stop.Memory) e = record { refused = e.refused; stops = tt; changed = tt; feeds = (e.keeps, tt); out = record { counts = omega arith; lender = refl } }
  check_ends (halt.Stopped (stop.Changed pass)) e = absurd e.stops

  pub does_check : (result : Outcome) → IfOk result (λ receipt. GaveBy (fed f old now) (mark_by check receipt.input) (λ b. CountsFile (judged_file (Some b)) receipt.counts)) → EndsJudging f old now check result
      → DoesPasses checking (fed f old now) [] (drained d out out) check result
  does_check (Ok receipt) given e = record {
    receipt = gave_file_less f old now (mark_by check receipt.input) (λ b. CountsFile (judged_file (Some b)) receipt.counts) (λ b. TookBy (drained d out out) (λ written. TaskHolds checking (b ∷ []) receipt.counts written)) (λ b counts. record { written = []; added = nothing_added d out; holding = (counts, refl) }) given;
    ends = record { refused = tt; stops = tt; changed = tt; feeds = (e.keeps, tt); out = record { counts = omega arith; lender = refl } };
    beginning = tt;
  }
  does_check (Err h) given e = record { receipt = tt; ends = check_ends h e; beginning = λ b supply. nothing_out (d.taken out) [] }

-- ---- a list of feeds that is split

module _ {F : Type 0} (f : feed.Ghosts F) where
  last_used : (olds : List F) (d x : F) → length olds ≡ 1 → used f olds (slice_set olds 0 x) ≡ fed f (slice_index_or olds 0 d) x ∷ []
  last_used [] d x is = (let bad : ⊥ = omega (arith, is) in absurd bad)
  last_used (a ∷ []) d x is = refl
  last_used (a ∷ b ∷ more) d x is = (let bad : ⊥ = omega (arith, is) in absurd bad)

  next_used : (olds front back news : List F) (d x : F) → olds ≡ front ++ back → length front ≡ 1 → used f olds (slice_set front 0 x ++ news) ≡ fed f (slice_index_or front 0 d) x ∷ used f back news
  next_used olds [] back news d x is one = (let bad : ⊥ = omega (arith, one) in absurd bad)
  next_used olds (a ∷ []) back news d x is one = ap (λ l. used f l (x ∷ news)) is
  next_used olds (a ∷ b ∷ more) back news d x is one = (let bad : ⊥ = omega (arith, one) in absurd bad)

  none_used : (olds : List F) → length olds ≡ 0 → used f olds olds ≡ []
  none_used [] none = refl
  none_used (a ∷ more) none = (let bad : ⊥ = omega (arith, none) in absurd bad)

  module _ (P : List FeedUse → Type 0) where
    pub one_used : (olds one none : List F) (d x : F) → olds ≡ one ++ none → length one ≡ 1 → length none ≡ 0 → P (fed f (slice_index_or one 0 d) x ∷ []) → P (used f olds (slice_set one 0 x ++ none))
    one_used olds one none d x is n m p = subst P (sym (next_used olds one none none d x is n ∙ ap (λ us. fed f (slice_index_or one 0 d) x ∷ us) (none_used none m))) p

    pub two_used : (olds one two : List F) (d e x y : F) → olds ≡ one ++ two → length one ≡ 1 → length two ≡ 1 → P (fed f (slice_index_or one 0 d) x ∷ fed f (slice_index_or two 0 e) y ∷ []) → P (used f olds (slice_set one 0 x ++ slice_set two 0 y))
    two_used olds one two d e x y is n m p = subst P (sym (next_used olds one two (slice_set two 0 y) d x is n ∙ ap (λ us. fed f (slice_index_or one 0 d) x ∷ us) (last_used two e y m))) p

    pub three_used : (olds one later two three : List F) (d e h x y z : F) → olds ≡ one ++ later → later ≡ two ++ three → length one ≡ 1 → length two ≡ 1 → length three ≡ 1
        → P (fed f (slice_index_or one 0 d) x ∷ fed f (slice_index_or two 0 e) y ∷ fed f (slice_index_or three 0 h) z ∷ []) → P (used f olds (slice_set one 0 x ++ (slice_set two 0 y ++ slice_set three 0 z)))
    three_used olds one later two three d e h x y z is also n m k p =
        subst P (sym (next_used olds one later (slice_set two 0 y ++ slice_set three 0 z) d x is n ∙ ap (λ us. fed f (slice_index_or one 0 d) x ∷ us) (next_used later two three (slice_set three 0 z) e y also m ∙ ap (λ us. fed f (slice_index_or two 0 e) y ∷ us) (last_used three h z k)))) p

    pub four_used : (olds one later two rest three four : List F) (d e h i x y z u : F) → olds ≡ one ++ later → later ≡ two ++ rest → rest ≡ three ++ four → length one ≡ 1 → length two ≡ 1 → length three ≡ 1 → length four ≡ 1
        → P (fed f (slice_index_or one 0 d) x ∷ fed f (slice_index_or two 0 e) y ∷ fed f (slice_index_or three 0 h) z ∷ fed f (slice_index_or four 0 i) u ∷ []) → P (used f olds (slice_set one 0 x ++ (slice_set two 0 y ++ (slice_set three 0 z ++ slice_set four 0 u))))
    four_used olds one later two rest three four d e h i x y z u is also more n m k l p =
        subst P (sym (next_used olds one later (slice_set two 0 y ++ (slice_set three 0 z ++ slice_set four 0 u)) d x is n ∙ ap (λ us. fed f (slice_index_or one 0 d) x ∷ us) (next_used later two rest (slice_set three 0 z ++ slice_set four 0 u) e y also m
        ∙ ap (λ us. fed f (slice_index_or two 0 e) y ∷ us) (next_used rest three four (slice_set four 0 u) h z more k ∙ ap (λ us. fed f (slice_index_or three 0 h) z ∷ us) (last_used four i u l))))) p
