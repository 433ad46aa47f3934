-- What one of several writers has written, and what went out of it if the pass stopped.
use Rattle.std.proofs.Common.{◌≡◌, ◌⊎◌, ℕ, ◌≤◌, List, [], ◌∷◌, false, Option, Some, subst, inl, inr, refl, sym, ap, ◌∙◌, arith}
use Rattle.std.specs.List.{AllByRecursion, AllZip, filter}
use Rattle.osm_entity.specs.Entity.{EntitySpec}
use Rattle.osm_pack.specs.Cuts.{at_end, header_frame, written_file}
use Rattle.osm_pack.specs.Packing.{Pending}
use Rattle.osm_pack.specs.Stops.{IsPackStop}
use Rattle.pbf_header.specs.Header.{HeaderSpec, header_of}
use Rattle.pbf_frame.specs.declared.device.Feed as feed
use Rattle.pbf_frame.specs.declared.device.Drain as drain
use Rattle.pbf_frame.specs.declared.stop.Stop.{Stop}
use Rattle.pbf_frame.specs.declared.stop.Stop.TheVariants as why
use Rattle.pbf_frame.specs.Devices.{HasRisen, IsFront}
use Rattle.pbf_frame.specs.Frames.{FrameSpec}
use Rattle.pbf_frame.specs.Verdict.{Verdict, judged_known}
use Rattle.pbf_frame.proofs.Beginnings.{front_whole}
use Rattle.pbf_pass.specs.Counting.{counts_of, stored_entities}
use Rattle.pbf_pass.specs.Each.{EachTook, OneFailed, VisitsFront}
use Rattle.pbf_pass.specs.Judged.{fully_known, judged_file}
use Rattle.pbf_pass.specs.Unjudged.{ReadsFaulty, StopsAtFrame, StopsUnjudged}
use Rattle.pbf_pass.specs.Refused.{RefusesRest}
use Rattle.pbf_pass.proofs.GivenLemmas.{Tells}
use Rattle.pbf_pass.specs.Visit.{RefusesVisit, Visited, VisitsAll, StopsVisit}
use Rattle.pbf_pass.proofs.EachLemmas.{each_stops, each_visited, each_visits}
use Rattle.pbf_pass.proofs.UnjudgedLemmas.{faulty_visited, stops_visited}
use Rattle.pbfcut.specs.declared.writing_each.AreaWriter.{AreaWriter}
use Rattle.pbfcut.specs.Pick.{HasPacked, Pick, picks_of}
use Rattle.pbfcut.specs.Several.{AnyZip, IsFreshWriter, KeepsWriter, OneStopped, PutsHeader, StopsAtHeader, StopsAtLast, WriterBegan, WriterFailed, WriterFails, WriterTakes, WriterTook, WritesLast}
use Rattle.pbfcut.proofs.ConvertingLemmas.{nothing_out}
use Rattle.pbfcut.proofs.PickingLemmas.{behind_header, end_front, ended, header_alone, none_packed, whole_file}
use Rattle.pbfcut.proofs.SeveralLemmas.{any_after, any_weaker, each_after, one_of, zip_then, zip_weaker, zip_with}
use Rattle.pbfcut.proofs.WritingLemmas.{HasWritten, fails_in_last_frame, frames_all, front_told, front_written, has_written, last_front}

abbrev pick_in : {A D S H : Type 0} → AreaWriter A D S H → Pick
pick_in w = picks_of w.entities.picker

abbrev header_in : {A D S H : Type 0} → AreaWriter A D S H → HeaderSpec
header_in w = header_of w.choice.now.header

module _ {A D S H : Type 0} (d : drain.Ghosts D) where
  -- ---- it keeps its drain

  kept : (a : AreaWriter A D S H) → KeepsWriter d a a
  kept a = record { area = refl; choice = refl; drain = record { counts = omega arith; lender = refl } }

  pub kept_then : (a b c : AreaWriter A D S H) → KeepsWriter d a b → KeepsWriter d b c → KeepsWriter d a c
  kept_then a b c first then = record {
    area = then.area ∙ first.area;
    choice = then.choice ∙ first.choice;
    drain = record { counts = omega (arith, first.drain.counts, then.drain.counts); lender = then.drain.lender ∙ first.drain.lender };
  }

  kept_visited : (fs : List FrameSpec) (a b : AreaWriter A D S H) → Visited (WriterTakes d) a fs b → KeepsWriter d a b
  kept_visited [] a b same = subst (λ w. KeepsWriter d a w) (sym same) (kept a)
  kept_visited (f ∷ fs) a b v = kept_then a v.0 b (record { area = v.1.3; choice = v.1.4; drain = v.1.0.keeps.drain_kept }) (kept_visited fs v.0 b v.2)

  pub kept_all : (known : Option Verdict) (count : ℕ) (a b : AreaWriter A D S H) → VisitsAll (WriterTakes d) known count a b → KeepsWriter d a b
  kept_all known count a b v = kept_visited v.frames a b v.visited

  pub kept_stopped : (known : Option Verdict) (read : Type 0) (stop : Stop) (a b : AreaWriter A D S H) → StopsVisit (WriterTakes d) (WriterFails d) known read a b stop → KeepsWriter d a b
  kept_stopped known read stop a b (inl s) = kept_visited s.frames a b s.visited
  kept_stopped known read stop a b (inr s) = kept_then a s.mid b (kept_visited s.frames a s.mid s.visited) (record { area = s.failing.1; choice = s.failing.2; drain = s.failing.0.keeps.drain_kept })

  -- ---- the header

  -- what went out of it is a prefix of the header
  pub record HeaderFront (a b : AreaWriter A D S H) : Type 0 where
    pub front : IsFront (d.taken a.packer.drain) (d.taken b.packer.drain) (header_frame (header_in a))
    pub keeps : KeepsWriter d a b

  pub header_put : (a b : AreaWriter A D S H) → PutsHeader d a b → HeaderFront a b
  header_put a b put = record { front = front_whole _ _ (header_frame (header_in a)) put.written.told; keeps = put.keeps }

  pub header_stopped : (stop : Stop) (a b : AreaWriter A D S H) → StopsAtHeader d stop a b → HeaderFront a b
  header_stopped stop a b stops = record { front = stops.front; keeps = stops.keeps }

  pub header_none : (a : AreaWriter A D S H) → HeaderFront a a
  header_none a = record { front = nothing_out _ _; keeps = kept a }

  pub began_header : (known : Option Verdict) (a b : AreaWriter A D S H) → HeaderFront a b → WriterBegan d known a b
  began_header known a b h frames is = header_alone (header_in a) _ _ (filter (pick_in a) (stored_entities frames)) h.front

  -- ---- what waited

  pub record LastFront (a b : AreaWriter A D S H) : Type 0 where
    pub front : (es : List EntitySpec) → Pending a.packer es → IsFront (d.taken a.packer.drain) (d.taken b.packer.drain) (at_end es)
    pub keeps : KeepsWriter d a b

  pub last_written : (a b : AreaWriter A D S H) → WritesLast d a b → LastFront a b
  last_written a b w = record { front = λ es waits. front_whole _ _ (at_end es) (w.written es waits).told; keeps = w.keeps }

  pub last_stopped : (stop : Stop) (a b : AreaWriter A D S H) → StopsAtLast d stop a b → LastFront a b
  last_stopped stop a b stops = record { front = stops.front; keeps = stops.keeps }

  pub last_none : (a : AreaWriter A D S H) → LastFront a a
  last_none a = record { front = λ es waits. nothing_out _ _; keeps = kept a }

  -- ---- the frames, after the header

  module _ (number : ℕ) (first start : AreaWriter A D S H) (fresh : IsFreshWriter number first) (put : PutsHeader d first start) where
    none : HasPacked d start.packer.drain [] start.packer
    none = none_packed d start.packer put.none

    zero : start.entities.counts ≡ counts_of []
    zero = ap (λ e. e.counts) put.entities ∙ fresh.counts

    picks : pick_in start ≡ pick_in first
    picks = ap (λ e. picks_of e.picker) put.entities

    -- a prefix went out, if the pass stopped
    pub began_frames : (known : Option Verdict) (read : Type 0) (stop : Stop) (now : AreaWriter A D S H) → StopsVisit (WriterTakes d) (WriterFails d) known read start now stop → WriterBegan d (fully_known known) first now
    began_frames known read stop now stopped frames is =
        behind_header (header_in first) _ _ _ (filter (pick_in first) (stored_entities frames)) put.written.told
        (front_written d (λ v. v.packer) (λ v. v.entities.counts) pick_in (λ v. v.entities.number) (WriterTakes d) (λ old new f one. (one.0, ap picks_of one.1, one.2)) start (pick_in first) picks (WriterFails d) known read now stop (λ mid f s failing. failing.0) stopped none zero frames is)

    abbrev Written : List FrameSpec → AreaWriter A D S H → Type 0
    Written fs now = HasWritten d (λ v. v.packer) (λ v. v.entities.counts) pick_in (λ v. v.entities.number) (WriterTakes d) (λ old new f one. (one.0, ap picks_of one.1, one.2)) start (pick_in first) picks fs now

    written : (fs : List FrameSpec) (now : AreaWriter A D S H) → Visited (WriterTakes d) start fs now → Written fs now
    written fs now visited = has_written d (λ v. v.packer) (λ v. v.entities.counts) pick_in (λ v. v.entities.number) (WriterTakes d) (λ old new f one. (one.0, ap picks_of one.1, one.2)) start (pick_in first) picks fs now visited none zero

    -- all of the file was packed, and then what waited went out
    pub took_file : (file : List ℕ) (count : ℕ) (mid now : AreaWriter A D S H) → VisitsAll (WriterTakes d) (judged_known false 0 (Some file)) count start mid → WritesLast d mid now → WriterTook d (judged_file (Some file)) first now
    took_file file count mid now all last =
        let w = written all.frames mid all.visited in
        let es = w.frames.es in
        record {
          written = written_file (header_in first) es;
          added = whole_file d (header_in first) _ _ _ es put.written (ended d _ es mid.packer now.packer w.frames.packed last.written);
          holding = λ frames is. frames_all d (pick_in first) _ (header_in first) all.frames mid.entities.counts now.entities.counts _ w.frames (ap (λ e. e.counts) last.entities) frames (sym (ap fully_known all.says) ∙ is);
        }

    -- or only a prefix of that
    pub began_last : (file : List ℕ) (count : ℕ) (mid now : AreaWriter A D S H) → VisitsAll (WriterTakes d) (judged_known false 0 (Some file)) count start mid → LastFront mid now → WriterBegan d (judged_file (Some file)) first now
    began_last file count mid now all last frames is =
        let w = written all.frames mid all.visited in
        behind_header (header_in first) _ _ _ (filter (pick_in first) (stored_entities frames)) put.written.told
        (last_front d (pick_in first) _ all.frames frames _ _ _ w.frames (end_front d _ w.frames.es mid.packer now.packer w.frames.packed last.front) (sym (ap fully_known all.says) ∙ is))

-- ---- all of them

risen_since : (first before now : ℕ) → first ≤ before → HasRisen before now → HasRisen first now
risen_since first before now low risen = omega (arith, low, risen)

any_none : {X Y : Type 0} (R : X → Y → Type 0) → ((x : X) (y : Y) → R x y → ⊥) → (xs : List X) (ys : List Y) → AnyZip R xs ys → ⊥
any_none R h (x ∷ xs) (y ∷ ys) (inl one) = h x y one
any_none R h (x ∷ xs) (y ∷ ys) (inr more) = any_none R h xs ys more
any_none R h [] [] none = absurd none
any_none R h [] (y ∷ ys) none = absurd none
any_none R h (x ∷ xs) [] none = absurd none

stops_more : (number : ℕ) (wrote more : Type 0) (f : FrameSpec) (s : Stop) → (wrote → more) → StopsAtFrame number wrote f s → StopsAtFrame number more f s
stops_more number wrote more f (why.Refused e) h failing = failing
stops_more number wrote more f why.Read h failing = failing
stops_more number wrote more f why.Write h failing = h failing
stops_more number wrote more f why.Memory h failing = failing
stops_more number wrote more f (why.Changed n) h failing = failing

pub unjudged_more : (number : ℕ) (known : Option Verdict) (read wrote more : Type 0) (s : Stop) → (wrote → more) → StopsUnjudged number known read wrote s → StopsUnjudged number known read more s
unjudged_more number known read wrote more (why.Refused e) h failing = failing
unjudged_more number known read wrote more why.Read h failing = failing
unjudged_more number known read wrote more why.Write h failing = h failing
unjudged_more number known read wrote more why.Memory h failing = failing
unjudged_more number known read wrote more (why.Changed n) h failing = failing

module _ {A D S H : Type 0} (d : drain.Ghosts D) (number : ℕ) where
  -- one of them stopped as a packer does
  abbrev OnePacked : Stop → AreaWriter A D S H → AreaWriter A D S H → Type 0
  OnePacked s a b = IsPackStop (d.failures a.packer.drain) (d.failures b.packer.drain) s

  stops_any : (known : Option Verdict) (read : Type 0) (s : Stop) (olds news : List (AreaWriter A D S H)) → AnyZip (OnePacked s) olds news → StopsUnjudged number known read (AnyZip (WriterFailed d) olds news) s
  stops_any known read (why.Refused e) olds news any = absurd (any_none (OnePacked (why.Refused e)) (λ a b none. none) olds news any)
  stops_any known read why.Read olds news any = absurd (any_none (OnePacked why.Read) (λ a b none. none) olds news any)
  stops_any known read why.Write olds news any = any
  stops_any known read why.Memory olds news any = tt
  stops_any known read (why.Changed n) olds news any = absurd (any_none (OnePacked (why.Changed n)) (λ a b none. none) olds news any)

  faulty_any : {F : Type 0} (f : feed.Ghosts F) (old new : F) (s : Stop) (olds news : List (AreaWriter A D S H)) → AnyZip (OnePacked s) olds news → ReadsFaulty f old new s
  faulty_any f old new (why.Refused e) olds news any = absurd (any_none (OnePacked (why.Refused e)) (λ a b none. none) olds news any)
  faulty_any f old new why.Read olds news any = tt
  faulty_any f old new why.Write olds news any = tt
  faulty_any f old new why.Memory olds news any = tt
  faulty_any f old new (why.Changed n) olds news any = absurd (any_none (OnePacked (why.Changed n)) (λ a b none. none) olds news any)

  -- it put the header, before which it was fresh
  abbrev Started : AreaWriter A D S H → AreaWriter A D S H → Type 0
  Started first start = IsFreshWriter number first × PutsHeader d first start

  -- it took frames since
  abbrev Since : AreaWriter A D S H → AreaWriter A D S H → Type 0
  Since first now = (now.entities.number ≡ number) × (d.failures first.packer.drain ≤ d.failures now.packer.drain)

  one_failed : (f : FrameSpec) (s : Stop) (firsts mids nows : List (AreaWriter A D S H)) → AllZip Since firsts mids → OneFailed (WriterTakes d) (WriterFails d) mids f nows s → StopsAtFrame number (AnyZip (WriterFailed d) firsts nows) f s
  one_failed f s (a ∷ firsts) (m ∷ mids) (n ∷ nows) since (inl here) =
      let failing = fails_in_last_frame m.entities.number (d.failures a.packer.drain) (d.failures m.packer.drain) (d.failures n.packer.drain) f s since.0.1 here.0.0.fails.cause in
      stops_more number (WriterFailed d a n) _ f s inl (subst (λ (k : ℕ). StopsAtFrame k (WriterFailed d a n) f s) since.0.0 failing)
  one_failed f s (a ∷ firsts) (m ∷ mids) (n ∷ nows) since (inr later) = stops_more number (AnyZip (WriterFailed d) firsts nows) _ f s inr (one_failed f s firsts mids nows since.1 later.1)
  one_failed f s [] [] nows since one = absurd one
  one_failed f s [] (m ∷ mids) nows since one = absurd since
  one_failed f s (a ∷ firsts) [] nows since one = absurd since
  one_failed f s (a ∷ firsts) (m ∷ mids) [] since one = absurd one

  module _ (firsts starts : List (AreaWriter A D S H)) (fresh : AllByRecursion (IsFreshWriter number) firsts) (put : AllZip (PutsHeader d) firsts starts) where
    pub started : AllZip Started firsts starts
    started = zip_with (IsFreshWriter number) (PutsHeader d) Started (λ first start p r. (p, r)) firsts starts fresh put

    since_visited : (fs : List FrameSpec) (mids : List (AreaWriter A D S H)) → Visited (EachTook (WriterTakes d)) starts fs mids → AllZip Since firsts mids
    since_visited fs mids visited = zip_then Started (λ start mid. Visited (WriterTakes d) start fs mid) Since (λ first start mid st v.
        let w = written d number first start st.0 st.1 fs mid v in
        (w.number_same ∙ ap (λ e. e.number) st.1.entities ∙ st.0.number_is, omega (arith, st.1.keeps.drain.counts, w.drain_counts))) firsts starts mids started (each_visited (WriterTakes d) fs starts mids visited)

    module _ (known : Option Verdict) (nows : List (AreaWriter A D S H)) (stop : Stop) where
      pub stops_each : (read : Type 0) → StopsVisit (EachTook (WriterTakes d)) (OneFailed (WriterTakes d) (WriterFails d)) known read starts nows stop → StopsUnjudged number (fully_known known) read (AnyZip (WriterFailed d) firsts nows) stop
      stops_each read stopped = stops_visited (λ (l : List (AreaWriter A D S H)). number) (EachTook (WriterTakes d)) (λ old new f one. refl) (OneFailed (WriterTakes d) (WriterFails d)) known read (AnyZip (WriterFailed d) firsts nows) starts nows stop (λ fs mid f s visited failing. one_failed f s firsts mid nows (since_visited fs mid visited) failing) stopped

      -- one of them, which stopped or took the frames before another one stopped
      abbrev Halted : (read : Type 0) → AreaWriter A D S H → AreaWriter A D S H → Type 0
      Halted read start now = StopsVisit (WriterTakes d) (WriterFails d) known read start now stop ⊎ VisitsFront (WriterTakes d) known start now

      one_stop : (read : Type 0) (start now : AreaWriter A D S H) → Halted read start now → (s : Stop) × StopsVisit (WriterTakes d) (WriterFails d) known read start now s
      one_stop read start now (inl stopped) = (stop, stopped)
      one_stop read start now (inr front) = (why.Memory, inl (record { frames = front.frames; rest = front.rest; gone = front.gone; visited = front.visited; caused = tt }))

      module _ (read : Type 0) (stopped : StopsVisit (EachTook (WriterTakes d)) (OneFailed (WriterTakes d) (WriterFails d)) known read starts nows stop) where
        halted : AllZip (Halted read) starts nows
        halted = each_stops (WriterTakes d) (WriterFails d) stop known read starts nows stopped

        pub began_each : AllZip (WriterBegan d (fully_known known)) firsts nows
        began_each = zip_then Started (Halted read) (WriterBegan d (fully_known known)) (λ first start now st h.
            let s = one_stop read start now h in began_frames d number first start st.0 st.1 known read s.0 now s.1) firsts starts nows started halted

        pub kept_each : AllZip (KeepsWriter d) firsts nows
        kept_each = zip_then Started (Halted read) (KeepsWriter d) (λ first start now st h.
            let s = one_stop read start now h in kept_then d first start now st.1.keeps (kept_stopped d known read s.0 start now s.1)) firsts starts nows started halted

    pub faulty_each : {F : Type 0} (f : feed.Ghosts F) (old new : F) (nows : List (AreaWriter A D S H)) (stop : Stop) → RefusesRest f old new (RefusesVisit (EachTook (WriterTakes d)) (OneFailed (WriterTakes d) (WriterFails d)) (λ b. judged_known false 0 (Some b)) starts nows) stop → ReadsFaulty f old new stop
    faulty_each f old new nows stop rest = faulty_visited (λ (l : List (AreaWriter A D S H)). number) (EachTook (WriterTakes d)) (λ before now g one. refl) f old new (OneFailed (WriterTakes d) (WriterFails d)) (AnyZip (WriterFailed d) firsts nows) starts nows stop (λ fs mid g s visited failing. one_failed g s firsts mid nows (since_visited fs mid visited) failing) rest

    -- ---- all frames were taken

    module _ (file : List ℕ) (count : ℕ) (mids : List (AreaWriter A D S H)) (visits : VisitsAll (EachTook (WriterTakes d)) (judged_known false 0 (Some file)) count starts mids) where
      abbrev Visits : AreaWriter A D S H → AreaWriter A D S H → Type 0
      Visits start mid = VisitsAll (WriterTakes d) (judged_known false 0 (Some file)) count start mid

      all_visit : AllZip Visits starts mids
      all_visit = each_visits (WriterTakes d) (judged_known false 0 (Some file)) count starts mids visits

      record Filed (first mid : AreaWriter A D S H) : Type 0 where
        start : AreaWriter A D S H
        began : Started first start
        all : Visits start mid

      filed : AllZip Filed firsts mids
      filed = zip_then Started Visits Filed (λ first start mid st v. record { start = start; began = st; all = v }) firsts starts mids started all_visit

      kept_filed : (first mid : AreaWriter A D S H) → Filed first mid → KeepsWriter d first mid
      kept_filed first mid p = kept_then d first p.start mid p.began.1.keeps (kept_all d (judged_known false 0 (Some file)) count p.start mid p.all)

      module _ (nows : List (AreaWriter A D S H)) where
        pub took_each : AllZip (WritesLast d) mids nows → AllZip (WriterTook d (judged_file (Some file))) firsts nows
        took_each last = zip_then Filed (WritesLast d) (WriterTook d (judged_file (Some file))) (λ first mid now p w. took_file d number first p.start p.began.0 p.began.1 file count mid now p.all w) firsts mids nows filed last

        pub kept_took : AllZip (WritesLast d) mids nows → AllZip (KeepsWriter d) firsts nows
        kept_took last = zip_then Filed (WritesLast d) (KeepsWriter d) (λ first mid now p w. kept_then d first mid now (kept_filed first mid p) w.keeps) firsts mids nows filed last

        module _ (stop : Stop) (one : OneStopped (WritesLast d) (StopsAtLast d stop) mids nows) where
          fronts : AllZip (LastFront d) mids nows
          fronts = each_after (WritesLast d) (StopsAtLast d stop) (LastFront d) (last_written d) (last_stopped d stop) (last_none d) mids nows one

          pub began_ended : (known : Option (List ℕ)) → Tells known file → AllZip (WriterBegan d (judged_file known)) firsts nows
          began_ended known tells = zip_then Filed (LastFront d) (WriterBegan d (judged_file known)) (λ first mid now p f. front_told (pick_in first) (header_in first) known file _ _ tells (began_last d number first p.start p.began.0 p.began.1 file count mid now p.all f)) firsts mids nows filed fronts

          pub kept_ended : AllZip (KeepsWriter d) firsts nows
          kept_ended = zip_then Filed (LastFront d) (KeepsWriter d) (λ first mid now p f. kept_then d first mid now (kept_filed first mid p) f.keeps) firsts mids nows filed fronts

          ended_any : AnyZip (OnePacked stop) mids nows
          ended_any = any_weaker (StopsAtLast d stop) (OnePacked stop) (λ a b s. s.cause) mids nows (one_of (WritesLast d) (StopsAtLast d stop) mids nows one)

          pub stops_ended : (known : Option Verdict) (read : Type 0) → StopsUnjudged number known read (AnyZip (WriterFailed d) firsts nows) stop
          stops_ended known read = unjudged_more number known read (AnyZip (WriterFailed d) mids nows) (AnyZip (WriterFailed d) firsts nows) stop (any_after Filed (WriterFailed d) (WriterFailed d) (λ first mid now p risen. risen_since _ _ _ (kept_filed first mid p).drain.counts risen) firsts mids nows filed) (stops_any known read stop mids nows ended_any)

          pub faulty_ended : {F : Type 0} (f : feed.Ghosts F) (old new : F) → ReadsFaulty f old new stop
          faulty_ended f old new = faulty_any f old new stop mids nows ended_any

  -- ---- one of them stopped at the header

  module _ (firsts nows : List (AreaWriter A D S H)) (stop : Stop) (one : OneStopped (PutsHeader d) (StopsAtHeader d stop) firsts nows) where
    heads : AllZip (HeaderFront d) firsts nows
    heads = each_after (PutsHeader d) (StopsAtHeader d stop) (HeaderFront d) (header_put d) (header_stopped d stop) (header_none d) firsts nows one

    pub began_heads : (known : Option Verdict) → AllZip (WriterBegan d known) firsts nows
    began_heads known = zip_weaker (HeaderFront d) (WriterBegan d known) (began_header d known) firsts nows heads

    pub kept_heads : AllZip (KeepsWriter d) firsts nows
    kept_heads = zip_weaker (HeaderFront d) (KeepsWriter d) (λ a b h. h.keeps) firsts nows heads

    heads_any : AnyZip (OnePacked stop) firsts nows
    heads_any = any_weaker (StopsAtHeader d stop) (OnePacked stop) (λ a b s. s.cause) firsts nows (one_of (PutsHeader d) (StopsAtHeader d stop) firsts nows one)

    pub stops_heads : (known : Option Verdict) (read : Type 0) → StopsUnjudged number known read (AnyZip (WriterFailed d) firsts nows) stop
    stops_heads known read = stops_any known read stop firsts nows heads_any

    pub faulty_heads : {F : Type 0} (f : feed.Ghosts F) (old new : F) → ReadsFaulty f old new stop
    faulty_heads f old new = faulty_any f old new stop firsts nows heads_any

-- the drains are kept, if one of them stopped at what waited
pub kept_lasts : {A D S H : Type 0} (d : drain.Ghosts D) (stop : Stop) (mids nows : List (AreaWriter A D S H)) → OneStopped (WritesLast d) (StopsAtLast d stop) mids nows → AllZip (KeepsWriter d) mids nows
kept_lasts d stop mids nows one = each_after (WritesLast d) (StopsAtLast d stop) (KeepsWriter d) (λ a b w. w.keeps) (λ a b s. s.keeps) (λ a. (last_none d a).keeps) mids nows one
