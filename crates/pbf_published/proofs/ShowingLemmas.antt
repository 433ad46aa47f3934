-- What is said of a published file.
use Rattle.std.proofs.Common.{◌≡◌, arith, ℕ, Bool, false, List, [], Option, Some, None, IfSome, refl, sym, ap, subst, ◌∙◌}
use Rattle.pbf_frame.specs.declared.device.Feed as feed
use Rattle.pbf_frame.specs.Devices.{IsAtEnd, prepend}
use Rattle.pbf_frame.specs.Frames.{FrameSpec, is_data, is_header}
use Rattle.pbf_frame.specs.Verdict.{Says, Verdict, judged_known}
use Rattle.pbf_frame.proofs.Parting.{some_same}
use Rattle.pbf_pass.specs.Given.{GaveFile}
use Rattle.pbf_pass.specs.Hashing.{Mark}
use Rattle.pbf_pass.proofs.GivenLemmas.{Tells, tells_file}
use Rattle.pbf_unpack.specs.declared.stored.Stored.{Stored}
use Rattle.pbf_unpack.specs.Stored.{stored_from}
use Rattle.pbf_unpack.specs.Unpacked.{unpacked}
use Rattle.pbfcut.specs.declared.summary.Summary.{Summary}
use Rattle.pbfcut.specs.Summary.{IsSummary, count_of, first_header, header_lines, is_other, members_of}
use Rattle.pbf_published.specs.Published.{raw_of}
use Rattle.pbf_published.specs.Showing.{TellsInfo, info_text, summary_text}

says_frames : (known : Option (List ℕ)) (file : List ℕ) (v : Verdict) → Tells known file → Says (judged_known false 0 (Some file)) v → Says (judged_known false 0 known) v
says_frames None file v tells says = tt
says_frames (Some b) file v tells says = subst (λ (l : List ℕ). Says (judged_known false 0 (Some l)) v) (tells b refl) says

none_left : (old new : Option (List ℕ)) (file all : List ℕ) → old ≡ prepend file new → IsAtEnd new → old ≡ Some all → new ≡ Some []
none_left old new file all h4 h5 h6 = grind arith

-- what is said by the summary of frames is what is said of them
said_so : (json : Bool) (frames : List FrameSpec) (s : Summary) (stored : Stored) → s.lines.items ≡ header_lines (first_header frames) → s.members.items ≡ members_of (first_header frames)
    → s.headers ≡ count_of is_header frames → s.blocks ≡ count_of is_data frames → s.others ≡ count_of is_other frames → summary_text json s stored ≡ info_text json frames stored
said_so json frames s stored lines members headers blocks others = rw (lines, members, headers, blocks, others) refl

-- a summary of the file that a feed gave, whose blobs are stored so if it reports its bytes, is what is to be said of it
pub tells_info : {U : Type 0} (u : feed.Ghosts U) (json : Bool) (old new : U) (digest : Mark) (s : Summary) (stored : Stored) (has : Option (List ℕ)) (text : List ℕ) → u.remaining old ≡ raw_of has → GaveFile u old new digest (λ file. IsSummary (judged_known false 0 (Some file)) s)
    → ((packed : List ℕ) → has ≡ Some packed → u.remaining new ≡ Some [] → stored ≡ stored_from 0 packed) → text ≡ summary_text json s stored → TellsInfo json has text
tells_info u json old new digest s stored has text is given stores text_is =
    let sum = given.holding in
    record {
      frames = sum.frames;
      stored = stored;
      says = subst (λ (k : Option (List ℕ)). Says (judged_known false 0 k) (sum.frames, None)) is (says_frames (u.remaining old) given.file (sum.frames, None) (tells_file u old new digest _ given) sum.says);
      stores = of has is stores;
      is = text_is ∙ said_so json sum.frames s stored sum.lines sum.members sum.headers sum.blocks sum.others;
    } where
      of : (has : Option (List ℕ)) → u.remaining old ≡ raw_of has → ((packed : List ℕ) → has ≡ Some packed → u.remaining new ≡ Some [] → stored ≡ stored_from 0 packed) → IfSome has (λ packed. stored ≡ stored_from 0 packed)
      of None is stores = tt
      of (Some packed) is stores = stores packed refl (none_left (u.remaining old) (u.remaining new) given.file (unpacked packed) given.supplied.gave.told given.supplied.end is)

-- what is stored in the bytes that were read is stored in the ones that are reported
pub stored_told : (has : Option (List ℕ)) (packed read : List ℕ) (stored : Stored) → has ≡ Some packed → has ≡ Some read → stored ≡ stored_from 0 read → stored ≡ stored_from 0 packed
stored_told has packed read stored is all stores = stores ∙ ap (stored_from 0) (some_same read packed (sym all ∙ is))
