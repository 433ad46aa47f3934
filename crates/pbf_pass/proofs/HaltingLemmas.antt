-- What a halt says of the bytes that were read.
use Rattle.std.proofs.Common.{◌≡◌, ℕ, List, [], Option, Some, arith, sym, subst}
use Rattle.osm_entity.specs.Entity.{EntitySpec}
use Rattle.pbf_wire.specs.declared.fault.Fault.{Fault}
use Rattle.pbf_frame.specs.declared.device.Feed as feed
use Rattle.pbf_frame.specs.declared.device.Drain as drain
use Rattle.pbf_frame.specs.declared.stop.Stop.{Stop}
use Rattle.pbf_frame.specs.declared.stop.Stop.TheVariants as stop
use Rattle.pbf_frame.specs.Refusals.{Refuses}
use Rattle.pbf_frame.specs.Verdict.{Verdict}
use Rattle.pbf_frame.specs.Transfers.{Added}
use Rattle.pbf_frame.proofs.Passed.{added_none}
use Rattle.pbf_frame.proofs.Refusing.{faulty_as}
use Rattle.pbf_pass.specs.declared.pass.Judged.{Judged}
use Rattle.pbf_pass.specs.declared.hashing.PassCheck.{PassCheck}
use Rattle.pbf_pass.specs.declared.receipt.Refusal.{Refusal}
use Rattle.pbf_pass.specs.declared.receipt.Halt.{Halt}
use Rattle.pbf_pass.specs.declared.receipt.Halt.TheVariants as halt
use Rattle.pbf_pass.specs.HeaderLimit.{header_limit, held_header, judged_writable}
use Rattle.pbf_pass.specs.Given.{GaveFile}
use Rattle.pbf_pass.specs.Hashing.{IsLength, IsDigestOf, mark_by}
use Rattle.pbf_pass.specs.Judged.{judged_file}
use Rattle.pbf_pass.specs.Pass.{TakesFile}
use Rattle.pbf_pass.specs.Refused.{RefusesRest, RefusesBytes, RefusesFile, Halts, HaltsFile, IsLimitRefused, halted, stop_of}
use Rattle.pbf_pass.specs.Stops.{FaultOf, Caused, Only, unchanged}
use Rattle.pbf_frame.specs.Keeps.{KeepsFeed}
use Rattle.pbf_pass.proofs.LimitLemmas.{limited_fault, limit_refused}

-- ---- a header that can't be written is refused

pub limit_caused : (told : Judged) (h : Halt) → IsLimitRefused told h → Caused (Only (header_limit (held_header told.pass))) ⊥ ⊥ unchanged (stop_of h)
limit_caused told h h2 = grind arith

-- ---- of a reader that halts, which keeps its feed

pub halts_of : {F : Type 0} {f : feed.Ghosts F} (old new : F) (at_fault : Stop → List ℕ → Type 0) (refused : Refusal → Type 0) (count : ℕ) (digest : List ℕ) (s : Stop) → KeepsFeed f old new → RefusesRest f old new at_fault s
    → ((e : Fault) → RefusesRest f old new at_fault (stop.Refused e) → refused (record { fault = e; read = count; input = digest })) → Halts refused (halted s count digest)
halts_of old new at_fault refused count digest s h7 h8 h9 = grind arith

-- what was read of one feed was read of another
pub rest_of : {F G : Type 0} {f : feed.Ghosts F} (g : feed.Ghosts G) (old new : F) (before now : G) (first then : Stop → List ℕ → Type 0) (s : Stop) → KeepsFeed f old new → RefusesRest f old new first s
    → ((t : Stop) → Refuses (first t) (f.has_passed old) (f.has_passed new) (f.remaining old) (f.remaining new) → Refuses (then t) (g.has_passed before) (g.has_passed now) (g.remaining before) (g.remaining now)) → RefusesRest g before now then s
rest_of g old new before now first then s h8 h9 h10 = grind arith

-- the same of devices that are equal
pub rest_as : {F : Type 0} (f : feed.Ghosts F) (old new first last : F) (at_fault : Stop → List ℕ → Type 0) (s : Stop) → old ≡ first → new ≡ last → RefusesRest f old new at_fault s → RefusesRest f first last at_fault s
rest_as f old new first last at_fault s e e2 rest = subst (λ x. RefusesRest f first x at_fault s) e2 (subst (λ x. RefusesRest f x new at_fault s) e rest)

pub stop_halted : (s : Stop) (count : ℕ) (digest : List ℕ) → stop_of (halted s count digest) ≡ s
stop_halted s count digest = grind arith

-- ---- of a feed that was refused

module _ {F : Type 0} (f : feed.Ghosts F) (old new : F) (check : PassCheck) where
  -- by a judgement that is that of a verdict
  refuses_file : (at_fault : Fault → List ℕ → Type 0) (judge : List ℕ → Option Verdict) (r : Refusal) → ((b : List ℕ) → at_fault r.fault b → FaultOf (judge b) r.fault) → RefusesBytes f old new check at_fault r → RefusesFile f old new check judge r
  refuses_file at_fault judge r step refuses = record {
    bytes = grind (arith, faulty_as (λ b. FaultOf (judge b) r.fault) (at_fault r.fault) refuses.bytes.read (f.remaining new) step refuses.bytes.faulty, at_fault r.fault, f.remaining new);
    counted = refuses.counted;
    digest_is = refuses.digest_is;
  }

  pub halts_file : (at_fault : Fault → List ℕ → Type 0) (judge : List ℕ → Option Verdict) (h : Halt) → ((e : Fault) (b : List ℕ) → at_fault e b → FaultOf (judge b) e) → Halts (RefusesBytes f old new check at_fault) h → Halts (RefusesFile f old new check judge) h
  halts_file at_fault judge h h3 h4 = grind (arith, refuses_file)

  -- by another verdict
  pub refuses_also : (first then : List ℕ → Option Verdict) (r : Refusal) → ((b : List ℕ) → FaultOf (first b) r.fault → FaultOf (then b) r.fault) → RefusesFile f old new check first r → RefusesFile f old new check then r
  refuses_also first then r step refuses = record {
    bytes = grind (arith, faulty_as (λ b. FaultOf (then b) r.fault) (λ b. FaultOf (first b) r.fault) refuses.bytes.read (f.remaining new) step refuses.bytes.faulty, f.remaining new);
    counted = refuses.counted;
    digest_is = refuses.digest_is;
  }

  pub halts_also : (first then : List ℕ → Option Verdict) (h : Halt) → ((e : Fault) (b : List ℕ) → FaultOf (first b) e → FaultOf (then b) e) → Halts (RefusesFile f old new check first) h → Halts (RefusesFile f old new check then) h
  halts_also first then h h3 h4 = grind (arith, refuses_also)

  -- a fault of the file is one of what can't be written
  pub halts_writing : (h : Halt) → Halts (RefusesFile f old new check (λ b. judged_file (Some b))) h → Halts (RefusesFile f old new check (λ b. judged_writable (Some b))) h
  halts_writing h halts = halts_also (λ b. judged_file (Some b)) (λ b. judged_writable (Some b)) h (λ e b fault. (fault.0, limited_fault (judged_file (Some b)) fault.0 e fault.1)) halts

  -- all of its bytes were read, and its header can't be written
  pub limit_halts : {S : Type 0} (gathered : S → EntitySpec → S) (before now : S) (told : Judged) (h : Halt)
      → GaveFile f old new (mark_by check told.digest) (λ file. IsLength told.count file × TakesFile gathered (judged_file (Some file)) before now told.pass) → IsLimitRefused told h → Halts (RefusesFile f old new check (λ b. judged_writable (Some b))) h
  limit_halts gathered before now told (halt.Refused r) given limit = record {
    bytes = grind (arith, limit_refused gathered before now (judged_file (Some given.file)) told.pass r.fault given.holding.1 limit.0);
    counted = subst (λ (n : ℕ). IsLength n given.file) (sym limit.1) given.holding.0;
    digest_is = subst (λ (d : List ℕ). IsDigestOf (mark_by check d) given.file) (sym limit.2) given.digest_is;
  }
  limit_halts gathered before now told (halt.Stopped s) given limit = absurd limit

  -- the same of devices that are equal
  pub refuses_bytes_as : (first last : F) (at_fault : Fault → List ℕ → Type 0) (r : Refusal) → old ≡ first → new ≡ last → RefusesBytes f old new check at_fault r → RefusesBytes f first last check at_fault r
  refuses_bytes_as first last at_fault r e e2 refuses = subst (λ x. RefusesBytes f first x check at_fault r) e2 (subst (λ x. RefusesBytes f x new check at_fault r) e refuses)

  -- ---- and of a drain

  module _ {D : Type 0} (d : drain.Ghosts D) (judge : List ℕ → Option Verdict) where
    -- nothing was written yet
    pub halts_first : (at : D) (h : Halt) → Halts (RefusesFile f old new check judge) h → HaltsFile f old new check judge (Added d at [] at) h
    halts_first at h h2 = grind (arith, added_none)
