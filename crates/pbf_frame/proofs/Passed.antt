-- The bytes that went through a device, put together.
use Rattle.std.proofs.Common.{◌≡◌, ℕ, List, [], ◌++◌, Option, sym, subst, ap, ◌∙◌, append_assoc}
use Rattle.std.proofs.lemmas.List.{append-nil}
use Rattle.pbf_frame.specs.declared.device.Drain as drain
use Rattle.pbf_frame.specs.Devices.{append, Passes}
use Rattle.pbf_frame.specs.Transfers.{Added}
use Rattle.pbf_frame.proofs.KnownBytes.{append_append, append_none}

-- nothing passed
pub passes_none : (now : ℕ → List ℕ → Type 0) → Passes now [] now
passes_none now = λ log b h. subst (now log) (sym (append-nil b)) h

-- more passed
pub passes_more : (before mid now : ℕ → List ℕ → Type 0) (xs ys : List ℕ) → Passes before xs mid → Passes mid ys now → Passes before (xs ++ ys) now
passes_more before mid now xs ys first then = λ log b h. subst (now log) (append_assoc b xs ys) (then log (b ++ xs) (first log b h))

pub passes_same : (before now : ℕ → List ℕ → Type 0) (xs ys : List ℕ) → xs ≡ ys → Passes before xs now → Passes before ys now
passes_same before now xs ys e passed = subst (λ (l : List ℕ). Passes before l now) e passed

pub passes_three : (before then next now : ℕ → List ℕ → Type 0) (xs ys zs : List ℕ) → Passes before xs then → Passes then ys next → Passes next zs now → Passes before (xs ++ ys ++ zs) now
passes_three before then next now xs ys zs one two three = passes_more before next now (xs ++ ys) zs (passes_more before then next xs ys one two) three

-- what passed, if nothing did
pub passes_nothing : (before now : ℕ → List ℕ → Type 0) → Passes before [] now → (log : ℕ) (b : List ℕ) → before log b → now log b
passes_nothing before now passed log b h = subst (now log) (append-nil b) (passed log b h)

module _ {D : Type 0} (d : drain.Ghosts D) where
  -- a drain took nothing
  pub added_none : (old : D) → Added d old [] old
  added_none old = record { told = sym (append_none (d.taken old)); logged = passes_none (d.has_taken old) }

  -- it took more
  pub added_more : (old mid new : D) (xs ys : List ℕ) → Added d old xs mid → Added d mid ys new → Added d old (xs ++ ys) new
  added_more old mid new xs ys first then = record {
    told = then.told ∙ (ap (λ (k : Option (List ℕ)). append k ys) first.told ∙ append_append (d.taken old) xs ys);
    logged = passes_more (d.has_taken old) (d.has_taken mid) (d.has_taken new) xs ys first.logged then.logged;
  }

  pub added_same : (old new : D) (xs ys : List ℕ) → xs ≡ ys → Added d old xs new → Added d old ys new
  added_same old new xs ys e added = subst (λ (l : List ℕ). Added d old l new) e added

  -- the same of devices that are equal
  pub added_as : (first old last new : D) (xs : List ℕ) → first ≡ old → last ≡ new → Added d first xs last → Added d old xs new
  added_as first old last new xs e f added = subst (λ x. Added d x xs new) e (subst (λ x. Added d first xs x) f added)
