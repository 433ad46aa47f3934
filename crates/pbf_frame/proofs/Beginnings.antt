-- A prefix of bytes went out.
use Rattle.std.proofs.Common.{◌≡◌, ℕ, ◌+◌, ◌≤◌, min, List, ◌++◌, length, take, Option, sym, ap, ◌∙◌, arith}
use Rattle.std.proofs.lemmas.List.{take-append-le, take_all, take_min}
use Rattle.std.proofs.Math.Seq.{take-append-add}
use Rattle.pbf_frame.specs.Devices.{append, IsFront}
use Rattle.pbf_frame.proofs.KnownBytes.{append_append}

-- all of it
pub front_whole : (old new : Option (List ℕ)) (xs : List ℕ) → new ≡ append old xs → IsFront old new xs
front_whole old new xs e = record { count = length xs; taken = e ∙ ap (append old) (sym (take_all (length xs) xs (omega arith))) }

-- a prefix is a prefix of what is longer
pub front_longer : (old new : Option (List ℕ)) (xs ys : List ℕ) → IsFront old new xs → IsFront old new (xs ++ ys)
front_longer old new xs ys h =
    let n = min h.count (length xs) in
    let within : n ≤ length xs = omega arith in
    record { count = n; taken = h.taken ∙ ap (append old) (sym (take-append-le n xs ys within ∙ take_min h.count xs)) }

-- a whole part, and then a prefix
pub front_then : (old mid new : Option (List ℕ)) (xs ys : List ℕ) → mid ≡ append old xs → IsFront mid new ys → IsFront old new (xs ++ ys)
front_then old mid new xs ys e h =
    record { count = length xs + h.count; taken = h.taken ∙ ap (λ k. append k (take h.count ys)) e ∙ append_append old xs (take h.count ys) ∙ ap (append old) (sym (take-append-add xs ys h.count)) }
