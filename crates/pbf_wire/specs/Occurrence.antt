-- A message is a list of field occurrences.
use Rattle.std.specs.Prelude.{◌≡◌, ℕ, zero, suc, ◌+◌, ◌-◌, ◌*◌, ◌/◌, ◌%◌, ◌^◌, ◌<◌, ◌≤◌, List, [], ◌∷◌, ◌++◌, length, take, drop, Option, Some, None, Result, Ok, Err, nat_lt, ◌==◌, if◌then◌else◌}
use Rattle.pbf_wire.specs.declared.fault.Reason.{Reason}
use Rattle.pbf_wire.specs.declared.fault.Reason.TheVariants.{NumberZero, TagLarge, Group, WireType, LengthPast, FixedCut}
use Rattle.pbf_wire.specs.declared.fault.Fault.{Fault}
use Rattle.pbf_wire.specs.Varint.{IsVarint, varint_at}

-- what follows a tag; of bytes also where in the file the first one is
pub data Content : Type 0 where
  Number : (value : ℕ) → Content
  Eight : (bytes : List ℕ) → Content
  Four : (bytes : List ℕ) → Content
  Bytes : (bytes : List ℕ) (at : ℕ) → Content

pub record Occurrence : Type 0 where
  pub place : ℕ
  pub number : ℕ
  pub content : Content

-- ---- the format

-- s is a spelling of the content, after a tag of this wire type, which ends here
abbrev pub IsBody : Content → ℕ → ℕ → List ℕ → Type 0
IsBody (Number v) kind end s = (kind ≡ 0) × IsVarint v s
IsBody (Eight bytes) kind end s = (kind ≡ 1) × (length bytes ≡ 8) × (s ≡ bytes)
IsBody (Bytes bytes at) kind end s = (kind ≡ 2) × ((size : List ℕ) × IsVarint (length bytes) size × (at ≡ end + length size) × (s ≡ size ++ bytes))
IsBody (Four bytes) kind end s = (kind ≡ 5) × (length bytes ≡ 4) × (s ≡ bytes)

-- s is a spelling of the occurrence
pub record IsSpelled (o : Occurrence) (s : List ℕ) : Type 0 where
  pub kind : ℕ
  pub tag : List ℕ
  pub body : List ℕ
  pub whole : s ≡ tag ++ body
  pub tagged : IsVarint (o.number * 8 + kind) tag
  pub numbered : 0 < o.number
  pub small : o.number * 8 + kind < 2 ^ 32
  pub holds : IsBody o.content kind (o.place + length tag) body

-- the spellings of the occurrences, joined, are the message, whose first byte is here in the file
abbrev pub Joins : ℕ → List ℕ → List Occurrence → Type 0
Joins at m [] = m ≡ []
Joins at m (o ∷ os) = (s : List ℕ) × (rest : List ℕ) × (m ≡ s ++ rest) × (o.place ≡ at) × IsSpelled o s × Joins (at + length s) rest os

-- ---- the same by computing

-- what follows, if this gave something
infixl 10 ◌>>=◌
abbrev pub ◌>>=◌ : {A B E : Type 0} → Result A E → (A → Result B E) → Result B E
(Ok x) >>= f = f x
(Err e) >>= f = Err e

-- the content at the start of the bytes, after a tag of this wire type, and its length
unfoldable pub body_at : ℕ → ℕ → List ℕ → Result (Content × ℕ) Reason
body_at kind at bytes =
    if kind == 0 then (varint_at bytes >>= λ v. Ok (Number v.0, v.1))
    else (if kind == 1 then (if nat_lt (length bytes) 8 then Err FixedCut else Ok (Eight (take 8 bytes), 8))
    else (if kind == 2 then (varint_at bytes >>= λ n. if nat_lt (length (drop n.1 bytes)) n.0 then Err LengthPast else Ok (Bytes (take n.0 (drop n.1 bytes)) (at + n.1), n.1 + n.0))
    else (if kind == 5 then (if nat_lt (length bytes) 4 then Err FixedCut else Ok (Four (take 4 bytes), 4))
    else (if nat_lt kind 5 then Err Group else Err WireType))))

-- the occurrence at the start of the bytes and its length, or the first reason why there is none
unfoldable pub occurrence_at : ℕ → List ℕ → Result (Occurrence × ℕ) Reason
occurrence_at place bytes =
    varint_at bytes >>= λ tag.
    if nat_lt tag.0 (2 ^ 32)
    then (if tag.0 / 8 == 0 then Err NumberZero
    else (body_at (tag.0 % 8) (place + tag.1) (drop tag.1 bytes) >>= λ body. Ok (record { place = place; number = tag.0 / 8; content = body.0 }, tag.1 + body.1)))
    else Err TagLarge

-- an occurrence, or the fault at which the message can't be read on
abbrev pub Item : Type 0
Item = Result Occurrence Fault

-- the items of a message, from what its first occurrence is
abbrev pub items_from : ℕ → Result (Occurrence × ℕ) Reason → (ℕ → List Item) → List Item
items_from place (Ok front) more = Ok front.0 ∷ more (front.1 - 1)
items_from place (Err reason) more = Err (record { offset = place; reason = reason }) ∷ []

-- the items of a message of which some bytes are still to be skipped
unfoldable pub items_past : ℕ → ℕ → List ℕ → List Item
items_past skip at [] = []
items_past (suc skip) at (b ∷ bs) = items_past skip (at + 1) bs
items_past zero at (b ∷ bs) = items_from at (occurrence_at at (b ∷ bs)) (λ skip. items_past skip (at + 1) bs)

-- the items of a message whose first byte is here in the file
abbrev pub items : ℕ → List ℕ → List Item
items at m = items_past 0 at m

-- the occurrences before the fault, and the fault
abbrev pub found : List Item → List Occurrence
found [] = []
found (Ok o ∷ rest) = o ∷ found rest
found (Err e ∷ rest) = []

abbrev pub fault_of : List Item → Option Fault
fault_of [] = None
fault_of (Ok o ∷ rest) = fault_of rest
fault_of (Err e ∷ rest) = Some e

-- the message continues at this place as its fault says: with nothing, or with bytes that begin no occurrence
abbrev pub EndsWith : ℕ → List ℕ → Option Fault → Type 0
EndsWith place left None = left ≡ []
EndsWith place left (Some f) = (f.offset ≡ place) × (occurrence_at place left ≡ Err f.reason) × ((o : Occurrence) (s rest : List ℕ) → left ≡ s ++ rest → o.place ≡ place → IsSpelled o s → ⊥)

-- the occurrences spell a prefix of the message, and no longer prefix is spelled; what is left of it
pub record IsCutting (at : ℕ) (m : List ℕ) (os : List Occurrence) (fault : Option Fault) : Type 0 where
  pub front : List ℕ
  pub left : List ℕ
  pub parts : m ≡ front ++ left
  pub joins : Joins at front os
  pub ends : EndsWith (at + length front) left fault
  pub longest : (f l : List ℕ) (xs : List Occurrence) → m ≡ f ++ l → Joins at f xs → length f ≤ length front

-- ---- what does not depend on where the message is

abbrev pub unplaced : Content → Content
unplaced (Number v) = Number v
unplaced (Eight bytes) = Eight bytes
unplaced (Four bytes) = Four bytes
unplaced (Bytes bytes at) = Bytes bytes 0

-- the occurrence with 0 for its offset and for that of its bytes
abbrev pub without_places : Occurrence → Occurrence
without_places o = record { place = 0; number = o.number; content = unplaced o.content }
