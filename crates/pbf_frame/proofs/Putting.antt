-- What is put into the room is the frame in written form.
use Rattle.std.proofs.Common.{◌≡◌, ℕ, ◌+◌, ◌*◌, List, [], ◌∷◌, ◌++◌, length, Some, refl, sym, ap, ◌∙◌, append_assoc, length-append, arith}
use Rattle.std.proofs.lemmas.List.{append-nil, length-take-le}
use Rattle.byteorder.specs.Endian.{big_bytes}
use Rattle.pbf_wire.specs.Message.{Scalar, Each, message, slot_bytes}
use Rattle.pbf_wire.specs.Varint.{shortest}
use Rattle.pbf_wire.proofs.WritingLemmas.{message_first, message_none, bytes_put, number_put}
use Rattle.pbf_frame.specs.declared.blob.TheConstants.{RAW}
use Rattle.pbf_frame.specs.declared.frame.FrameKind.{FrameKind}
use Rattle.pbf_frame.specs.declared.header.TheConstants.{TYPE, DATASIZE}
use Rattle.pbf_frame.specs.Writing.{written_name, written_header, written_blob, written_frame}

pub header_put : (k : FrameKind) (size : ℕ) (name e1 e2 e3 e4 e5 : List ℕ) → name ≡ written_name k → e1 ≡ [] ++ shortest (TYPE * 8 + 2) → e2 ≡ e1 ++ shortest (length name) → e3 ≡ e2 ++ name → e4 ≡ e3 ++ shortest (DATASIZE * 8) → e5 ≡ e4 ++ shortest size → e5 ≡ written_header k size
unfolding written_header
header_put k size name e1 e2 e3 e4 e5 named p1 p2 p3 p4 p5 =
    let first = Each TYPE (name ∷ []) in
    let second = Scalar DATASIZE (Some size) in
    let front : e3 ≡ [] ++ slot_bytes first = bytes_put TYPE name [] e1 e2 e3 p1 p2 p3 in
    let all : e5 ≡ e3 ++ slot_bytes second = number_put DATASIZE size e3 e4 e5 p4 p5 in
    all ∙ ap (λ l. l ++ slot_bytes second) front
    ∙ ap (λ l. slot_bytes first ++ l) (sym (append-nil (slot_bytes second)) ∙ ap (λ l. slot_bytes second ++ l) (sym message_none) ∙ sym (message_first second []))
    ∙ sym (message_first first (second ∷ []))
    ∙ ap (λ (l : List ℕ). message (Each TYPE (l ∷ []) ∷ second ∷ [])) named

pub blob_put : (n : ℕ) (payload : List ℕ) (e1 e2 : List ℕ) → length payload ≡ n → e1 ≡ [] ++ shortest (RAW * 8 + 2) → e2 ≡ e1 ++ shortest n → e2 ++ payload ≡ written_blob payload
unfolding written_blob
blob_put n payload e1 e2 long p1 p2 =
    let slot = Each RAW (payload ∷ []) in
    bytes_put RAW payload [] e1 e2 (e2 ++ payload) p1 (p2 ∙ ap (λ (m : ℕ). e1 ++ shortest m) (sym long)) refl
    ∙ sym (append-nil (slot_bytes slot)) ∙ ap (λ l. slot_bytes slot ++ l) (sym message_none) ∙ sym (message_first slot [])

-- what is before a blob of this size
abbrev pub front_of : FrameKind → ℕ → List ℕ
front_of k size = big_bytes 4 (length (written_header k size)) ++ written_header k size

pub front_put : (k : FrameKind) (size : ℕ) (header e1 e2 : List ℕ) → header ≡ written_header k size → e1 ≡ big_bytes 4 (length header) → e2 ≡ e1 ++ header → e2 ≡ front_of k size
front_put k size header e1 e2 is_header p1 p2 = p2 ∙ ap (λ l. l ++ header) p1 ∙ ap (λ (l : List ℕ). big_bytes 4 (length l) ++ l) is_header

pub frame_put : (k : FrameKind) (payload blob e2 e3 : List ℕ) → blob ++ payload ≡ written_blob payload → e2 ≡ front_of k (length blob + length payload) → e3 ≡ e2 ++ blob → e3 ++ payload ≡ written_frame k payload
unfolding written_frame
frame_put k payload blob e2 e3 is_blob p2 p3 = grind (arith, length-append, append_assoc)

pub ruleset cuts = (length-take-le)
