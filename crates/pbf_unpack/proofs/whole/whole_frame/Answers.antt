use Rattle.std.proofs.Common.{refl, ◌≡◌, ◌+◌, ◌<◌, ◌≤◌, length, take, drop, Ok, Err, sym, take-append-drop, length-append, arith, rules}
use Rattle.std.proofs.lemmas.List.{length-drop, length-take}
use Rattle.byteorder.specs.Endian.{big_number}
use Rattle.pbf_frame.specs.declared.header.TheConstants.{HEADER_LIMIT}
use Rattle.pbf_frame.specs.Steps.{head_of}
use Rattle.pbf_unpack.specs.Parts.{header_length}
use Rattle.pbf_unpack.specs.Whole.{HasHead}
use Rattle.pbf_unpack.proofs.FrameHeld.{parts_size, parts_told, whole_is_frame}
use Rattle.pbf_unpack.proofs.WholeLemmas.{whole_means}
use Rattle.pbf_unpack.proofs.whole.whole_frame.Goals as goal
use Rattle.pbf_unpack.proofs.whole.whole_frame.Goals.{then-head-blob-via-then-head-blob, then-head-blob-via-else-head-blob+then-end-gt-FILE_LIMIT}

pub returns-clause-means : goal.returns-clause-means
returns-clause-means c =
    let front = c.args.front.now in
    let prefix = take 4 front in
    let header = drop 4 front in
    let four : length prefix ≡ 4 = omega (arith, length-take 4 front, c.if-front-lt4.false) in
    let length_is : big_number 4 prefix ≡ c.read_u32-length.result = search rules in
    let small : big_number 4 prefix < HEADER_LIMIT = omega (arith, length_is, c.if-length-ge-HEADER_LIMIT.false) in
    let counted : length header ≡ big_number 4 prefix = search (rules, length_is) in
    let says : head_of (c.args.place + 4) header ≡ Ok c.in-Ok.head = search rules in
    let has : HasHead c.args.place front header c.in-Ok.head = record {
      prefix = prefix;
      split = sym (take-append-drop 4 front);
      four = four;
      small = small;
      counted = counted;
      says = says;
      within = search rules;
    } in
    whole_means c.args.place front header c.in-Ok.head has c.args.blob.now (sym c.if-head-blob.false) (c.args.place + length front) (c.args.place + length front + length c.args.blob.now) refl (omega (arith, c.if-head-blob.false)) c.if-end-gt-FILE_LIMIT.false

pub returns-clause-frame : goal.returns-clause-frame
unfolding header_length
returns-clause-frame c =
    let front = c.args.front.now in
    let header = drop 4 front in
    let four : 4 ≤ length front = omega (arith, c.if-front-lt4.false) in
    let length_is : big_number 4 (take 4 front) ≡ c.read_u32-length.result = search rules in
    let counted : length header ≡ big_number 4 (take 4 front) = search (rules, length_is) in
    let says : head_of (c.args.place + 4) header ≡ Ok c.in-Ok.head = search rules in
    whole_is_frame (c.args.place + 4) front c.args.blob.now c.in-Ok.head four (omega (arith, four, counted, length-drop 4 front)) says (sym c.if-head-blob.false)

pub returns-in_default-clause-past : goal.returns-in_default-clause-past
returns-in_default-clause-past c none f had sound are =
    let told : head_of (c.args.place + 4) (drop 4 c.args.front.now) ≡ Err c.in_default.field-0 = search rules in
    absurd (parts_told f had sound c.args.front.now c.args.blob.now are (c.args.place + 4) c.in_default.field-0 told)

pub returns-then-head-blob-clause-past : goal.returns-then-head-blob-clause-past
returns-then-head-blob-clause-past c none f had sound are =
    let says : head_of (c.args.place + 4) (drop 4 c.args.front.now) ≡ Ok c.in-Ok.head = search rules in
    let sized = parts_size f had sound c.args.front.now c.args.blob.now are (c.args.place + 4) c.in-Ok.head says in
    elim c.then-head-blob.branch [
      | then-head-blob-via-then-head-blob w ↦ absurd (w.if-head-blob.true (sym sized))
      | then-head-blob-via-else-head-blob+then-end-gt-FILE_LIMIT w ↦ omega (arith, w.if-end-gt-FILE_LIMIT.true, length-append c.args.front.now c.args.blob.now)
    ]
