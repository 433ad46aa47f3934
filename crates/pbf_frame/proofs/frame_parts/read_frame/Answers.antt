use Rattle.std.proofs.Common.{ap, refl, subst, ◌≡◌, ℕ, ◌+◌, true, List, Option, length, arith}
use Rattle.std.specs.Prelude.{IfNone}
use Rattle.pbf_frame.specs.Devices.{IsAtEnd, Passes, given_prefix}
use Rattle.std.proofs.lemmas.Result.{err_from_is_err_and}
use Rattle.pbf_frame.specs.Reads.{GaveBlob}
use Rattle.pbf_frame.specs.Refusals.{RefusedBy}
use Rattle.pbf_frame.proofs.Passed.{passes_nothing}
use Rattle.pbf_frame.specs.Steps.{blob_of}
use Rattle.pbf_frame.proofs.Passing.{frame_read}
use Rattle.pbf_frame.proofs.FrameLemmas.{gave_end, prefix_given, gave_frame}
use Rattle.pbf_frame.proofs.FrontLemmas.{still_untold}
use Rattle.pbf_frame.proofs.Refusing.{prefix_read, refused_prefix, refused_header, refused_blob}
use Rattle.pbf_frame.proofs.frame_parts.read_frame.Goals as goal

pub returns-in_err-prefix-clause-refused : goal.returns-in_err-prefix-clause-refused
returns-in_err-prefix-clause-refused g c =
    let p = err_from_is_err_and c.from_residual.result c.from_residual.ensures.1 in
    rw (p.1, p.2) (refused_prefix c.args.start.had_header c.args.start.place _ _ _ _ _ c.in_err-prefix.ensures.reads.refused)

pub returns-in_default-clause-ended : goal.returns-in_default-clause-ended
returns-in_default-clause-ended g c =
    let old = g.F.Feed.remaining c.args.feed.now in
    let new = g.F.Feed.remaining c.read_prefix.new.feed in
    let before = g.F.Feed.has_passed c.args.feed.now in
    let now = g.F.Feed.has_passed c.read_prefix.new.feed in
    let ended = subst (λ (o : Option (List ℕ)). IfNone o (IsAtEnd new × (c.args.start.had_header ≡ true))) c.in_default.is c.in_ok-prefix.ensures.ended in
    gave_end c.args.start.had_header c.args.start.place before now old new (prefix_given c.args.start.had_header c.args.start.place _ _ old new c.in_default.is c.in_ok-prefix.ensures.reads.given) (still_untold old new (given_prefix c.in_ok-prefix.field-0) c.in_ok-prefix.ensures.supplied.told)
    ended.0 ended.1
    (passes_nothing before now (subst (λ (o : Option (List ℕ)). Passes before (given_prefix o) now) c.in_default.is c.in_ok-prefix.ensures.supplied.logged))

pub returns-in_err-head-clause-refused : goal.returns-in_err-head-clause-refused
returns-in_err-head-clause-refused g c =
    let p = err_from_is_err_and c.from_residual-in_err-head.result c.from_residual-in_err-head.ensures.1 in
    let first = prefix_read _ _ _ _ _ c.in-Some.prefix c.in-Some.is c.in_ok-prefix.ensures.supplied.told c.in_ok-prefix.ensures.supplied.logged c.in_ok-prefix.ensures.small in
    rw (p.1, p.2) (refused_header c.args.start.had_header c.args.start.place _ _ _ c.in-Some.prefix _ _ first _ _ c.in_err-head.ensures.reads.refused)

pub returns-in_err-read_blob-clause-refused : goal.returns-in_err-read_blob-clause-refused
returns-in_err-read_blob-clause-refused g c =
    let p = err_from_is_err_and c.from_residual-in_err-read_blob.result c.from_residual-in_err-read_blob.ensures.1 in
    let header = c.read_header.new.header.items in
    let head = c.in_ok-head.head in
    let q2 = g.F.Feed.has_passed c.read_header.new.feed in
    let q3 = g.F.Feed.has_passed c.read_blob.new.feed in
    let next = g.F.Feed.remaining c.read_header.new.feed in
    let new = g.F.Feed.remaining c.read_blob.new.feed in
    let long : c.len.result ≡ length header = omega (arith, c.len.ensures, c.read_header.new.header.ok.0) in
    let refused = subst (λ (n : ℕ). RefusedBy (blob_of head.kind head.size (c.args.start.place + 4 + n)) q2 q3 next new c.in_err-read_blob.field-0.0) long c.in_err-read_blob.ensures.refused in
    let first = prefix_read _ _ _ _ _ c.in-Some.prefix c.in-Some.is c.in_ok-prefix.ensures.supplied.told c.in_ok-prefix.ensures.supplied.logged c.in_ok-prefix.ensures.small in
    rw (p.1, p.2) (refused_blob c.args.start.had_header c.args.start.place _ _ _ c.in-Some.prefix _ _ first _ _ _ _ header head c.in_ok-head.ensures.supplied.told c.in_ok-head.ensures.supplied.logged c.in_ok-head.ensures.spelled c.in_ok-head.ensures.head c.in_ok-head.ensures.ordered refused)

pub returns-clause-gave : goal.returns-clause-gave
returns-clause-gave g c =
    let old = g.F.Feed.remaining c.args.feed.now in
    let mid = g.F.Feed.remaining c.read_prefix.new.feed in
    let next = g.F.Feed.remaining c.read_header.new.feed in
    let new = g.F.Feed.remaining c.read_blob.new.feed in
    let head = c.in_ok-head.head in
    let held = c.read_blob.new.blob.items in
    let q0 = g.F.Feed.has_passed c.args.feed.now in
    let q1 = g.F.Feed.has_passed c.read_prefix.new.feed in
    let q2 = g.F.Feed.has_passed c.read_header.new.feed in
    let q3 = g.F.Feed.has_passed c.read_blob.new.feed in
    let given = prefix_given c.args.start.had_header c.args.start.place _ _ old mid c.in-Some.is c.in_ok-prefix.ensures.reads.given in
    let long : c.len.result ≡ length c.read_header.new.header.items = omega (arith, c.len.ensures, c.read_header.new.header.ok.0) in
    let blob = subst (λ (n : ℕ). GaveBlob head.kind head.size (c.args.start.place + 4 + n) held q2 q3 next new) long c.in_ok-read_blob.ensures.gave in
    let first = prefix_read q0 q1 old mid _ c.in-Some.prefix c.in-Some.is c.in_ok-prefix.ensures.supplied.told c.in_ok-prefix.ensures.supplied.logged c.in_ok-prefix.ensures.small in
    let is_frame = frame_read c.args.start.had_header c.args.start.place c.in-Some.prefix c.read_header.new.header.items blob.blob held head first.long first.small c.in_ok-head.ensures.spelled c.in_ok-head.ensures.head c.in_ok-head.ensures.ordered blob.long blob.holds in
    gave_frame c.args.start.had_header c.args.start.place c.in-Some.prefix c.read_header.new.header.items held head _ q0 q1 q2 q3 old mid next new given (still_untold old mid c.in-Some.prefix first.told) c.in_ok-head.ensures.reads.given (still_untold mid next c.read_header.new.header.items c.in_ok-head.ensures.supplied.told) c.in_ok-head.ensures.head blob is_frame first.logged c.in_ok-head.ensures.supplied.logged refl refl refl (ap (λ (n : ℕ). c.args.start.place + 4 + n) long)
