use Rattle.std.proofs.Common.{◌≡◌, ℕ, ◌≤◌, List, length, take, subst, arith, ◌∙◌, ap, rules}
use Rattle.std.proofs.lemmas.List.{length-take-le, take_all}
use Rattle.byteorder.specs.Endian.{big_number}
use Rattle.pbf_frame.specs.declared.header.TheConstants.{HEADER_LIMIT}
use Rattle.pbf_frame.specs.Devices.{Passes, prepend}
use Rattle.pbf_frame.proofs.Refusing.{at_end, whatever_follows, prefix_short, prefix_large}
use Rattle.pbf_frame.proofs.frame_parts.read_prefix.Goals as goal

pub returns-then-read-lt4-clause-reads : goal.returns-then-read-lt4-clause-reads
returns-then-read-lt4-clause-reads g c =
    let read = take c.in_ok-read.read c.fill.new.buf in
    let long : length read ≡ c.in_ok-read.read = length-take-le c.in_ok-read.read c.fill.new.buf (omega (arith, c.in_ok-read.ensures.bound, c.fill.auto.buf)) in
    record {
      given = search rules;
      refused = rw (c.refused-then-read-lt4.ensures) (at_end _ _ _ _ read _ c.in_ok-read.ensures.supplied.told c.in_ok-read.ensures.supplied.logged (c.in_ok-read.ensures.end (omega (arith, c.if-read-lt4.true)))
          (prefix_short c.args.start.had_header c.args.start.place read (omega (arith, long, c.if-read-eq0.false)) (omega (arith, long, c.if-read-lt4.true))));
      uses = search rules;
    }

pub returns-then-read_u32-ge-HEADER_LIMIT-clause-reads : goal.returns-then-read_u32-ge-HEADER_LIMIT-clause-reads
returns-then-read_u32-ge-HEADER_LIMIT-clause-reads g c =
    let prefix = c.fill.new.buf in
    let long : length prefix ≡ 4 = omega (arith, c.fill.auto.buf) in
    let whole : take c.in_ok-read.read prefix ≡ prefix = take_all c.in_ok-read.read prefix (omega (arith, long, c.if-read-lt4.false)) in
    let large : HEADER_LIMIT ≤ big_number 4 prefix = omega (arith, c.read_u32.ensures, c.if-read_u32-ge-HEADER_LIMIT.true) in
    record {
      given = search rules;
      refused = rw (c.refused-then-read_u32-ge-HEADER_LIMIT.ensures) (whatever_follows _ _ _ _ prefix _
          (c.in_ok-read.ensures.supplied.told ∙ ap (λ (l : List ℕ). prepend l (g.F.Feed.remaining c.fill.new.feed)) whole)
          (subst (λ (l : List ℕ). Passes (g.F.Feed.has_passed c.args.feed.now) l (g.F.Feed.has_passed c.fill.new.feed)) whole c.in_ok-read.ensures.supplied.logged)
          (λ rest. prefix_large c.args.start.had_header c.args.start.place prefix rest long large));
      uses = search rules;
    }
