use Rattle.std.proofs.Common.{arith, rules}
use Rattle.pbf_unpack.proofs.WholeLemmas.{took_two, cut_prefix, cut_prefix_stored, long_header, long_header_stored, cut_header, cut_header_stored, no_head, no_head_stored}
use Rattle.pbf_unpack.proofs.whole.read_front.Goals as goal

pub returns-then-len-lt4-clause-means : goal.returns-then-len-lt4-clause-means
returns-then-len-lt4-clause-means g c = grind (arith, cut_prefix)

pub returns-then-length-ge-HEADER_LIMIT-clause-means : goal.returns-then-length-ge-HEADER_LIMIT-clause-means
returns-then-length-ge-HEADER_LIMIT-clause-means g c = grind (arith, long_header c.args.place c.fill_vec.new.buf.items (omega (arith, c.len.ensures, c.if-len-lt4.false, c.in_ok-fill_vec.ensures.bound, c.fill_vec.new.buf.ok.0)) (search rules))

pub returns-then-len-length-clause-took : goal.returns-then-len-length-clause-took
returns-then-len-length-clause-took g c = took_two _ _ _ _ _ _ _ _ _ (search rules) c.in_ok-fill_vec.ensures.supplied.told c.in_ok-fill_vec.ensures.supplied.logged c.in_ok-fill_vec-2.ensures.supplied.told c.in_ok-fill_vec-2.ensures.supplied.logged

pub returns-in-Ok-clause-took : goal.returns-in-Ok-clause-took
returns-in-Ok-clause-took g c = took_two _ _ _ _ _ _ _ _ _ (search rules) c.in_ok-fill_vec.ensures.supplied.told c.in_ok-fill_vec.ensures.supplied.logged c.in_ok-fill_vec-2.ensures.supplied.told c.in_ok-fill_vec-2.ensures.supplied.logged

pub returns-in-Err-clause-took : goal.returns-in-Err-clause-took
returns-in-Err-clause-took g c = took_two _ _ _ _ _ _ _ _ _ (search rules) c.in_ok-fill_vec.ensures.supplied.told c.in_ok-fill_vec.ensures.supplied.logged c.in_ok-fill_vec-2.ensures.supplied.told c.in_ok-fill_vec-2.ensures.supplied.logged

pub returns-then-len-length-clause-means : goal.returns-then-len-length-clause-means
returns-then-len-length-clause-means g c = grind (arith, cut_header c.args.place c.fill_vec.new.buf.items c.fill_vec-2.new.buf.items (g.F.Feed.remaining c.fill_vec-2.new.feed))

pub returns-in-Err-clause-means : goal.returns-in-Err-clause-means
returns-in-Err-clause-means g c = grind (arith, no_head)

pub returns-then-len-lt4-clause-stores : goal.returns-then-len-lt4-clause-stores
returns-then-len-lt4-clause-stores g c = grind (arith, cut_prefix_stored)

pub returns-then-length-ge-HEADER_LIMIT-clause-stores : goal.returns-then-length-ge-HEADER_LIMIT-clause-stores
returns-then-length-ge-HEADER_LIMIT-clause-stores g c = grind (arith, long_header_stored c.args.place c.fill_vec.new.buf.items (omega (arith, c.len.ensures, c.if-len-lt4.false, c.in_ok-fill_vec.ensures.bound, c.fill_vec.new.buf.ok.0)) (search rules))

pub returns-then-len-length-clause-stores : goal.returns-then-len-length-clause-stores
returns-then-len-length-clause-stores g c = grind (arith, cut_header_stored c.args.place c.fill_vec.new.buf.items c.fill_vec-2.new.buf.items)

pub returns-in-Err-clause-stores : goal.returns-in-Err-clause-stores
returns-in-Err-clause-stores g c = grind (arith, no_head_stored c.args.place c.fill_vec.new.buf.items c.fill_vec-2.new.buf.items)
