use Rattle.std.proofs.Common.{◌≡◌, ◌+◌, length, refl, subst, arith}
use Rattle.pbf_unpack.specs.declared.whole.Front.{Front}
use Rattle.pbf_unpack.specs.Whole.{BeginsWith}
use Rattle.pbf_unpack.proofs.WholeLemmas.{took_two, ends_too_far, ends_too_far_stored, cut_blob, cut_blob_stored, whole_means, whole_stores}
use Rattle.pbf_unpack.proofs.whole.read_whole.Goals as goal

pub returns-then-end-gt-FILE_LIMIT-clause-means : goal.returns-then-end-gt-FILE_LIMIT-clause-means
returns-then-end-gt-FILE_LIMIT-clause-means g c = grind (arith, ends_too_far)

pub returns-then-len-head-clause-took : goal.returns-then-len-head-clause-took
returns-then-len-head-clause-took g c = took_two _ _ _ _ _ _ _ _ _ refl c.in_ok-head.ensures.took.told c.in_ok-head.ensures.took.logged c.in_ok-fill_vec.ensures.supplied.told c.in_ok-fill_vec.ensures.supplied.logged

pub returns-clause-took : goal.returns-clause-took
returns-clause-took g c = took_two _ _ _ _ _ _ _ _ _ refl c.in_ok-head.ensures.took.told c.in_ok-head.ensures.took.logged c.in_ok-fill_vec.ensures.supplied.told c.in_ok-fill_vec.ensures.supplied.logged

pub returns-then-len-head-clause-means : goal.returns-then-len-head-clause-means
returns-then-len-head-clause-means g c =
    let read = c.read_front.new.front in
    let blob = c.fill_vec.new.buf in
    let has = subst (λ (x : Front). BeginsWith c.args.place read.items c.read_front.new.header.items (g.F.Feed.remaining c.read_front.new.feed) x) c.in-Says.is c.in_ok-head.ensures.means in
    cut_blob c.args.place read.items c.read_front.new.header.items c.in-Says.head has blob.items (g.F.Feed.remaining c.fill_vec.new.feed) (omega (arith, c.if-len-head.true, c.len-2.ensures, blob.ok.0)) (c.in_ok-fill_vec.ensures.end (omega (arith, c.if-len-head.true, c.len-2.ensures)))

pub returns-clause-means : goal.returns-clause-means
returns-clause-means g c =
    let read = c.read_front.new.front in
    let blob = c.fill_vec.new.buf in
    let has = subst (λ (x : Front). BeginsWith c.args.place read.items c.read_front.new.header.items (g.F.Feed.remaining c.read_front.new.feed) x) c.in-Says.is c.in_ok-head.ensures.means in
    let place : c.args.place + c.len.result ≡ c.args.place + length read.items = omega (arith, c.len.ensures, read.ok.0) in
    let sized : length blob.items ≡ c.in-Says.head.size = omega (arith, c.if-len-head.false, c.len-2.ensures, blob.ok.0, c.in_ok-fill_vec.ensures.bound) in
    whole_means c.args.place read.items c.read_front.new.header.items c.in-Says.head has blob.items sized _ _ place (omega (arith, c.from.ensures, place)) (omega (arith, c.if-end-gt-FILE_LIMIT.false, c.from.ensures, place))

pub returns-then-end-gt-FILE_LIMIT-clause-stores : goal.returns-then-end-gt-FILE_LIMIT-clause-stores
returns-then-end-gt-FILE_LIMIT-clause-stores g c = grind (arith, ends_too_far_stored)

pub returns-then-len-head-clause-stores : goal.returns-then-len-head-clause-stores
returns-then-len-head-clause-stores g c =
    let read = c.read_front.new.front in
    let blob = c.fill_vec.new.buf in
    let has = subst (λ (x : Front). BeginsWith c.args.place read.items c.read_front.new.header.items (g.F.Feed.remaining c.read_front.new.feed) x) c.in-Says.is c.in_ok-head.ensures.means in
    cut_blob_stored c.args.place read.items c.read_front.new.header.items c.in-Says.head has blob.items (omega (arith, c.if-len-head.true, c.len-2.ensures, blob.ok.0))

pub returns-clause-stores : goal.returns-clause-stores
returns-clause-stores g c =
    let read = c.read_front.new.front in
    let blob = c.fill_vec.new.buf in
    let has = subst (λ (x : Front). BeginsWith c.args.place read.items c.read_front.new.header.items (g.F.Feed.remaining c.read_front.new.feed) x) c.in-Says.is c.in_ok-head.ensures.means in
    let place : c.args.place + c.len.result ≡ c.args.place + length read.items = omega (arith, c.len.ensures, read.ok.0) in
    let sized : length blob.items ≡ c.in-Says.head.size = omega (arith, c.if-len-head.false, c.len-2.ensures, blob.ok.0, c.in_ok-fill_vec.ensures.bound) in
    whole_stores c.args.place read.items c.read_front.new.header.items c.in-Says.head has blob.items sized _ _ place (omega (arith, c.from.ensures, place)) (omega (arith, c.if-end-gt-FILE_LIMIT.false, c.from.ensures, place))
