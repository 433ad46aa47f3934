use Rattle.std.proofs.Common.{◌≡◌, length, arith, subst}
use Rattle.pbfcut.specs.Calls.{drained}
use Rattle.pbfcut.specs.TaskCalls.{DoesTask}
use Rattle.pbfcut.specs.Tasks.{checking, converting, copying, passes_of, plain_task, showing}
use Rattle.pbfcut.proofs.TaskLemmas.{does_check, does_convert, does_copy, does_show, one_used, two_used}
use Rattle.pbfcut.proofs.task.PlainTaskFileTask.run.Goals as goal

pub returns-in-Check : goal.returns-in-Check
returns-in-Check g c =
    let cut = c.split_at_mut-one in
    let call = c.check_with_receipt in
    let n : length c.args.feeds.now ≡ 1 = subst (λ t. length c.args.feeds.now ≡ passes_of (plain_task t)) c.in-Check.is c.requires in
    let none : length cut.result.1.now ≡ 0 = omega (arith, cut.ensures.back_len, n) in
    rw c.in-Check.is (one_used g.F.Feed (λ feeds. DoesTask checking feeds (drained g.D.Drain c.args.drain.now c.args.drain.now) c.args.passes.check call.result) c.args.feeds.now cut.result.0.now cut.result.1.now c.index-one-0.result
    call.new.feed cut.ensures.value cut.ensures.front_len none
    (does_check g.F.Feed _ _ g.D.Drain c.args.drain.now c.args.passes.check call.result call.ensures.receipt call.ensures.ends))

pub returns-in-Show : goal.returns-in-Show
returns-in-Show g c =
    let cut = c.split_at_mut-one in
    let call = c.show_with_receipt in
    let out = drained g.D.Drain c.args.drain.now call.new.drain in
    let n : length c.args.feeds.now ≡ 2 = subst (λ t. length c.args.feeds.now ≡ passes_of (plain_task t)) c.in-Show.is c.requires in
    let last : length cut.result.1.now ≡ 1 = omega (arith, cut.ensures.back_len, n) in
    rw c.in-Show.is (two_used g.F.Feed (λ feeds. DoesTask (showing c.in-Show.dates) feeds out c.args.passes.check call.result) c.args.feeds.now cut.result.0.now cut.result.1.now c.index-one-0-in-Show.result c.index-two-0.result
    call.new.first call.new.second cut.ensures.value cut.ensures.front_len last
    (does_show out c.args.passes.check _ _ c.in-Show.dates call.result call.ensures.receipt call.ensures.ends call.ensures.beginning))

pub returns-in-Convert : goal.returns-in-Convert
returns-in-Convert g c =
    let cut = c.split_at_mut-one in
    let call = c.convert_with_receipt in
    let out = drained g.D.Drain c.args.drain.now call.new.drain in
    let n : length c.args.feeds.now ≡ 2 = subst (λ t. length c.args.feeds.now ≡ passes_of (plain_task t)) c.in-Convert.is c.requires in
    let last : length cut.result.1.now ≡ 1 = omega (arith, cut.ensures.back_len, n) in
    rw c.in-Convert.is (two_used g.F.Feed (λ feeds. DoesTask converting feeds out c.args.passes.check call.result) c.args.feeds.now cut.result.0.now cut.result.1.now c.index-one-0-in-Convert.result c.index-two-0-in-Convert.result
    call.new.first call.new.second cut.ensures.value cut.ensures.front_len last
    (does_convert out c.args.passes.check _ _ call.result call.ensures.receipt call.ensures.ends call.ensures.beginning))

pub returns-in-Copy : goal.returns-in-Copy
returns-in-Copy g c =
    let cut = c.split_at_mut-one in
    let call = c.copy_with_receipt in
    let out = drained g.D.Drain c.args.drain.now call.new.drain in
    let n : length c.args.feeds.now ≡ 2 = subst (λ t. length c.args.feeds.now ≡ passes_of (plain_task t)) c.in-Copy.is c.requires in
    let last : length cut.result.1.now ≡ 1 = omega (arith, cut.ensures.back_len, n) in
    rw c.in-Copy.is (two_used g.F.Feed (λ feeds. DoesTask copying feeds out c.args.passes.check call.result) c.args.feeds.now cut.result.0.now cut.result.1.now c.index-one-0-in-Copy.result c.index-two-0-in-Copy.result
    call.new.first call.new.second cut.ensures.value cut.ensures.front_len last
    (does_copy out c.args.passes.check _ _ call.result call.ensures.receipt call.ensures.ends call.ensures.beginning))
