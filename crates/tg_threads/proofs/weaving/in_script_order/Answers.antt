use Rattle.std.proofs.Common.{◌+◌, ◌∙◌, map, take, refl, sym, subst, arith}
use Rattle.std.proofs.lemmas.List.{length-map, take_all}
use Rattle.tg_threads.proofs.ShareLaws.{run_same, runner_below}
use Rattle.tg_threads.proofs.OrderLaws.{IsSeen, count_below, length_at, whole_at, seen_more, seen_all}
use Rattle.tg_threads.proofs.weaving.in_script_order.Goals as goal

pub next_told-requires-clause-more : goal.next_told-requires-clause-more
next_told-requires-clause-more g c = λ x by.
    let names = c.args.names.now in
    let low = runner_below names x c.line-item.result c.requires.some by in
    let below = count_below names x c.loop-line.line-index c.args.lines.now c.line-item.result c.loop-line-test.true c.line-item.is (run_same names x x c.line-item.result by refl) in
    let whole = whole_at names (λ f. f.told.items) c.args.finished.now c.args.lines.now c.requires.whole x low in
    let same = length_at (λ f. f.told.items) c.args.finished.now x in
    omega (arith, below, whole, same, c.loop-line.invariant.count x low)

pub loop-line-preserved : goal.loop-line-preserved
loop-line-preserved g c =
    let names = c.args.names.now in
    let i = c.loop-line.line-index in
    let brought = map (λ f. f.told.items) c.args.finished.now in
    let more = seen_more names brought c.args.lines.now i c.loop-line.told.items c.loop-line.seen.items c.next_told.new.seen.items c.line-item.result c.next_told.result
    c.requires.some (length-map c.args.finished.now (λ f. f.told.items) ∙ c.requires.each) (whole_at names (λ f. f.told.items) c.args.finished.now c.args.lines.now c.requires.whole)
    c.loop-line-test.true c.line-item.is c.loop-line.invariant c.next_told.ensures.nobodys c.next_told.ensures.own in
    subst (λ ts. IsSeen names brought (take (i + 1) c.args.lines.now) ts c.next_told.new.seen.items) (sym c.in_ok-push.ensures.items) more

pub returns : goal.returns
returns g c =
    let names = c.args.names.now in
    let brought = map (λ f. f.told.items) c.args.finished.now in
    let all = take_all c.loop-line.line-index c.args.lines.now c.loop-line-test.false in
    seen_all names brought c.args.lines.now c.loop-line.told.items c.loop-line.seen.items (length-map c.args.finished.now (λ f. f.told.items) ∙ c.requires.each)
    (whole_at names (λ f. f.told.items) c.args.finished.now c.args.lines.now c.requires.whole)
    (subst (λ ls. IsSeen names brought ls c.loop-line.told.items c.loop-line.seen.items) all c.loop-line.invariant)
