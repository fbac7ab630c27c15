use Rattle.std.proofs.Common.{◌≡◌, ◌∙◌, sym, ap}
use Rattle.tg_threads.specs.Shares.{all_sessions}
use Rattle.tg_threads.proofs.ShareLaws.{all_came, one_more, sessions_more}
use Rattle.tg_threads.proofs.weaving.sessions_of.Goals as goal

pub loop-one-preserved : goal.loop-one-preserved
loop-one-preserved g c = record {
  left = one_more c.loop-one.yielded c.next.new.self.rest.items c.loop-one.one-iterator.rest.items c.args.finished.items c.in-Some.one c.in-Some.ensures.steps.0 c.loop-one.invariant.left;
  sessions = sessions_more c.loop-one.yielded c.in-Some.one c.loop-one.sessions.items c.push.new.self.items c.append.new.self.items c.loop-one.invariant.sessions c.in_ok-push.ensures.items c.in_ok-append.ensures.items;
}

pub returns : goal.returns
returns g c =
    let all : c.loop-one.yielded ≡ c.args.finished.items = all_came c.loop-one.yielded c.loop-one.one-iterator.rest.items c.args.finished.items c.loop-one.invariant.left (sym c.loop-one.one-iterator.rest.ok.0 ∙ c.in-None.ensures.steps.0) in
    c.loop-one.invariant.sessions ∙ ap all_sessions all
