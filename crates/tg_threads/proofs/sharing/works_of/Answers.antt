use Rattle.std.proofs.Common.{◌≡◌, ◌++◌, ◌∷◌, [], map, sym, ap, ◌∙◌, subst}
use Rattle.std.specs.List.{All}
use Rattle.std.proofs.lemmas.List.Elements.{All-push}
use Rattle.tg_threads.specs.declared.work.Work.{Work}
use Rattle.tg_threads.proofs.ShareLaws.{all_came, map_push, one_more}
use Rattle.tg_threads.proofs.sharing.works_of.Goals as goal

pub loop-session-preserved : goal.loop-session-preserved
loop-session-preserved g c =
    let session = c.in-Some.session in
    let work : Work g.row.S.Denot g.row.P.Denot = record { session = session; tasks = c.new.result } in
    let session_of : Work g.row.S.Denot g.row.P.Denot → g.row.S.Denot = λ w. w.session in
    let None : Work g.row.S.Denot g.row.P.Denot → Type 0 = λ w. w.tasks.items ≡ [] in
    record {
      left = one_more c.loop-session.yielded c.next.new.self.rest.items c.loop-session.session-iterator.rest.items c.args.sessions.items session c.in-Some.ensures.steps.0 c.loop-session.invariant.left;
      sessions = ap (map session_of) c.in_ok-push.ensures.items ∙ map_push session_of c.loop-session.works.items work ∙ ap (λ ss. ss ++ session ∷ []) c.loop-session.invariant.sessions;
      none = subst (All None) (sym c.in_ok-push.ensures.items) (All-push None c.loop-session.works.items work c.loop-session.invariant.none c.new.ensures.items);
    }

pub returns-clause-sessions : goal.returns-clause-sessions
returns-clause-sessions g c =
    c.loop-session.invariant.sessions
    ∙ all_came c.loop-session.yielded c.loop-session.session-iterator.rest.items c.args.sessions.items c.loop-session.invariant.left (sym c.loop-session.session-iterator.rest.ok.0 ∙ c.in-None.ensures.steps.0)
