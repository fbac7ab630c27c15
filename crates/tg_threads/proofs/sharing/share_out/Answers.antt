use Rattle.std.proofs.Common.{◌≡◌, ◌∙◌, List, map, subst}
use Rattle.std.specs.Prelude.{IfOk}
use Rattle.tg_threads.specs.Boxes.{Boxed}
use Rattle.tg_threads.specs.Shares.{all_shares, lines_in}
use Rattle.tg_threads.specs.declared.work.Work.{Work}
use Rattle.tg_threads.proofs.ShareLaws.{as_many}
use Rattle.tg_threads.proofs.sharing.share_out.Goals as goal

pub deal-requires-clause-each : goal.deal-requires-clause-each
deal-requires-clause-each g c = as_many _ c.in_ok-works.works.items c.args.sessions.items c.in_ok-works.ensures.sessions ∙ c.requires.each

pub returns-clause-sessions : goal.returns-clause-sessions
returns-clause-sessions g c =
    let session_of : Work g.row.S.Denot g.row.P.Denot → g.row.S.Denot = λ w. w.session in
    subst (λ (ss : List g.row.S.Denot). IfOk c.deal.result (λ works. map session_of works.items ≡ ss)) c.in_ok-works.ensures.sessions c.deal.ensures.sessions

pub returns-clause-lines : goal.returns-clause-lines
returns-clause-lines g c =
    subst (λ (bs : List Boxed). IfOk c.deal.result (λ works. map lines_in works.items ≡ all_shares c.args.names.now bs)) c.in_ok-tasks.ensures c.deal.ensures.lines
