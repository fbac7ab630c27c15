use Rattle.tg_shared.proofs.Knowing.{gone_made, none_of}
use Rattle.tg_shared.proofs.laws.a_session_with_a_retire_has_no_subject.Goals as goal

pub returns : goal.returns
returns c = λ start all session own among here.
    gone_made start here.0 all here.1 here.2 here.3.0 session.worker session.made own.sees.own (none_of start here.0 all here.3.0 session.worker own.alone) among here.3.1
