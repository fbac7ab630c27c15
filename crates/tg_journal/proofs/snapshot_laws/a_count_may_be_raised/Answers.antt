use Rattle.tg_journal.proofs.RaisedLaws.{IsSnapshot-raised, IsSound-unreached, IsSnapshotOf-raised, given_later}
use Rattle.tg_journal.proofs.snapshot_laws.a_count_may_be_raised.Goals as goal

pub returns : goal.returns
returns c = record {
  accepted = IsSnapshot-raised;
  sound = λ g made sound more. IsSound-unreached g made sound more;
  of = λ p g made sound is more. IsSnapshotOf-raised g made sound more p is;
  names = given_later;
}
