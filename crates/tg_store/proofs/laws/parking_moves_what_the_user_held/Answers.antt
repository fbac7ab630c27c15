use Rattle.std.proofs.Common.{cond, ap, refl}
use Rattle.std.proofs.lemmas.Bool.{eq-eqb}
use Rattle.tg_rights.specs.RightSet.{no_rights}
use Rattle.tg_model.proofs.SubjectLaws.{is_without}
use Rattle.tg_store.specs.Parking.{with_account}
use Rattle.tg_store.proofs.ParkGraph.{parked_account, parked_others}
use Rattle.tg_store.proofs.laws.parking_moves_what_the_user_held.Goals as goal

pub returns-clause-account : goal.returns-clause-account
returns-clause-account c = λ g p y apart. parked_account g p y apart

pub returns-clause-user : goal.returns-clause-user
returns-clause-user c = λ g p y. ap (λ v. cond v no_rights ((with_account g p).label p.user y)) (eq-eqb p.user p.user refl)

pub returns-clause-left : goal.returns-clause-left
returns-clause-left c = λ g p subject. ((is_without g.subjects p.user p.user).0 subject).1 refl

pub returns-clause-labels : goal.returns-clause-labels
returns-clause-labels c = λ g p x y from_account from_user. parked_others g p x y from_account from_user

pub returns-clause-subjects : goal.returns-clause-subjects
returns-clause-subjects c = λ g p x other.
    ((λ subject. ((is_without g.subjects p.user x).0 subject).0), (λ subject. (is_without g.subjects p.user x).1 (subject, other)))

pub returns-clause-rest : goal.returns-clause-rest
returns-clause-rest c = λ g p. (refl, refl)
