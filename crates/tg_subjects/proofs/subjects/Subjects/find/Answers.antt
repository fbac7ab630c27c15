use Rattle.tg_subjects.proofs.TableLaws.{found_by, nursery_found}
use Rattle.tg_subjects.proofs.subjects.Subjects.find.Goals as goal

pub returns-clause-found : goal.returns-clause-found
returns-clause-found c = let told = rw c.as_slice.ensures.value at c.find_in.ensures in found_by c.args.self.now c.args.name c.find_in.result told.there told.none

pub returns-clause-nursery : goal.returns-clause-nursery
returns-clause-nursery c = nursery_found c.args.self.now c.args.name c.find_in.result c.as_slice.ensures.subjects (rw c.as_slice.ensures.value at c.find_in.ensures.there)
