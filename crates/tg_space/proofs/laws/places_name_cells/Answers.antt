use Rattle.tg_space.proofs.Flat.{flat_inside, same_place, get_or-flat_of}
use Rattle.tg_space.proofs.laws.places_name_cells.Goals as goal

pub returns-clause-inside : goal.returns-clause-inside
returns-clause-inside c = λ h is p held. flat_inside h is.spaces p held

pub returns-clause-apart : goal.returns-clause-apart
returns-clause-apart c = λ h is p q hp hq same. same_place h is.spaces p q hp hq same

pub returns-clause-words : goal.returns-clause-words
returns-clause-words c = λ h is p held. get_or-flat_of h is.spaces p held
