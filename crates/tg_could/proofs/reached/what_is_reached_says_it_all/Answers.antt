use Rattle.tg_model.specs.Opened.{label_in}
use Rattle.tg_could.proofs.ReachedLaws.{Known, lead_on, never_on, picture_agrees}
use Rattle.tg_could.proofs.reached.what_is_reached_says_it_all.Goals as goal

pub returns-clause-never : goal.returns-clause-never
returns-clause-never c silent p g x right y shows never =
    never_on silent g (label_in p.edges) (Known g) (picture_agrees p g shows.sound shows.picture) x shows.known right y never

pub returns-clause-could : goal.returns-clause-could
returns-clause-could c silent p g x right y shows turns lead =
    lead_on silent g (label_in p.edges) (Known g) (picture_agrees p g shows.sound shows.picture) x shows.known right y turns lead
