-- Nobody may take from the owner of the store that is opened.
use Rattle.examples.proofs.stand_in.desk.furnished.Goals as goal

pub desk_of-requires : goal.desk_of-requires
desk_of-requires g c = record { untaken = c.in-Ok.ensures }
